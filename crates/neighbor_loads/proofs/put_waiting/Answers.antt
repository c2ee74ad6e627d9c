-- The entry is read and put.
use mathlib.Core.Path.{◌∙◌}
use Rattle.neighbor_loads.specs.Loads.{put_waiting}
use Rattle.neighbor_loads.proofs.put_waiting.Goals as goal

pub returns : goal.returns
unfolding put_waiting
returns c = c.load_waiting.ensures ∙ rw c.waiting_entry_at-e.ensures
