-- Each counter is read from its own place.
-- Assumes nothing.
use mathlib.Core.Path.{◌∙◌}
use Rattle.route_loads.specs.Loads.{put_counters}
use Rattle.route_loads.proofs.put_counters.Goals as goal

pub returns : goal.returns
unfolding put_counters
returns c = c.load.ensures ∙ rw (c.byte-failures.ensures, c.byte-errors.ensures, c.byte-id.ensures)
