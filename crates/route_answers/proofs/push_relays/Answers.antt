-- The count is put before the addresses.
use mathlib.Core.Path.{◌∙◌}
use Rattle.route_answers.proofs.push_relays.Goals as goal

pub returns : goal.returns
returns c = c.push_addresses.ensures ∙ rw c.push-m.ensures
