-- The destination and the relays are put after the first number.
use mathlib.Core.Path.{◌∙◌}
use Rattle.route_answers.proofs.record_values.Goals as goal

pub returns : goal.returns
returns c = c.answered.ensures ∙ rw (c.push_relays.ensures, c.push-k.ensures, c.push-m.ensures, c.none-n.ensures)
