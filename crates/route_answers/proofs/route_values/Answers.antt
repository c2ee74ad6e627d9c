-- Each field is one number, in the line's order.
use mathlib.Core.Path.{◌∙◌}
use Rattle.route_answers.proofs.route_values.Goals as goal

pub returns : goal.returns
returns c = c.said.ensures ∙ rw (c.flag_number-expired.ensures, c.flag_number-required.ensures, c.flag_number-many.ensures, c.flag_number-cache.ensures, c.status_number-status.ensures)
