-- The status decides as in the definition.
-- Assumes nothing.
use mathlib.Core.Path.{sym, ◌∙◌}
use Rattle.route_calls.proofs.sought.Goals as goal

pub returns-then-is_active : goal.returns-then-is_active
returns-then-is_active c = rw (sym c.is_active.ensures ∙ c.if-is_active.true)

pub returns : goal.returns
returns c = c.with_status.ensures ∙ sym (rw (sym c.is_active.ensures ∙ c.if-is_active.false))
