-- By whether it is given.
use Rattle.std.specs.Prelude.{Some}
use mathlib.Core.Path.{sym, ap, ◌∙◌}
use Rattle.neighbor_queries.proofs.Checked.{picks_first, picks_second}
use Rattle.decision_lines.proofs.header.optional_eui64.Goals as goal

pub returns-then-flag : goal.returns-then-flag
returns-then-flag c = ap Some c.eui64.ensures ∙ sym (picks_first _ _ (sym c.flag.ensures ∙ c.if-flag.true))

pub returns-else-flag : goal.returns-else-flag
returns-else-flag c = sym (picks_second _ _ (sym c.flag.ensures ∙ c.if-flag.false))
