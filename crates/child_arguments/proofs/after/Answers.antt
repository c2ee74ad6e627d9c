-- By whether it is given.
use mathlib.Core.Path.{sym, ◌∙◌}
use Rattle.child_arguments.specs.Arguments.{past}
use Rattle.neighbor_queries.proofs.Checked.{picks_first, picks_second}
use Rattle.child_arguments.proofs.after.Goals as goal

pub returns-then-flag : goal.returns-then-flag
unfolding past
returns-then-flag c = sym (picks_first _ _ (sym c.flag.ensures ∙ c.if-flag.true))

pub returns-else-flag : goal.returns-else-flag
unfolding past
returns-else-flag c = sym (picks_second _ _ (sym c.flag.ensures ∙ c.if-flag.false))
