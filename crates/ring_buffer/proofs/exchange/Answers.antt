-- `ring_buffer::exchange` meets its contract: two samples in order are left, and two that are not change places,
-- which is what the definition makes of the list in either case.
use mathlib.Core.Path.{◌∙◌}
use borrow.Author.Rules.{rules}
use native.Mathlib.Omega.{arith}
use Rattle.ring_buffer.proofs.Sorting.{kept, traded}
use Rattle.ring_buffer.proofs.exchange.Goals as goal

pub returns-then-samples-i : goal.returns-then-samples-i
returns-then-samples-i c = c.swap.ensures.after ∙ traded c.args.samples c.args.i (search rules) (omega (arith, c.if-samples-i.true))

pub returns-else-samples-i : goal.returns-else-samples-i
returns-else-samples-i c = kept c.args.samples c.args.i c.if-samples-i.false
