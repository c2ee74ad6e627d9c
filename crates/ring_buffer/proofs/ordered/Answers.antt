-- `ring_buffer::ordered` meets its contract: its answer is three exchanges of the samples, and three exchanges put three numbers in
-- order.
use borrow.Author.Rules.{rules}
use Rattle.ring_buffer.proofs.Sorting.{three-ordered}
use Rattle.ring_buffer.proofs.ordered.Goals as goal

pub returns : goal.returns
returns c =
    let a = c.args.samples in
    rw (c.exchange-3.ensures, c.exchange-2.ensures, c.exchange.ensures) (three-ordered a (search rules))
