-- The columns of the state, lent to their test.
use Rattle.neighbors.proofs.State.{columns-told}
use borrow.Author.Rules.{rules}
use Rattle.neighbors.proofs.Neighbors.well_formed.Goals as goal

pub slice_bounds-columns_formed-end-12 : goal.slice_bounds-columns_formed-end-12
slice_bounds-columns_formed-end-12 c = search (rules, c.well_formed.0.1.1.1.1.1.1.1.1.1.1.1.1)

pub returns : goal.returns
returns c = columns-told c.args.self c.columns_formed.ensures
