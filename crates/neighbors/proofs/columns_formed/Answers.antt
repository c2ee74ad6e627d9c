-- The tests of the two tables, in the definition's order.
use Rattle.neighbors.proofs.columns_formed.Goals as goal

pub returns : goal.returns
returns c = rw (c.well_formed-heard_of.ensures, c.well_formed-known.ensures)
