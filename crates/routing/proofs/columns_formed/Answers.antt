-- The tests of the three tables, in the definition's order.
use Rattle.routing.proofs.columns_formed.Goals as goal

pub returns : goal.returns
returns c = rw (c.well_formed-records_fine.ensures, c.well_formed-discoveries_fine.ensures, c.well_formed-routes_fine.ensures)
