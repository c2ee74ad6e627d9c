-- Each column of a fresh state is noughts, as in a table of no rows.
-- Assumes nothing.
use mathlib.Core.Path.{refl}
use Rattle.route_table.specs.Table as routes
use Rattle.discovery_table.specs.Table as discoveries
use Rattle.record_table.specs.Table as records
use Rattle.routing.proofs.Routing.new.Goals as goal

pub returns : goal.returns
unfolding routes.table_of discoveries.table_of records.table_of
returns c = refl
