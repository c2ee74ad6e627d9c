-- The two tables of route search in memory that is lent: both for change, the routes for change beside discoveries of which the values alone
-- are, or both for reading. Assumes nothing.
use Rattle.std.specs.Prelude.{List, ◌≡◌}
use Rattle.standard.specs.declared.DiscoveryEntry.{DiscoveryEntry}
use Rattle.standard.specs.declared.RouteEntry.{RouteEntry}
use Rattle.standard.specs.Tables.{Tables}
use Rattle.route_table.specs.declared.Routes.{Routes}
use Rattle.route_table.specs.declared.RoutesSeen.{RoutesSeen}
use Rattle.route_table.specs.Lent as routes
use Rattle.discovery_table.specs.declared.Discoveries.{Discoveries}
use Rattle.discovery_table.specs.declared.DiscoveryValues.{DiscoveryValues}
use Rattle.discovery_table.specs.declared.DiscoveriesSeen.{DiscoveriesSeen}
use Rattle.discovery_table.specs.Lent as discoveries
use Rattle.search_tables.specs.Packed.{SearchTables, tables_of}

-- the tables that are lent, and their rows
abbrev pub lent : Routes → Discoveries → SearchTables
lent r d = record { routes = routes.table r; discoveries = discoveries.table d }

abbrev pub rows_lent : Routes → Discoveries → Tables
rows_lent r d = tables_of (lent r d)

abbrev pub lent_values : Routes → DiscoveryValues → SearchTables
lent_values r d = record { routes = routes.table r; discoveries = discoveries.value_table d }

abbrev pub seen : RoutesSeen → DiscoveriesSeen → SearchTables
seen r d = record { routes = routes.seen_table r; discoveries = discoveries.seen_table d }

-- rows side by side
abbrev pub both : List RouteEntry → List DiscoveryEntry → Tables
both xs ds = record { routes = xs; discoveries = ds }

-- the same memory is lent
pub record SameMemory (r r' : Routes) (d d' : Discoveries) : Type 0 where
  pub routes : routes.SameColumns r r'
  pub discoveries : discoveries.SameColumns d d'

-- the same where the values alone of the discoveries are lent for change: their keys and their count stay
pub record SameValues (r r' : Routes) (d d' : DiscoveryValues) : Type 0 where
  pub routes : routes.SameColumns r r'
  pub keys : d'.keys ≡ d.keys
  pub words : d'.words.ghost_name ≡ d.words.ghost_name
  pub ends : d'.ends.ghost_name ≡ d.ends.ghost_name
  pub count : d'.count ≡ d.count
