-- The two tables that the rules of route search read and write: their columns as ordered rows, and rows packed into columns.
-- Assumes nothing.
use Rattle.std.specs.Prelude.{ℕ, List, ◌≡◌}
use Rattle.types.specs.declared.Nwk.{Nwk}
use Rattle.standard.specs.declared.DiscoveryEntry.{DiscoveryEntry}
use Rattle.standard.specs.Discovery.{pair_key, discovery_key}
use Rattle.standard.specs.Tables.{Tables}
use Rattle.route_table.specs.Table as routes
use Rattle.discovery_table.specs.Table as discoveries

pub record SearchTables : Type 0 where
  pub routes : routes.RouteTable
  pub discoveries : discoveries.DiscoveryTable

-- the two tables in columns that are lent: keys, words and usage counts of n routes; keys, words and ends of m discoveries
abbrev pub in_columns : List ℕ → List ℕ → List ℕ → ℕ → List ℕ → List ℕ → List ℕ → ℕ → SearchTables
in_columns rk rw ru n dk dw de m = record { routes = routes.in_columns rk rw ru n; discoveries = discoveries.in_columns dk dw de m }

pub record WellFormed (t : SearchTables) : Type 0 where
  pub routes : routes.WellFormed t.routes
  pub discoveries : discoveries.WellFormed t.discoveries

abbrev pub tables_of : SearchTables → Tables
tables_of t = record { routes = routes.rows_of t.routes; discoveries = discoveries.rows_of t.discoveries }

abbrev pub packed : Tables → SearchTables
packed t = record { routes = routes.table_of t.routes; discoveries = discoveries.table_of t.discoveries }

-- rows that the two tables can hold
pub record Fits (t : Tables) : Type 0 where
  pub routes : routes.Fits t.routes
  pub discoveries : discoveries.Fits t.discoveries

-- tables that are well formed and hold these rows
pub record Holds (s : SearchTables) (t : Tables) : Type 0 where
  pub formed : WellFormed s
  pub rows : tables_of s ≡ t

-- a discovery under a pair
abbrev pub InKey : DiscoveryEntry → Nwk → ℕ → Type 0
InKey d source id = discovery_key d ≡ pair_key source id
