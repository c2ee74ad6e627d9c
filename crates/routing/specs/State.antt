-- The routing state: its three tables, in columns, what makes it well formed, the fresh one, and its parts put back.
-- Document 01: "Well formed"; "a fresh state with empty tables, counters 0 and request id 0".
-- Assumes nothing.
use Rattle.std.specs.Prelude.{ℕ, Bool, ◌&&◌, []}
use Rattle.standard.specs.Tables.{Tables}
use Rattle.route_table.specs.Table as routes
use Rattle.discovery_table.specs.Table as discoveries
use Rattle.record_table.specs.Table as records
use Rattle.search_tables.specs.Packed.{SearchTables, tables_of, packed}
use Rattle.routing.specs.declared.Routing.{Routing}

-- the three tables of a state
abbrev pub route_table : Routing → routes.RouteTable
route_table s = routes.in_columns s.route_keys s.route_words s.route_usage s.routes

abbrev pub discovery_table : Routing → discoveries.DiscoveryTable
discovery_table s = discoveries.in_columns s.discovery_keys s.discovery_words s.discovery_ends s.discoveries

abbrev pub record_table : Routing → records.RecordTable
record_table s = records.in_columns s.record_keys s.record_lengths s.records

pub record WellFormed (s : Routing) : Type 0 where
  pub routes : routes.WellFormed (route_table s)
  pub discoveries : discoveries.WellFormed (discovery_table s)
  pub records : records.WellFormed (record_table s)

-- `WellFormed`, computed
abbrev pub formed_in : routes.RouteTable → discoveries.DiscoveryTable → records.RecordTable → Bool
formed_in t d u = routes.well_formed t && (discoveries.well_formed d && records.well_formed u)

unfoldable pub well_formed : Routing → Bool
well_formed s = formed_in (route_table s) (discovery_table s) (record_table s)

-- a state of two trigger counters, the last request id and three tables
abbrev pub state_of : ℕ → ℕ → ℕ → routes.RouteTable → discoveries.DiscoveryTable → records.RecordTable → Routing
state_of errors failures id t d u = record {
  mtorr_route_errors = errors;
  mtorr_delivery_failures = failures;
  request_sequence_number = id;
  route_keys = t.keys;
  route_words = t.words;
  route_usage = t.usage;
  routes = t.count;
  discovery_keys = d.keys;
  discovery_words = d.words;
  discovery_ends = d.ends;
  discoveries = d.count;
  record_keys = u.keys;
  record_lengths = u.lengths;
  records = u.count;
}

abbrev pub fresh : Routing
fresh = state_of 0 0 0 (routes.table_of []) (discoveries.table_of []) (records.table_of [])

-- the state with its tables replaced
abbrev pub with_tables : Routing → routes.RouteTable → discoveries.DiscoveryTable → records.RecordTable → Routing
with_tables s t d u = state_of s.mtorr_route_errors s.mtorr_delivery_failures s.request_sequence_number t d u

-- the tables of route search, taken out and put back
abbrev pub search_of : Routing → SearchTables
search_of s = record { routes = route_table s; discoveries = discovery_table s }

abbrev pub with_search : Routing → SearchTables → Routing
with_search s t = with_tables s t.routes t.discoveries (record_table s)

-- the rows of the two tables, and the state with rows in their place
abbrev pub rows_in : Routing → Tables
rows_in s = tables_of (search_of s)

abbrev pub with_rows : Routing → Tables → Routing
with_rows s t = with_search s (packed t)

-- the state with its last request id replaced, and with its two trigger counters
abbrev pub with_id : Routing → ℕ → Routing
with_id s id = state_of s.mtorr_route_errors s.mtorr_delivery_failures id (route_table s) (discovery_table s) (record_table s)

abbrev pub with_triggers : Routing → ℕ → ℕ → Routing
with_triggers s errors failures = state_of errors failures s.request_sequence_number (route_table s) (discovery_table s) (record_table s)
