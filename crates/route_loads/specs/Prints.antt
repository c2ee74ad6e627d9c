-- The lines that print the routing state, each a word's number and its arguments: counters 3, routes 4, discoveries 5, records 6.
-- The columns are read as they are, up to the count or the last place; no well-formed state is asked.
-- Assumes nothing.
use Rattle.std.specs.Prelude.{ℕ, ◌+◌, ◌*◌, min, List, [], ◌∷◌, ◌++◌, map, take, drop}
use Rattle.standard.specs.declared.RecordEntry.{RecordEntry}
use Rattle.standard.specs.declared.RouteEntry.{RouteEntry}
use Rattle.standard.specs.declared.DiscoveryEntry.{DiscoveryEntry}
use Rattle.standard.specs.declared.RelayList.{RelayList}
use Rattle.standard.specs.Route.{nwk}
use Rattle.flat_map.specs.Rows.{pad}
use Rattle.lines.specs.Lines.{each_from}
use Rattle.route_table.specs.Table as routes
use Rattle.discovery_table.specs.Table as discoveries
use Rattle.record_table.specs.Table as records
use Rattle.route_answers.specs.Values.{route_numbers, discovery_numbers, relay_numbers}
use Rattle.routing.specs.declared.Routing.{Routing}
use Rattle.routing.specs.State.{route_table, discovery_table, record_table}

-- the relays in the first places of row i of a store, at most 32
unfoldable pub relays_held : List ℕ → ℕ → ℕ → RelayList
relays_held store i count = record { count = min count 32; addresses = pad 32 (nwk 0) (map nwk (take (min count 32) (drop (32 * i) store))) }

abbrev pub counter_line : Routing → List ℕ
counter_line s = 3 ∷ s.request_sequence_number ∷ s.mtorr_route_errors ∷ s.mtorr_delivery_failures ∷ []

abbrev pub route_line : RouteEntry → List ℕ
route_line e = 4 ∷ route_numbers e

abbrev pub discovery_line : DiscoveryEntry → List ℕ
discovery_line e = 5 ∷ discovery_numbers e

-- a record's relays are in the row of its place
abbrev pub record_line : List ℕ → ℕ → RecordEntry → List ℕ
record_line store i e = 6 ∷ e.destination.0 ∷ relay_numbers (relays_held store i e.relay_count)

unfoldable pub route_lines : routes.RouteTable → List (List ℕ)
route_lines t = map route_line (routes.rows_of t)

unfoldable pub discovery_lines : discoveries.DiscoveryTable → List (List ℕ)
discovery_lines t = map discovery_line (discoveries.rows_of t)

unfoldable pub record_lines : records.RecordTable → List ℕ → List (List ℕ)
record_lines t store = each_from 0 (record_line store) (records.rows_of t)

unfoldable pub after_routes : Routing → List ℕ → List (List ℕ)
after_routes s store = discovery_lines (discovery_table s) ++ record_lines (record_table s) store

unfoldable pub routing_lines : Routing → List ℕ → List (List ℕ)
routing_lines s store = counter_line s ∷ (route_lines (route_table s) ++ after_routes s store)

-- how many lines there are
abbrev pub line_count : Routing → ℕ
line_count s = 1 + (min s.routes 64 + (min s.discoveries 32 + min s.records 64))
