-- The lines that set the routing state up, and those that damage it: the answer and the state after each, and the store after a record.
-- A line is done, or no call on a state whose table has no room or is not well formed. Document 01, "Capacities and clock"; 8 for a list past its capacity.
-- Assumes nothing.
use Rattle.std.specs.Prelude.{ℕ, cond, ◌||◌, List, [], leb, ltb, length, set}
use Rattle.types.specs.declared.Nwk.{Nwk}
use Rattle.types.specs.declared.Refusal.TheVariants.{ListTooLong}
use Rattle.numbers.specs.Said.{Said, ok, bad, refused_by, spoken}
use Rattle.numbers.specs.Read.{number_at, byte_at, nwk_at}
use Rattle.standard.specs.declared.RouteEntry.{RouteEntry}
use Rattle.standard.specs.declared.DiscoveryEntry.{DiscoveryEntry}
use Rattle.standard.specs.declared.RelayList.{RelayList}
use Rattle.standard.specs.Ordered.{put, count_with}
use Rattle.standard.specs.Route.{route_key}
use Rattle.standard.specs.Discovery.{discovery_key}
use Rattle.standard.specs.Records.{RouteRecord, address_key, record_for}
use Rattle.route_table.specs.Table as routes
use Rattle.discovery_table.specs.Table as discoveries
use Rattle.record_table.specs.Table as records
use Rattle.relay_store.specs.Store.{agrees, relays_of}
use Rattle.relay_store.specs.Packed.{store_for}
use Rattle.routing.specs.declared.Routing.{Routing}
use Rattle.routing.specs.State.{route_table, discovery_table, record_table, state_of, with_tables}
use Rattle.routing.specs.Routes.{routes_in, with_routes}
use Rattle.routing.specs.Queries.{discoveries_in}
use Rattle.routing.specs.Records.{records_in, with_records}
use Rattle.route_args.specs.Read.{relays_at, route_at, discovery_at}
use Rattle.route_loads.specs.declared.RoutingReply.{RoutingReply}

-- what is answered, and the state after it
abbrev pub replied : Routing → Said → RoutingReply
replied s said = record { answer = spoken said; state = s }

-- done; no call; a list past its capacity
abbrev pub loaded : Routing → RoutingReply
loaded s = replied s (ok [])

abbrev pub no_call : Routing → RoutingReply
no_call s = replied s bad

abbrev pub list_too_long : Routing → RoutingReply
list_too_long s = replied s (refused_by ListTooLong)

-- the state with one of its tables replaced
abbrev pub with_route_table : Routing → routes.RouteTable → Routing
with_route_table s t = with_tables s t (discovery_table s) (record_table s)

abbrev pub with_discovery_table : Routing → discoveries.DiscoveryTable → Routing
with_discovery_table s t = with_tables s (route_table s) t (record_table s)

abbrev pub with_record_table : Routing → records.RecordTable → Routing
with_record_table s t = with_tables s (route_table s) (discovery_table s) t

-- the last request id and the two trigger counters
unfoldable pub put_counters : Routing → List ℕ → RoutingReply
put_counters s args = loaded (state_of (byte_at args 1) (byte_at args 2) (byte_at args 0) (route_table s) (discovery_table s) (record_table s))

-- a route under its key, over the one that is there or in a free place
unfoldable pub route_put : RouteEntry → Routing → RoutingReply
route_put e s =
    cond (routes.well_formed (route_table s))
    (cond (leb (count_with route_key (route_key e) (routes_in s)) 64) (loaded (with_routes s (put route_key e (routes_in s)))) (no_call s))
    (no_call s)

unfoldable pub put_route : Routing → List ℕ → RoutingReply
put_route s args = route_put (route_at args 0) s

-- a discovery under its key, over the one that is there or in a free place
unfoldable pub discovery_put : DiscoveryEntry → Routing → RoutingReply
discovery_put e s =
    cond (discoveries.well_formed (discovery_table s))
    (cond (leb (count_with discovery_key (discovery_key e) (discoveries_in s)) 32)
    (loaded (with_discovery_table s (discoveries.table_of (put discovery_key e (discoveries_in s)))))
    (no_call s))
    (no_call s)

unfoldable pub put_discovery : Routing → List ℕ → RoutingReply
put_discovery s args = discovery_put (discovery_at args 0) s

-- a record under its destination, over the one that is there or in a free place; and the store after it
abbrev pub records_after : Nwk → RelayList → Routing → List ℕ → List RouteRecord
records_after destination l s store = put address_key (record_for destination (relays_of l)) (records_in s store)

unfoldable pub record_put : Nwk → RelayList → Routing → List ℕ → RoutingReply
record_put destination l s store =
    cond (records.well_formed (record_table s))
    (cond (agrees (record_table s) store)
    (cond (leb (length (records_after destination l s store)) 64) (loaded (with_records s (records_after destination l s store))) (no_call s))
    (no_call s))
    (no_call s)

unfoldable pub record_put_store : Nwk → RelayList → Routing → List ℕ → List ℕ
record_put_store destination l s store =
    cond (records.well_formed (record_table s))
    (cond (agrees (record_table s) store)
    (cond (leb (length (records_after destination l s store)) 64) (store_for (records_after destination l s store)) store)
    store)
    store

unfoldable pub put_record : Routing → List ℕ → List ℕ → RoutingReply
put_record s args store = cond (ltb 32 (relays_at args 1).count) (list_too_long s) (record_put (nwk_at args 0) (relays_at args 1) s store)

unfoldable pub put_record_store : Routing → List ℕ → List ℕ → List ℕ
put_record_store s args store = cond (ltb 32 (relays_at args 1).count) store (record_put_store (nwk_at args 0) (relays_at args 1) s store)

-- damage: a table's count, and the key at a place within the table, a number that its column holds
unfoldable pub set_route_count : Routing → List ℕ → RoutingReply
set_route_count s args = loaded (with_route_table s (routes.in_columns s.route_keys s.route_words s.route_usage (number_at args 0)))

unfoldable pub set_route_key : Routing → List ℕ → RoutingReply
set_route_key s args =
    cond (leb 64 (number_at args 0) || ltb 65535 (number_at args 1))
    (no_call s)
    (loaded (with_route_table s (routes.in_columns (set s.route_keys (number_at args 0) (number_at args 1)) s.route_words s.route_usage s.routes)))

unfoldable pub set_discovery_count : Routing → List ℕ → RoutingReply
set_discovery_count s args = loaded (with_discovery_table s (discoveries.in_columns s.discovery_keys s.discovery_words s.discovery_ends (number_at args 0)))

unfoldable pub set_discovery_key : Routing → List ℕ → RoutingReply
set_discovery_key s args =
    cond (leb 32 (number_at args 0) || ltb 4294967295 (number_at args 1))
    (no_call s)
    (loaded (with_discovery_table s (discoveries.in_columns (set s.discovery_keys (number_at args 0) (number_at args 1)) s.discovery_words s.discovery_ends s.discoveries)))

unfoldable pub set_record_count : Routing → List ℕ → RoutingReply
set_record_count s args = loaded (with_record_table s (records.in_columns s.record_keys s.record_lengths (number_at args 0)))

unfoldable pub set_record_key : Routing → List ℕ → RoutingReply
set_record_key s args =
    cond (leb 64 (number_at args 0) || ltb 65535 (number_at args 1))
    (no_call s)
    (loaded (with_record_table s (records.in_columns (set s.record_keys (number_at args 0) (number_at args 1)) s.record_lengths s.records)))
