-- The calls on route records, each by its definition on what the numbers give, and the store after it.
-- Assumes nothing.
use Rattle.std.specs.Prelude.{ℕ, List}
use Rattle.numbers.specs.Said.{Said}
use Rattle.numbers.specs.Read.{byte_at, nwk_at, number_at}
use Rattle.route_args.specs.Read.{relays_at}
use Rattle.route_loads.specs.declared.RoutingReply.{RoutingReply}
use Rattle.route_loads.specs.Loads.{replied}
use Rattle.routing.specs.declared.Routing.{Routing}
use Rattle.routing.specs.declared.RecordOutcome.{RecordOutcome}
use Rattle.routing.specs.declared.RouteToOutcome.{RouteToOutcome}
use Rattle.routing.specs.declared.RecordAtOutcome.{RecordAtOutcome}
use Rattle.routing.specs.Records.{store_route_record, store_after_record, remove_route_record, store_after_removal, route_to, route_to_default, record_at}
use Rattle.route_answers.specs.Answers.{record_said, way_said, record_at_said}
use Rattle.routing_groups.specs.Changed.{told_reply}

abbrev pub record_reply : RecordOutcome → RoutingReply
record_reply o = replied o.state (record_said o.answer)

abbrev pub way_in : RouteToOutcome → Said
way_in o = way_said o.answer o.relays

abbrev pub record_in : RecordAtOutcome → Said
record_in o = record_at_said o.answer o.relays

-- A route record of a source, and the store after it.
unfoldable pub store_route_record_call : Routing → List ℕ → List ℕ → RoutingReply
store_route_record_call s args store = record_reply (store_route_record s (nwk_at args 0) (relays_at args 1) store)

unfoldable pub store_route_record_store : Routing → List ℕ → List ℕ → List ℕ
store_route_record_store s args store = store_after_record s (nwk_at args 0) (relays_at args 1) store

-- The record of a destination is removed, and the store after it.
unfoldable pub remove_route_record_call : Routing → List ℕ → List ℕ → RoutingReply
remove_route_record_call s args store = told_reply (remove_route_record s (nwk_at args 0) store)

unfoldable pub remove_route_record_store : Routing → List ℕ → List ℕ → List ℕ
remove_route_record_store s args store = store_after_removal s (nwk_at args 0) store

-- The way to a destination, by a limit and by the default policy.
unfoldable pub route_to_call : Routing → List ℕ → List ℕ → Said
route_to_call s args store = way_in (route_to s (nwk_at args 0) (byte_at args 1) store)

unfoldable pub route_to_default_call : Routing → List ℕ → List ℕ → Said
route_to_default_call s args store = way_in (route_to_default s (nwk_at args 0) store)

-- The route record at a place.
unfoldable pub record_at_call : Routing → List ℕ → List ℕ → Said
record_at_call s args store = record_in (record_at s (number_at args 0) store)
