-- The routing calls by their numbers.
-- Assumes nothing.
use Rattle.std.specs.Prelude.{ℕ, cond, List, eqb}
use Rattle.numbers.specs.Said.{Said, bad}
use Rattle.routing.specs.declared.Routing.{Routing}
use Rattle.route_loads.specs.declared.RoutingReply.{RoutingReply}
use Rattle.route_loads.specs.Loads.{no_call, put_counters, put_route, put_discovery, set_route_count, set_discovery_count, set_record_count, set_route_key, set_discovery_key, set_record_key, put_record, put_record_store}
use Rattle.routing_groups.specs.Asked.{check_call, route_status_call, route_count_call, route_at_call, next_hop_call, discovery_deadline_call, discovery_count_call, discovery_at_call, record_count_call}
use Rattle.routing_groups.specs.Changed.{note_route_error_call, note_delivery_failure_call, reset_mtorr_triggers_call, mark_discovery_failed_call, record_usage_call, decay_activity_call, invalidate_via_call, remove_route_call, restore_route_call, note_source_routed_frame_call, note_relayed_discovery_call, begin_discovery_call, begin_many_to_one_advertisement_call, accept_route_request_call, accept_route_reply_call}
use Rattle.routing_groups.specs.Recorded.{store_route_record_call, store_route_record_store, remove_route_record_call, remove_route_record_store, route_to_call, route_to_default_call, record_at_call}

-- The calls that ask the routing state.
unfoldable pub ask_routing : Routing → ℕ → List ℕ → Said
ask_routing s n args =
    cond (eqb n 2) (check_call s)
    (cond (eqb n 12) (route_status_call s args)
    (cond (eqb n 13) (route_count_call s)
    (cond (eqb n 14) (route_at_call s args)
    (cond (eqb n 15) (next_hop_call s args)
    (cond (eqb n 26) (discovery_deadline_call s args)
    (cond (eqb n 71) (discovery_count_call s)
    (cond (eqb n 72) (discovery_at_call s args)
    (cond (eqb n 73) (record_count_call s)
    bad))))))))

-- The calls that ask the route records, with the store that they are kept in.
unfoldable pub ask_records : Routing → ℕ → List ℕ → List ℕ → Said
ask_records s n args store =
    cond (eqb n 27) (route_to_call s args store)
    (cond (eqb n 28) (route_to_default_call s args store)
    (cond (eqb n 74) (record_at_call s args store)
    bad))

-- The calls that change the trigger counters and the routes.
unfoldable pub change_routes : Routing → ℕ → List ℕ → RoutingReply
change_routes s n args =
    cond (eqb n 9) (note_route_error_call s args)
    (cond (eqb n 10) (note_delivery_failure_call s args)
    (cond (eqb n 11) (reset_mtorr_triggers_call s)
    (cond (eqb n 16) (mark_discovery_failed_call s args)
    (cond (eqb n 17) (record_usage_call s args)
    (cond (eqb n 18) (decay_activity_call s)
    (cond (eqb n 19) (invalidate_via_call s args)
    (cond (eqb n 20) (remove_route_call s args)
    (no_call s))))))))

-- The calls that make routes and searches.
unfoldable pub change_searches : Routing → ℕ → List ℕ → RoutingReply
change_searches s n args =
    cond (eqb n 21) (restore_route_call s args)
    (cond (eqb n 24) (note_source_routed_frame_call s args)
    (cond (eqb n 25) (note_relayed_discovery_call s args)
    (cond (eqb n 29) (begin_discovery_call s args)
    (cond (eqb n 30) (begin_many_to_one_advertisement_call s args)
    (cond (eqb n 31) (accept_route_request_call s args)
    (cond (eqb n 32) (accept_route_reply_call s args)
    (no_call s)))))))

-- The lines that set the routing state up, and those that damage it.
unfoldable pub load_routes : Routing → ℕ → List ℕ → RoutingReply
load_routes s n args =
    cond (eqb n 3) (put_counters s args)
    (cond (eqb n 4) (put_route s args)
    (cond (eqb n 5) (put_discovery s args)
    (cond (eqb n 75) (set_route_count s args)
    (cond (eqb n 76) (set_discovery_count s args)
    (cond (eqb n 77) (set_record_count s args)
    (cond (eqb n 80) (set_route_key s args)
    (cond (eqb n 81) (set_discovery_key s args)
    (cond (eqb n 82) (set_record_key s args)
    (no_call s)))))))))

-- The calls that change the route records, and the store after them.
unfoldable pub change_records : Routing → ℕ → List ℕ → List ℕ → RoutingReply
change_records s n args store =
    cond (eqb n 6) (put_record s args store)
    (cond (eqb n 22) (store_route_record_call s args store)
    (cond (eqb n 23) (remove_route_record_call s args store)
    (no_call s)))

unfoldable pub store_after_call : Routing → ℕ → List ℕ → List ℕ → List ℕ
store_after_call s n args store = cond (eqb n 6) (put_record_store s args store) (cond (eqb n 22) (store_route_record_store s args store) (cond (eqb n 23) (remove_route_record_store s args store) store))
