-- The neighbour calls by their numbers.
-- Assumes nothing.
use Rattle.std.specs.Prelude.{ℕ, cond, List, eqb}
use Rattle.numbers.specs.Said.{Said, bad}
use Rattle.neighbors.specs.declared.Neighbors.{Neighbors}
use Rattle.neighbor_loads.specs.declared.NeighborsReply.{NeighborsReply}
use Rattle.neighbor_loads.specs.Loads.{no_call, put_neighbor, put_waiting, set_neighbor_count, set_waiting_count, set_neighbor_key, set_waiting_key}
use Rattle.neighbor_groups.specs.Queries.{lqi_to_link_cost_call, link_call, neighbour_count_call, neighbour_at_call, has_network_address_call, end_device_child_eui64_call, sleepy_child_eui64_call, contains_call, device_capability_call, end_device_child_count_call, is_unconfirmed_end_device_child_call, next_child_timeout_call, any_live_router_link_call}
use Rattle.neighbor_groups.specs.Lists.{lqa_call, incoming_link_cost_call, is_child_call, sleepy_children_call, end_device_children_call, expected_broadcast_relayers_call, link_status_entries_call}
use Rattle.neighbor_groups.specs.Events.{record_lqa_call, update_network_address_call, remove_call, record_outbound_activity_call, record_inbound_activity_call, record_transmit_failure_call, reset_transmit_failures_call}
use Rattle.neighbor_groups.specs.Child.{refresh_child_timeout_call, set_child_timeout_call, take_child_call, remove_claimed_children_call, process_parent_annce_call, evict_timed_out_children_call, upsert_child_call, on_link_status_call}

-- The calls that ask the neighbours of links and addresses.
unfoldable pub ask_neighbors : Neighbors → ℕ → List ℕ → Said
ask_neighbors s n args =
    cond (eqb n 33) (lqi_to_link_cost_call s args)
    (cond (eqb n 35) (link_call s args)
    (cond (eqb n 36) (neighbour_count_call s args)
    (cond (eqb n 37) (neighbour_at_call s args)
    (cond (eqb n 41) (has_network_address_call s args)
    (cond (eqb n 42) (end_device_child_eui64_call s args)
    (cond (eqb n 43) (sleepy_child_eui64_call s args)
    bad))))))

-- The calls that ask the neighbours of children.
unfoldable pub ask_children : Neighbors → ℕ → List ℕ → Said
ask_children s n args =
    cond (eqb n 45) (contains_call s args)
    (cond (eqb n 46) (device_capability_call s args)
    (cond (eqb n 47) (end_device_child_count_call s args)
    (cond (eqb n 53) (is_unconfirmed_end_device_child_call s args)
    (cond (eqb n 57) (next_child_timeout_call s args)
    (cond (eqb n 60) (any_live_router_link_call s args)
    bad)))))

-- The calls that ask one entry, or list the neighbours.
unfoldable pub list_neighbors : Neighbors → ℕ → List ℕ → Said
list_neighbors s n args =
    cond (eqb n 38) (lqa_call s args)
    (cond (eqb n 39) (incoming_link_cost_call s args)
    (cond (eqb n 40) (is_child_call s args)
    (cond (eqb n 44) (sleepy_children_call s args)
    (cond (eqb n 52) (end_device_children_call s args)
    (cond (eqb n 61) (expected_broadcast_relayers_call s args)
    (cond (eqb n 62) (link_status_entries_call s args)
    bad))))))

-- The calls that note what was heard and sent.
unfoldable pub note_neighbors : Neighbors → ℕ → List ℕ → NeighborsReply
note_neighbors s n args =
    cond (eqb n 34) (record_lqa_call s args)
    (cond (eqb n 50) (update_network_address_call s args)
    (cond (eqb n 59) (remove_call s args)
    (cond (eqb n 63) (record_outbound_activity_call s args)
    (cond (eqb n 64) (record_inbound_activity_call s args)
    (cond (eqb n 65) (record_transmit_failure_call s args)
    (cond (eqb n 66) (reset_transmit_failures_call s args)
    (no_call s)))))))

-- The calls that change the children.
unfoldable pub change_children : Neighbors → ℕ → List ℕ → NeighborsReply
change_children s n args =
    cond (eqb n 48) (refresh_child_timeout_call s args)
    (cond (eqb n 49) (set_child_timeout_call s args)
    (cond (eqb n 51) (take_child_call s args)
    (cond (eqb n 54) (remove_claimed_children_call s args)
    (cond (eqb n 55) (process_parent_annce_call s args)
    (cond (eqb n 56) (evict_timed_out_children_call s args)
    (cond (eqb n 58) (upsert_child_call s args)
    (cond (eqb n 67) (on_link_status_call s args)
    (no_call s))))))))

-- The lines that set the neighbours up, and those that damage them.
unfoldable pub load_neighbors : Neighbors → ℕ → List ℕ → NeighborsReply
load_neighbors s n args =
    cond (eqb n 7) (put_neighbor s args)
    (cond (eqb n 8) (put_waiting s args)
    (cond (eqb n 78) (set_neighbor_count s args)
    (cond (eqb n 79) (set_waiting_count s args)
    (cond (eqb n 83) (set_neighbor_key s args)
    (cond (eqb n 84) (set_waiting_key s args)
    (no_call s))))))
