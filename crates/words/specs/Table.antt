-- The words of the language with the shapes of their numbers: a call's number is its place here, counted from 0.
-- From the page's list of calls; the last sixteen are this program's own, which look at a table's entries and damage a state on purpose.
-- Assumes nothing.
use Rattle.std.specs.Prelude.{ℕ, List, [], ◌∷◌, ◌++◌}
use Prim.Native.String.{String}
use Rattle.words.specs.Text.{bytes}

-- a line of the table: a word, a space, its shape, a full stop and a line feed
unfoldable pub entry : String → String → List ℕ
entry word shape = bytes word ++ (32 ∷ bytes shape ++ (46 ∷ 10 ∷ []))

-- words of this program's own
unfoldable pub added : List ℕ
added =
    (entry "discovery_count" "" ++
    (entry "discovery_at" "q" ++
    (entry "record_count" "" ++
    (entry "record_at" "q" ++
    (entry "set_route_count" "q" ++
    (entry "set_discovery_count" "q" ++
    (entry "set_record_count" "q" ++
    (entry "set_neighbour_count" "q" ++
    (entry "set_waiting_count" "q" ++
    (entry "set_route_key" "qq" ++
    (entry "set_discovery_key" "qq" ++
    (entry "set_record_key" "qq" ++
    (entry "set_neighbour_key" "qq" ++
    (entry "set_waiting_key" "qq" ++
    (entry "set_store" "qa" ++
    (entry "set_store_length" "q" ++
    []))))))))))))))))

-- calls on the neighbours, and the decision
unfoldable pub neighbour_words : List ℕ
neighbour_words =
    (entry "lqi_to_link_cost" "y" ++
    (entry "record_lqa" "ay" ++
    (entry "link" "a" ++
    (entry "neighbour_count" "" ++
    (entry "neighbour_at" "q" ++
    (entry "lqa" "q" ++
    (entry "incoming_link_cost" "q" ++
    (entry "is_child" "q" ++
    (entry "has_network_address" "a" ++
    (entry "end_device_child_eui64" "a" ++
    (entry "sleepy_child_eui64" "a" ++
    (entry "sleepy_children" "" ++
    (entry "contains" "q" ++
    (entry "device_capability" "q" ++
    (entry "end_device_child_count" "" ++
    (entry "refresh_child_timeout" "?q?aq" ++
    (entry "set_child_timeout" "aqaq" ++
    (entry "update_network_address" "qa" ++
    (entry "take_child" "q" ++
    (entry "end_device_children" "" ++
    (entry "is_unconfirmed_end_device_child" "q" ++
    (entry "remove_claimed_children" "e" ++
    (entry "process_parent_annce" "e" ++
    (entry "evict_timed_out_children" "q" ++
    (entry "next_child_timeout" "" ++
    (entry "upsert_child" "qadbqrq" ++
    (entry "remove" "q" ++
    (entry "any_live_router_link" "" ++
    (entry "expected_broadcast_relayers" "" ++
    (entry "link_status_entries" "" ++
    (entry "record_outbound_activity" "q" ++
    (entry "record_inbound_activity" "a" ++
    (entry "record_transmit_failure" "q" ++
    (entry "reset_transmit_failures" "" ++
    (entry "on_link_status" "aqaybbql" ++
    (entry "clear_end_device_initiator_for_relay" "fvdbbbbbbtaayy?q?q?y!yn" ++
    (entry "resolve" "bbymAnfvdbbbbbbtaayy?q?q?y!yn" ++
    (entry "resolve_default" "mAnfvdbbbbbbtaayy?q?q?y!yn" ++
    added))))))))))))))))))))))))))))))))))))))

-- calls on the routing state
unfoldable pub routing_words : List ℕ
routing_words =
    (entry "note_route_error" "y" ++
    (entry "note_delivery_failure" "y" ++
    (entry "reset_mtorr_triggers" "" ++
    (entry "route_status" "a" ++
    (entry "route_count" "" ++
    (entry "route_at" "q" ++
    (entry "next_hop" "a" ++
    (entry "mark_discovery_failed" "a" ++
    (entry "record_usage" "a" ++
    (entry "decay_activity" "" ++
    (entry "invalidate_via" "a" ++
    (entry "remove_route" "a" ++
    (entry "restore_route" "aay" ++
    (entry "store_route_record" "an" ++
    (entry "remove_route_record" "a" ++
    (entry "note_source_routed_frame" "a" ++
    (entry "note_relayed_discovery" "a" ++
    (entry "discovery_deadline" "aq" ++
    (entry "route_to" "ay" ++
    (entry "route_to_default" "a" ++
    (entry "begin_discovery" "aaqq" ++
    (entry "begin_many_to_one_advertisement" "aqq" ++
    (entry "accept_route_request" "ayaaytqq" ++
    (entry "accept_route_reply" "aayaay" ++
    neighbour_words))))))))))))))))))))))))

-- the whole table
unfoldable pub table : List ℕ
table =
    (entry "reset" "" ++
    (entry "tables" "" ++
    (entry "check" "" ++
    (entry "put_counters" "yyy" ++
    (entry "put_route" "atbbbbaycy" ++
    (entry "put_discovery" "ayayyqa" ++
    (entry "put_record" "an" ++
    (entry "put_neighbour" "qadbaqqryyyyyyyqccbccqyyyyy" ++
    (entry "put_waiting" "ayyyyy" ++
    routing_words)))))))))
