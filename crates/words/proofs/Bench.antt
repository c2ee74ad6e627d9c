-- Every word has its number, computed over the whole table; and worked calls.
-- Assumes nothing.
use Rattle.std.specs.Prelude.{Option, Some, None}
use Prim.Native.Nat.{ℕ, ◌+◌}
use Prim.Native.String.{String}
use mathlib.Core.Bool.{Bool, true, false, ◌&&◌}
use mathlib.Core.List.{List, [], ◌∷◌, replicate}
use mathlib.Core.Path.{◌≡◌, refl}
use lib.Dec.{eqb}
use Rattle.words.specs.Text.{bytes}
use Rattle.words.specs.Table.{table, routing_words, neighbour_words, added, entry}
use Rattle.words.specs.Shape.{most, most_of_others, within, passes, passes_mode, items, item, fit}
use Rattle.words.specs.Words.{past, tried, seek, called_in, called, word_number}

-- the words by their numbers
unfoldable pub words : List String
words =
    "reset" ∷ "tables" ∷ "check" ∷ "put_counters" ∷ "put_route" ∷ "put_discovery" ∷ "put_record" ∷ "put_neighbour" ∷
    "put_waiting" ∷ "note_route_error" ∷ "note_delivery_failure" ∷ "reset_mtorr_triggers" ∷ "route_status" ∷
    "route_count" ∷ "route_at" ∷ "next_hop" ∷ "mark_discovery_failed" ∷ "record_usage" ∷ "decay_activity" ∷
    "invalidate_via" ∷ "remove_route" ∷ "restore_route" ∷ "store_route_record" ∷ "remove_route_record" ∷
    "note_source_routed_frame" ∷ "note_relayed_discovery" ∷ "discovery_deadline" ∷ "route_to" ∷ "route_to_default" ∷
    "begin_discovery" ∷ "begin_many_to_one_advertisement" ∷ "accept_route_request" ∷ "accept_route_reply" ∷
    "lqi_to_link_cost" ∷ "record_lqa" ∷ "link" ∷ "neighbour_count" ∷ "neighbour_at" ∷ "lqa" ∷ "incoming_link_cost" ∷
    "is_child" ∷ "has_network_address" ∷ "end_device_child_eui64" ∷ "sleepy_child_eui64" ∷ "sleepy_children" ∷
    "contains" ∷ "device_capability" ∷ "end_device_child_count" ∷ "refresh_child_timeout" ∷ "set_child_timeout" ∷
    "update_network_address" ∷ "take_child" ∷ "end_device_children" ∷ "is_unconfirmed_end_device_child" ∷
    "remove_claimed_children" ∷ "process_parent_annce" ∷ "evict_timed_out_children" ∷ "next_child_timeout" ∷
    "upsert_child" ∷ "remove" ∷ "any_live_router_link" ∷ "expected_broadcast_relayers" ∷ "link_status_entries" ∷
    "record_outbound_activity" ∷ "record_inbound_activity" ∷ "record_transmit_failure" ∷ "reset_transmit_failures" ∷
    "on_link_status" ∷ "clear_end_device_initiator_for_relay" ∷ "resolve" ∷ "resolve_default" ∷ "discovery_count" ∷
    "discovery_at" ∷ "record_count" ∷ "record_at" ∷ "set_route_count" ∷ "set_discovery_count" ∷ "set_record_count" ∷
    "set_neighbour_count" ∷ "set_waiting_count" ∷ "set_route_key" ∷ "set_discovery_key" ∷ "set_record_key" ∷
    "set_neighbour_key" ∷ "set_waiting_key" ∷ "set_store" ∷ "set_store_length" ∷ []

unfoldable pub is_at : ℕ → Option (ℕ × ℕ) → Bool
is_at n (Some (m, at)) = eqb m n
is_at n None = false

-- each word of a list has the number of its place, counted from n
unfoldable pub numbered : ℕ → List String → Bool
numbered n [] = true
numbered n (w ∷ ws) = is_at n (word_number (bytes w)) && numbered (n + 1) ws

pub all-numbered : numbered 0 words ≡ true
unfolding table routing_words neighbour_words added entry bytes past tried seek called_in most most_of_others within passes passes_mode items item fit words numbered is_at
all-numbered = refl

-- an address is at most 65,535
pub hop : called (bytes "next_hop") (65535 ∷ []) ≡ Some 15
unfolding table routing_words neighbour_words added entry bytes past tried seek called_in most most_of_others within passes passes_mode items item fit
hop = refl

pub hop-too-large : called (bytes "next_hop") (65536 ∷ []) ≡ None
unfolding table routing_words neighbour_words added entry bytes past tried seek called_in most most_of_others within passes passes_mode items item fit
hop-too-large = refl

-- a missing number, and an extra one
pub hop-missing : called (bytes "next_hop") ([]) ≡ None
unfolding table routing_words neighbour_words added entry bytes past tried seek called_in most most_of_others within passes passes_mode items item fit
hop-missing = refl

pub hop-extra : called (bytes "next_hop") (1 ∷ 2 ∷ []) ≡ None
unfolding table routing_words neighbour_words added entry bytes past tried seek called_in most most_of_others within passes passes_mode items item fit
hop-extra = refl

-- no word of the language, though a word begins so
pub no_word : called (bytes "next") ([]) ≡ None
unfolding table routing_words neighbour_words added entry bytes past tried seek called_in most most_of_others within passes passes_mode items item fit
no_word = refl

-- both optional values, the second, none
pub two-values : called (bytes "refresh_child_timeout") (1 ∷ 5 ∷ 1 ∷ 6 ∷ 7 ∷ []) ≡ Some 48
unfolding table routing_words neighbour_words added entry bytes past tried seek called_in most most_of_others within passes passes_mode items item fit
two-values = refl

pub second-value : called (bytes "refresh_child_timeout") (0 ∷ 1 ∷ 6 ∷ 7 ∷ []) ≡ Some 48
unfolding table routing_words neighbour_words added entry bytes past tried seek called_in most most_of_others within passes passes_mode items item fit
second-value = refl

pub no_value : called (bytes "refresh_child_timeout") (0 ∷ 0 ∷ 7 ∷ []) ≡ Some 48
unfolding table routing_words neighbour_words added entry bytes past tried seek called_in most most_of_others within passes passes_mode items item fit
no_value = refl

pub not-optional : called (bytes "refresh_child_timeout") (2 ∷ 0 ∷ 7 ∷ []) ≡ None
unfolding table routing_words neighbour_words added entry bytes past tried seek called_in most most_of_others within passes passes_mode items item fit
not-optional = refl

-- a list with its count, and one with too few
pub relays : called (bytes "put_record") (1 ∷ 2 ∷ 3 ∷ 4 ∷ []) ≡ Some 6
unfolding table routing_words neighbour_words added entry bytes past tried seek called_in most most_of_others within passes passes_mode items item fit
relays = refl

pub relays-missing : called (bytes "put_record") (1 ∷ 3 ∷ 3 ∷ 4 ∷ []) ≡ None
unfolding table routing_words neighbour_words added entry bytes past tried seek called_in most most_of_others within passes passes_mode items item fit
relays-missing = refl

-- 80 elements, and 81
pub longest : called (bytes "remove_claimed_children") (80 ∷ replicate 80 1) ≡ Some 54
unfolding table routing_words neighbour_words added entry bytes past tried seek called_in most most_of_others within passes passes_mode items item fit
longest = refl

pub too_long : called (bytes "remove_claimed_children") (81 ∷ replicate 81 1) ≡ None
unfolding table routing_words neighbour_words added entry bytes past tried seek called_in most most_of_others within passes passes_mode items item fit
too_long = refl

-- triples: an address and two bytes
pub triples : called (bytes "on_link_status") (1 ∷ 2 ∷ 3 ∷ 4 ∷ 0 ∷ 1 ∷ 9 ∷ 2 ∷ 65535 ∷ 255 ∷ 255 ∷ 7 ∷ 8 ∷ 9 ∷ []) ≡ Some 67
unfolding table routing_words neighbour_words added entry bytes past tried seek called_in most most_of_others within passes passes_mode items item fit
triples = refl

pub triple-too-large : called (bytes "on_link_status") (1 ∷ 2 ∷ 3 ∷ 4 ∷ 0 ∷ 1 ∷ 9 ∷ 2 ∷ 65535 ∷ 255 ∷ 256 ∷ 7 ∷ 8 ∷ 9 ∷ []) ≡ None
unfolding table routing_words neighbour_words added entry bytes past tried seek called_in most most_of_others within passes passes_mode items item fit
triple-too-large = refl

-- a header with one extended address, in the modes with no number, with a hop and with a list
pub direct : called (bytes "resolve_default") (0 ∷ 0 ∷ 2 ∷ 1 ∷ 0 ∷ 0 ∷ 0 ∷ 0 ∷ 0 ∷ 0 ∷ 0 ∷ 7 ∷ 8 ∷ 30 ∷ 1 ∷ 0 ∷ 1 ∷ 99 ∷ 0 ∷ 0 ∷ []) ≡ Some 70
unfolding table routing_words neighbour_words added entry bytes past tried seek called_in most most_of_others within passes passes_mode items item fit
direct = refl

pub by-hop : called (bytes "resolve_default") (4 ∷ 5 ∷ 0 ∷ 2 ∷ 1 ∷ 0 ∷ 0 ∷ 0 ∷ 0 ∷ 0 ∷ 0 ∷ 0 ∷ 7 ∷ 8 ∷ 30 ∷ 1 ∷ 0 ∷ 1 ∷ 99 ∷ 0 ∷ 0 ∷ []) ≡ Some 70
unfolding table routing_words neighbour_words added entry bytes past tried seek called_in most most_of_others within passes passes_mode items item fit
by-hop = refl

-- and with a source route
pub by-list : called (bytes "resolve_default") (3 ∷ 2 ∷ 5 ∷ 6 ∷ 0 ∷ 2 ∷ 1 ∷ 0 ∷ 0 ∷ 0 ∷ 0 ∷ 0 ∷ 0 ∷ 0 ∷ 7 ∷ 8 ∷ 30 ∷ 1 ∷ 0 ∷ 1 ∷ 99 ∷ 0 ∷ 1 ∷ 0 ∷ 1 ∷ 4 ∷ []) ≡ Some 70
unfolding table routing_words neighbour_words added entry bytes past tried seek called_in most most_of_others within passes passes_mode items item fit
by-list = refl

pub no_mode : called (bytes "resolve_default") (6 ∷ 0 ∷ 2 ∷ 1 ∷ 0 ∷ 0 ∷ 0 ∷ 0 ∷ 0 ∷ 0 ∷ 0 ∷ 7 ∷ 8 ∷ 30 ∷ 1 ∷ 0 ∷ 1 ∷ 99 ∷ 0 ∷ 0 ∷ []) ≡ None
unfolding table routing_words neighbour_words added entry bytes past tried seek called_in most most_of_others within passes passes_mode items item fit
no_mode = refl

-- there is no frame type 2
pub no-frame : called (bytes "clear_end_device_initiator_for_relay") (2 ∷ 2 ∷ 1 ∷ 0 ∷ 0 ∷ 0 ∷ 0 ∷ 0 ∷ 0 ∷ 0 ∷ 7 ∷ 8 ∷ 30 ∷ 1 ∷ 0 ∷ 1 ∷ 99 ∷ 0 ∷ 0 ∷ []) ≡ None
unfolding table routing_words neighbour_words added entry bytes past tried seek called_in most most_of_others within passes passes_mode items item fit
no-frame = refl
