-- The values of a neighbour, a child, a link status and of lists of them, in the order in which a script takes and prints them.
-- Document 01, "How each place should look": "a definition gives this paper's number and values for each of its cases".
-- Assumes nothing.
use Rattle.std.specs.Prelude.{ℕ, get_or, take}
use mathlib.Core.List.{List, [], ◌∷◌, ◌++◌, flat_map}
use Rattle.types.specs.declared.Eui64.{Eui64}
use Rattle.types.specs.declared.Nwk.{Nwk}
use Rattle.numbers.specs.Said.{flag_number}
use Rattle.ring_buffer.specs.declared.RingBuffer.{RingBuffer}
use Rattle.neighbor_table.specs.declared.NeighborEntry.{NeighborEntry}
use Rattle.neighbor_table.specs.Entry.{device_type_number, relationship_number}
use Rattle.waiting_table.specs.declared.WaitingEntry.{WaitingEntry}
use Rattle.neighbor_queries.specs.declared.Child.{Child}
use Rattle.neighbor_queries.specs.declared.LinkStatus.{LinkStatus}
use Rattle.neighbor_queries.specs.declared.ChildList.{ChildList}
use Rattle.neighbor_queries.specs.declared.Eui64List.{Eui64List}
use Rattle.neighbor_queries.specs.declared.NwkList.{NwkList}
use Rattle.neighbor_queries.specs.declared.LinkStatusList.{LinkStatusList}

-- the samples held: how many, the next place, and the three places
abbrev pub samples_numbers : RingBuffer → List ℕ
samples_numbers r = r.len ∷ r.next ∷ get_or r.values 0 0 ∷ get_or r.values 1 0 ∷ get_or r.values 2 0 ∷ []

-- who the neighbour is, and when it is given up
abbrev pub name_numbers : NeighborEntry → List ℕ
name_numbers e =
    e.extended_address.0
    ∷ e.network_address.0
    ∷ device_type_number e.device_type
    ∷ flag_number e.rx_on_when_idle
    ∷ e.end_device_configuration
    ∷ e.timeout_at
    ∷ e.device_timeout
    ∷ relationship_number e.relationship
    ∷ e.transmit_failure
    ∷ []

-- what is known of its link, and what was sent over it
abbrev pub link_numbers : NeighborEntry → List ℕ
link_numbers e =
    e.outgoing_cost
    ∷ e.last_link_status_timestamp
    ∷ e.incoming_beacon_timestamp
    ∷ e.beacon_transmission_time_offset
    ∷ flag_number e.keepalive_received
    ∷ e.mac_unicast_bytes_transmitted
    ∷ e.mac_unicast_bytes_received
    ∷ []

-- what is known of it as a router
abbrev pub router_numbers : NeighborEntry → List ℕ
router_numbers e =
    e.router_added_timestamp
    ∷ e.router_connectivity
    ∷ e.router_neighbor_set_diversity
    ∷ e.router_outbound_activity
    ∷ e.router_inbound_activity
    ∷ e.security_timer
    ∷ []

-- a whole neighbour, 27 values
abbrev pub neighbor_numbers : NeighborEntry → List ℕ
neighbor_numbers e = name_numbers e ++ samples_numbers e.lqas ++ link_numbers e ++ router_numbers e

-- a sender whose samples wait, 6 values
abbrev pub waiting_numbers : WaitingEntry → List ℕ
waiting_numbers e = e.network_address.0 ∷ samples_numbers e.lqas

abbrev pub child_numbers : Child → List ℕ
child_numbers c = c.eui64.0 ∷ c.network_address.0 ∷ []

abbrev pub status_numbers : LinkStatus → List ℕ
status_numbers s = s.address.0 ∷ s.incoming_cost ∷ s.outgoing_cost ∷ []

abbrev pub eui64_numbers : Eui64 → List ℕ
eui64_numbers a = a.0 ∷ []

abbrev pub nwk_numbers : Nwk → List ℕ
nwk_numbers a = a.0 ∷ []

-- the lists: their count, then the elements
abbrev pub children_numbers : ChildList → List ℕ
children_numbers l = l.count ∷ flat_map child_numbers (take l.count l.children)

abbrev pub eui64s_numbers : Eui64List → List ℕ
eui64s_numbers l = l.count ∷ flat_map eui64_numbers (take l.count l.addresses)

abbrev pub nwks_numbers : NwkList → List ℕ
nwks_numbers l = l.count ∷ flat_map nwk_numbers (take l.count l.addresses)

abbrev pub statuses_numbers : LinkStatusList → List ℕ
statuses_numbers l = l.count ∷ flat_map status_numbers (take l.count l.statuses)
