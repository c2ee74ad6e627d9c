-- A row of the neighbour table: its numbers, its key, the blank row, and what a row may say.
-- Document 01, "Refusal numbers": "costs stored for neighbours at most 7, sample count at most 3, .. unused places blank".
-- Assumes nothing.
use Rattle.std.specs.Prelude.{ℕ, Bool, true, false, cond, ◌&&◌, eqb, leb, Option, Some, None}
use Rattle.standard.specs.LinkCost.{link_cost}
use Rattle.standard.specs.Median.{median_of}
use Rattle.ring_buffer.specs.declared.RingBuffer.{RingBuffer}
use Rattle.ring_buffer.specs.Ring as ring
use Rattle.neighbor_table.specs.declared.NwkDeviceType.{NwkDeviceType}
use Rattle.neighbor_table.specs.declared.NwkDeviceType.TheVariants.{Coordinator, Router, EndDevice}
use Rattle.neighbor_table.specs.declared.Relationship.{Relationship}
use Rattle.neighbor_table.specs.declared.Relationship.TheVariants.{Parent, Child, Sibling, NoneOfTheAbove, PreviousChild, UnauthenticatedChild, UnauthorizedChildWithRelayAllowed, LostChild, AddressConflictChild, BackboneMeshSibling}
use Rattle.neighbor_table.specs.declared.NeighborEntry.{NeighborEntry}

-- 05-3474, table 3-75: "Device type"
abbrev pub device_type_number : NwkDeviceType → ℕ
device_type_number Coordinator = 0
device_type_number Router = 1
device_type_number EndDevice = 2

-- 05-3474, table 3-75: "Relationship"
abbrev pub relationship_number : Relationship → ℕ
relationship_number Parent = 0
relationship_number Child = 1
relationship_number Sibling = 2
relationship_number NoneOfTheAbove = 3
relationship_number PreviousChild = 4
relationship_number UnauthenticatedChild = 5
relationship_number UnauthorizedChildWithRelayAllowed = 6
relationship_number LostChild = 7
relationship_number AddressConflictChild = 8
relationship_number BackboneMeshSibling = 9

abbrev pub is_router : NwkDeviceType → Bool
is_router Coordinator = false
is_router Router = true
is_router EndDevice = false

abbrev pub is_end_device : NwkDeviceType → Bool
is_end_device Coordinator = false
is_end_device Router = false
is_end_device EndDevice = true

-- a child, authenticated or not yet
abbrev pub is_child_of : Relationship → Bool
is_child_of Parent = false
is_child_of Child = true
is_child_of Sibling = false
is_child_of NoneOfTheAbove = false
is_child_of PreviousChild = false
is_child_of UnauthenticatedChild = true
is_child_of UnauthorizedChildWithRelayAllowed = false
is_child_of LostChild = false
is_child_of AddressConflictChild = false
is_child_of BackboneMeshSibling = false

-- the quality of a full ring is the median of its places
abbrev pub quality_of : RingBuffer → Option ℕ
quality_of r = cond (eqb r.len 3) (Some (median_of r.values)) None

-- "With fewer than three samples the incoming cost is 0"
abbrev pub cost_of : Option ℕ → ℕ
cost_of None = 0
cost_of (Some quality) = link_cost quality

-- neighbours are ordered by extended address
abbrev pub neighbor_key : NeighborEntry → ℕ
neighbor_key e = e.extended_address.0

-- what stands in a place that is not in use
abbrev pub blank_neighbor : NeighborEntry
blank_neighbor = record {
  extended_address = record { 0 = 0 };
  network_address = record { 0 = 0 };
  device_type = Coordinator;
  rx_on_when_idle = false;
  end_device_configuration = 0;
  timeout_at = 0;
  device_timeout = 0;
  relationship = Parent;
  transmit_failure = 0;
  lqas = ring.fresh;
  outgoing_cost = 0;
  last_link_status_timestamp = 0;
  incoming_beacon_timestamp = 0;
  beacon_transmission_time_offset = 0;
  keepalive_received = false;
  mac_unicast_bytes_transmitted = 0;
  mac_unicast_bytes_received = 0;
  router_added_timestamp = 0;
  router_connectivity = 0;
  router_neighbor_set_diversity = 0;
  router_outbound_activity = 0;
  router_inbound_activity = 0;
  security_timer = 0;
}

-- "costs stored for neighbours at most 7", and samples that are well formed
unfoldable pub is_sound : NeighborEntry → Bool
is_sound e = leb e.outgoing_cost 7 && ring.well_formed e.lqas
