-- What a call answers about a neighbour that was looked up.
-- Assumes nothing.
use Rattle.std.specs.Prelude.{Bool, false, not, ◌&&◌, Option, Some, None, Result, Ok, Err}
use Rattle.types.specs.declared.Refusal.{Refusal}
use Rattle.neighbor_table.specs.declared.NeighborEntry.{NeighborEntry}
use Rattle.neighbor_table.specs.Entry.{quality_of, cost_of}
use Rattle.neighbor_queries.specs.declared.Filter.TheVariants.{EndDeviceChild}
use Rattle.neighbor_queries.specs.Filter.{fits}
use Rattle.neighbor_queries.specs.declared.Capability.{Capability}
use Rattle.types.specs.declared.Eui64.{Eui64}
use Rattle.neighbor_queries.specs.declared.NeighborLink.{NeighborLink}

-- the link to a neighbour that was found
abbrev pub link_in : Option NeighborEntry → Result (Option NeighborLink) Refusal
link_in None = Ok None
link_in (Some e) = Ok (Some (record {
  eui64 = e.extended_address;
  outgoing_cost = e.outgoing_cost;
  incoming_cost = cost_of (quality_of e.lqas);
}))

-- its extended address
abbrev pub name_in : Option NeighborEntry → Result (Option Eui64) Refusal
name_in None = Ok None
name_in (Some e) = Ok (Some e.extended_address)

-- its device type, and whether it listens when idle
abbrev pub capability_in : Option NeighborEntry → Result (Option Capability) Refusal
capability_in None = Ok None
capability_in (Some e) = Ok (Some (record { device_type = e.device_type; rx_on_when_idle = e.rx_on_when_idle }))

-- 05-3474, section 2.4.3.1.12.1: an end device child that has sent no keepalive yet
abbrev pub is_unconfirmed : Option NeighborEntry → Bool
is_unconfirmed None = false
is_unconfirmed (Some e) = not e.keepalive_received && fits EndDeviceChild e

-- a list beside the answer of its call: "All hand back the given state .. and no other answer"
abbrev pub with_list : {L : Type 0} → Result Unit Refusal → L → Result L Refusal
with_list (Ok tt) list = Ok list
with_list (Err why) list = Err why
