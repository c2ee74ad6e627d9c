-- Which neighbours fit a question: what the Rust writes into the closures of find, any and filter.
-- Document 01, "Decision (001) and neighbours (003)"; 05-3474, section 3.6.6 for live routers and 3.6.10.1 for deadlines.
-- Assumes nothing.
use Rattle.std.specs.Prelude.{Bool, not, ◌&&◌, eqb, ltb, leb}
use Rattle.types.specs.declared.Nwk.{Nwk}
use Rattle.neighbor_table.specs.declared.NeighborEntry.{NeighborEntry}
use Rattle.neighbor_table.specs.Entry.{is_router, is_end_device, is_child_of}
use Rattle.neighbor_queries.specs.declared.Filter.{Filter}
use Rattle.neighbor_queries.specs.declared.Filter.TheVariants.{Address, EndDeviceChild, EndDeviceChildAt, SleepyChild, SleepyChildAt, LiveRouter, LiveLinkAt, SampledRouter, TimedOut}

abbrev pub has_address : Nwk → NeighborEntry → Bool
has_address nwk e = eqb e.network_address.0 nwk.0

abbrev pub is_end_device_child : NeighborEntry → Bool
is_end_device_child e = is_child_of e.relationship && is_end_device e.device_type

-- a child that does not listen when idle, of any device type
abbrev pub is_sleepy_child : NeighborEntry → Bool
is_sleepy_child e = not e.rx_on_when_idle && is_child_of e.relationship

-- a link status of the neighbour lists this device with a cost
abbrev pub is_live : NeighborEntry → Bool
is_live e = ltb 0 e.outgoing_cost

unfoldable pub fits : Filter → NeighborEntry → Bool
fits (Address nwk) e = has_address nwk e
fits EndDeviceChild e = is_end_device_child e
fits (EndDeviceChildAt nwk) e = has_address nwk e && is_end_device_child e
fits SleepyChild e = is_sleepy_child e
fits (SleepyChildAt nwk) e = has_address nwk e && is_sleepy_child e
fits LiveRouter e = is_live e && is_router e.device_type
fits (LiveLinkAt nwk) e = has_address nwk e && is_live e
fits SampledRouter e = eqb e.lqas.len 3 && is_router e.device_type
fits (TimedOut now) e = leb e.timeout_at now && is_end_device_child e
