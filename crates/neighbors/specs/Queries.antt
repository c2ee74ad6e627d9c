-- What each question answers: the rule on the rows, for a well-formed state; refusal 10 for any other.
-- Document 01, "Refusal numbers" and "Decision (001) and neighbours (003)".
-- Assumes nothing.
use Rattle.std.specs.Prelude.{ℕ, cond, map, length, Option, Result, Ok, Err, Bool}
use Rattle.types.specs.declared.Nwk.{Nwk}
use Rattle.types.specs.declared.Eui64.{Eui64}
use Rattle.types.specs.declared.Refusal.TheVariants.{StateIllFormed}
use Rattle.standard.specs.Ordered.{lookup, keep}
use Rattle.standard.specs.Query.{first, some_fits, count_fits, is_there}
use Rattle.standard.specs.Query as query
use Rattle.standard.specs.Rows.{least}
use Rattle.neighbor_table.specs.declared.NeighborEntry.{NeighborEntry}
use Rattle.neighbor_table.specs.Entry.{neighbor_key}
use Rattle.neighbor_queries.specs.declared.Filter.TheVariants.{Address, EndDeviceChild, EndDeviceChildAt, SleepyChild, SleepyChildAt, LiveRouter, SampledRouter}
use Rattle.neighbor_queries.specs.Filter.{fits}
use Rattle.neighbor_queries.specs.Lists.{child_of, name_of, address_of, deadline_of, status_of, child_list, eui_list, nwk_list, status_list}
use Rattle.neighbors.specs.declared.Neighbors.{Neighbors}
use Rattle.neighbor_queries.specs.declared.Capability.{Capability}
use Rattle.neighbor_queries.specs.declared.ChildList.{ChildList}
use Rattle.neighbor_queries.specs.declared.Eui64List.{Eui64List}
use Rattle.neighbor_queries.specs.declared.NwkList.{NwkList}
use Rattle.neighbor_queries.specs.declared.LinkStatusList.{LinkStatusList}
use Rattle.neighbors.specs.State.{well_formed, rows}
use Rattle.neighbor_queries.specs.Answers.{link_in, name_in, capability_in, is_unconfirmed}
use Rattle.types.specs.declared.Refusal.{Refusal}
use Rattle.neighbor_queries.specs.declared.NeighborLink.{NeighborLink}

-- the radio link to the neighbour with a network address
unfoldable pub link : Neighbors → Nwk → Result (Option NeighborLink) Refusal
link s nwk = cond (well_formed s) (link_in (first (fits (Address nwk)) (rows s))) (Err StateIllFormed)

-- how many neighbours there are
unfoldable pub count : Neighbors → Result ℕ Refusal
count s = cond (well_formed s) (Ok (length (rows s))) (Err StateIllFormed)

-- the neighbour at a place, in order of extended address; nothing from the count on
unfoldable pub entry_at : Neighbors → ℕ → Result (Option NeighborEntry) Refusal
entry_at s place = cond (well_formed s) (Ok (query.entry_at place (rows s))) (Err StateIllFormed)

-- whether a neighbour has a network address
unfoldable pub has_network_address : Neighbors → Nwk → Result Bool Refusal
has_network_address s nwk = cond (well_formed s) (Ok (some_fits (fits (Address nwk)) (rows s))) (Err StateIllFormed)

-- the extended address of the end device child with a network address
unfoldable pub end_device_child_eui64 : Neighbors → Nwk → Result (Option Eui64) Refusal
end_device_child_eui64 s nwk = cond (well_formed s) (name_in (first (fits (EndDeviceChildAt nwk)) (rows s))) (Err StateIllFormed)

-- the extended address of the child with a network address that sleeps when idle
unfoldable pub sleepy_child_eui64 : Neighbors → Nwk → Result (Option Eui64) Refusal
sleepy_child_eui64 s nwk = cond (well_formed s) (name_in (first (fits (SleepyChildAt nwk)) (rows s))) (Err StateIllFormed)

-- every child that sleeps when idle: a broadcast goes to each by a unicast (05-3474, 3.6.6)
unfoldable pub sleepy_children : Neighbors → Result ChildList Refusal
sleepy_children s = cond (well_formed s) (Ok (child_list (map child_of (keep (fits SleepyChild) (rows s))))) (Err StateIllFormed)

-- whether an extended address is a neighbour's
unfoldable pub contains : Neighbors → Eui64 → Result Bool Refusal
contains s eui64 = cond (well_formed s) (Ok (is_there (lookup neighbor_key eui64.0 (rows s)))) (Err StateIllFormed)

-- the device type of a neighbour, and whether it listens when idle
unfoldable pub device_capability : Neighbors → Eui64 → Result (Option Capability) Refusal
device_capability s eui64 = cond (well_formed s) (capability_in (lookup neighbor_key eui64.0 (rows s))) (Err StateIllFormed)

-- how many end device children there are
unfoldable pub end_device_child_count : Neighbors → Result ℕ Refusal
end_device_child_count s = cond (well_formed s) (Ok (count_fits (fits EndDeviceChild) (rows s))) (Err StateIllFormed)

-- every end device child, for the announcement after a start (05-3474, 2.4.3.1.12.1)
unfoldable pub end_device_children : Neighbors → Result Eui64List Refusal
end_device_children s = cond (well_formed s) (Ok (eui_list (map name_of (keep (fits EndDeviceChild) (rows s))))) (Err StateIllFormed)

-- whether a device is an end device child that has sent no keepalive yet
unfoldable pub is_unconfirmed_end_device_child : Neighbors → Eui64 → Result Bool Refusal
is_unconfirmed_end_device_child s eui64 = cond (well_formed s) (Ok (is_unconfirmed (lookup neighbor_key eui64.0 (rows s)))) (Err StateIllFormed)

-- whether a router has listed this device with a cost
unfoldable pub any_live_router_link : Neighbors → Result Bool Refusal
any_live_router_link s = cond (well_formed s) (Ok (some_fits (fits LiveRouter) (rows s))) (Err StateIllFormed)

-- the earliest deadline of an end device child
unfoldable pub next_child_timeout : Neighbors → Result (Option ℕ) Refusal
next_child_timeout s = cond (well_formed s) (Ok (least (map deadline_of (keep (fits EndDeviceChild) (rows s))))) (Err StateIllFormed)

-- the routers that are expected to relay a broadcast (05-3474, 3.6.6)
unfoldable pub expected_broadcast_relayers : Neighbors → Result NwkList Refusal
expected_broadcast_relayers s = cond (well_formed s) (Ok (nwk_list (map address_of (keep (fits LiveRouter) (rows s))))) (Err StateIllFormed)

-- the link statuses that are advertised: one for each router of which enough samples are held
unfoldable pub link_status_entries : Neighbors → Result LinkStatusList Refusal
link_status_entries s = cond (well_formed s) (Ok (status_list (map status_of (keep (fits SampledRouter) (rows s))))) (Err StateIllFormed)
