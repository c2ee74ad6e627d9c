-- What is read off a neighbour, and lists as answers: a count and an array, blank from the count on.
-- Assumes nothing.
use Rattle.std.specs.Prelude.{ℕ, ◌+◌, List, length, set}
use Rattle.types.specs.declared.Nwk.{Nwk}
use Rattle.types.specs.declared.Eui64.{Eui64}
use Rattle.flat_map.specs.Rows.{pad}
use Rattle.neighbor_table.specs.declared.NeighborEntry.{NeighborEntry}
use Rattle.neighbor_table.specs.Entry.{quality_of, cost_of}
use Rattle.neighbor_queries.specs.declared.Child.{Child}
use Rattle.neighbor_queries.specs.declared.LinkStatus.{LinkStatus}
use Rattle.neighbor_queries.specs.declared.ChildList.{ChildList}
use Rattle.neighbor_queries.specs.declared.Eui64List.{Eui64List}
use Rattle.neighbor_queries.specs.declared.NwkList.{NwkList}
use Rattle.neighbor_queries.specs.declared.LinkStatusList.{LinkStatusList}

abbrev pub name_of : NeighborEntry → Eui64
name_of e = e.extended_address

abbrev pub address_of : NeighborEntry → Nwk
address_of e = e.network_address

abbrev pub deadline_of : NeighborEntry → ℕ
deadline_of e = e.timeout_at

abbrev pub child_of : NeighborEntry → Child
child_of e = record { eui64 = name_of e; network_address = address_of e }

-- 05-3474, section 3.6.4.4.1: the link status that is advertised of a neighbour
abbrev pub status_of : NeighborEntry → LinkStatus
status_of e = record { address = address_of e; incoming_cost = cost_of (quality_of e.lqas); outgoing_cost = e.outgoing_cost }

abbrev pub no_name : Eui64
no_name = record { 0 = 0 }

abbrev pub no_address : Nwk
no_address = record { 0 = 0 }

abbrev pub no_child : Child
no_child = record { eui64 = no_name; network_address = no_address }

abbrev pub no_status : LinkStatus
no_status = record { address = no_address; incoming_cost = 0; outgoing_cost = 0 }

-- the answers that hold a list
unfoldable pub child_list : List Child → ChildList
child_list xs = record { count = length xs; children = pad 64 no_child xs }

unfoldable pub eui_list : List Eui64 → Eui64List
eui_list xs = record { count = length xs; addresses = pad 64 no_name xs }

unfoldable pub nwk_list : List Nwk → NwkList
nwk_list xs = record { count = length xs; addresses = pad 64 no_address xs }

unfoldable pub status_list : List LinkStatus → LinkStatusList
status_list xs = record { count = length xs; statuses = pad 64 no_status xs }

-- one more stored at the count
abbrev pub one_more_child : ChildList → Child → ChildList
one_more_child l x = record { count = l.count + 1; children = set l.children l.count x }

abbrev pub one_more_eui : Eui64List → Eui64 → Eui64List
one_more_eui l x = record { count = l.count + 1; addresses = set l.addresses l.count x }

abbrev pub one_more_nwk : NwkList → Nwk → NwkList
one_more_nwk l x = record { count = l.count + 1; addresses = set l.addresses l.count x }

abbrev pub one_more_status : LinkStatusList → LinkStatus → LinkStatusList
one_more_status l x = record { count = l.count + 1; statuses = set l.statuses l.count x }
