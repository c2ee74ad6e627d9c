-- Where a sample of link quality goes, as rules on the rows of both tables.
-- Document 01, "Refusal numbers": "The waiting samples never refuse: a 65th sender pushes out the lowest address, not the oldest."
-- Assumes nothing.
use Rattle.std.specs.Prelude.{ℕ, List, cond, leb, Option, Some, None}
use Rattle.types.specs.declared.Nwk.{Nwk}
use Rattle.standard.specs.Query.{first}
use Rattle.ring_buffer.specs.Ring.{after_push}
use Rattle.neighbor_table.specs.declared.NeighborEntry.{NeighborEntry}
use Rattle.neighbor_columns.specs.declared.LinkPart.{LinkPart}
use Rattle.waiting_table.specs.declared.WaitingEntry.{WaitingEntry}
use Rattle.neighbor_queries.specs.declared.Filter.TheVariants.{Address}
use Rattle.neighbor_queries.specs.Filter.{fits}
use Rattle.neighbor_changes.specs.declared.Change.TheVariants.{Sample}
use Rattle.neighbor_changes.specs.Rules.{changed_first}
use Rattle.waiting_table.specs.Entry.{waiting_key, ring_in}
use Rattle.standard.specs.Ordered.{lookup, put, pop_first, count_with}

-- room for a sender among 64
abbrev pub room_for : Nwk → List WaitingEntry → List WaitingEntry
room_for nwk xs = cond (leb (count_with waiting_key nwk.0 xs) 64) xs (pop_first xs)

-- the sender with one more sample; one that has none starts with a fresh ring
abbrev pub one_more : Option WaitingEntry → Nwk → ℕ → WaitingEntry
one_more o nwk lqi = record { network_address = nwk; lqas = after_push (ring_in o) lqi }

abbrev pub waiting_after : Nwk → ℕ → List WaitingEntry → List WaitingEntry
waiting_after nwk lqi xs = put waiting_key (one_more (lookup waiting_key nwk.0 (room_for nwk xs)) nwk lqi) (room_for nwk xs)

-- one more sample in the part of a neighbour that its link word holds
abbrev pub sampled_link : ℕ → LinkPart → LinkPart
sampled_link lqi p = record {
  lqas = after_push p.lqas lqi;
  outgoing_cost = p.outgoing_cost;
  device_type = p.device_type;
  relationship = p.relationship;
  rx_on_when_idle = p.rx_on_when_idle;
  keepalive_received = p.keepalive_received;
}

-- to the first neighbour with the sender's address
abbrev pub record_sample : Nwk → ℕ → List NeighborEntry → List NeighborEntry
record_sample nwk lqi xs = changed_first (Sample lqi) (Address nwk) xs

-- or else to wait
abbrev pub waiting_unless : Option NeighborEntry → Nwk → ℕ → List WaitingEntry → List WaitingEntry
waiting_unless None nwk lqi ws = waiting_after nwk lqi ws
waiting_unless (Some e) nwk lqi ws = ws

abbrev pub record_waiting : Nwk → ℕ → List NeighborEntry → List WaitingEntry → List WaitingEntry
record_waiting nwk lqi xs ws = waiting_unless (first (fits (Address nwk)) xs) nwk lqi ws
