-- What each call by which a child comes or goes answers and leaves, as rules on the rows: those of `children` without the state around them.
-- Document 01, "Refusal numbers": 5, then 4; "All hand back the given state .. unchanged". 05-3474, section 3.6.10.1.
-- Assumes nothing.
use Rattle.std.specs.Prelude.{ℕ, cond, List, leb, Option, Some, None, Result, Ok, Err}
use Rattle.types.specs.declared.Eui64.{Eui64}
use Rattle.types.specs.declared.Refusal.TheVariants.{TimePastEnd, NeighborTableFull}
use Rattle.types.specs.Clock.{time_sum}
use Rattle.standard.specs.Ordered.{lookup, put, remove, count_with}
use Rattle.neighbor_table.specs.declared.NeighborEntry.{NeighborEntry}
use Rattle.neighbor_table.specs.Entry.{neighbor_key, is_child_of}
use Rattle.children.specs.declared.ChildDescriptor.{ChildDescriptor}
use Rattle.children.specs.Attach.{start_in, attached}
use Rattle.types.specs.declared.Nwk.{Nwk}
use Rattle.types.specs.declared.Refusal.{Refusal}

-- any child, of any device type, is taken out
abbrev pub take_answer : Option NeighborEntry → Result (Option Nwk) Refusal
take_answer None = Ok None
take_answer (Some e) = cond (is_child_of e.relationship) (Ok (Some e.network_address)) (Ok None)

abbrev pub taken : Eui64 → Option NeighborEntry → List NeighborEntry → List NeighborEntry
taken eui64 None xs = xs
taken eui64 (Some e) xs = cond (is_child_of e.relationship) (remove neighbor_key eui64.0 xs) xs

abbrev pub take_child : Eui64 → List NeighborEntry → List NeighborEntry
take_child eui64 xs = taken eui64 (lookup neighbor_key eui64.0 xs) xs

-- a child joins or rejoins: refusal 5, then refusal 4 where there is no room
abbrev pub upsert_answer : ChildDescriptor → Option ℕ → List NeighborEntry → Result Unit Refusal
upsert_answer child (Some at) xs = cond (leb (count_with neighbor_key child.eui64.0 xs) 64) (Ok tt) (Err NeighborTableFull)
upsert_answer child None xs = Err TimePastEnd

abbrev pub upserted : ChildDescriptor → ℕ → Option ℕ → List NeighborEntry → List NeighborEntry
upserted child now (Some at) xs =
    cond (leb (count_with neighbor_key child.eui64.0 xs) 64)
    (put neighbor_key (attached child at (start_in (lookup neighbor_key child.eui64.0 xs) child.eui64 now)) xs)
    xs
upserted child now None xs = xs

abbrev pub upsert_child : ChildDescriptor → ℕ → List NeighborEntry → List NeighborEntry
upsert_child child now xs = upserted child now (time_sum now child.device_timeout) xs
