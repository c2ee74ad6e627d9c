-- An outcome can be made of every choice: the relays of a record that is chosen are not none and not past the limit of the table, and those of the host
-- are neither empty, which is refused, nor too many, which is tested before.
use Rattle.std.specs.Prelude.{Option, Some, None, Result, Ok, Err}
use Prim.Native.Nat.{ℕ, ◌<◌, ◌≤◌}
use native.Mathlib.Omega.{arith}
use mathlib.Core.Bool.{Bool, true, false, cond, not, ◌&&◌}
use mathlib.Core.List.{List, [], ◌∷◌, map}
use mathlib.Core.Path.{◌≡◌, refl}
use borrow.Author.Tests.{eqb-false, ltb-false}
use lib.Dec.{eqb, ltb}
use lib.ListN.{length, take, get_or}
use Rattle.types.specs.declared.Nwk.{Nwk}
use Rattle.types.specs.declared.Refusal.TheVariants.{EmptySourceRoute}
use Rattle.standard.specs.declared.RelayList.{RelayList}
use Rattle.standard.specs.declared.RouteEntry.{RouteEntry}
use Rattle.standard.specs.Calls.{hop_at}
use Rattle.standard.specs.Query.{some_fits}
use Rattle.standard.specs.Route.{nwk}
use Rattle.flat_map.specs.Seek.{place_of}
use Rattle.flat_map.specs.Table.{Each}
use Rattle.record_table.specs.Table.{RecordTable, WellFormed}
use Rattle.record_table.proofs.Rows.{place-within}
use Rattle.relay_store.specs.Store.{row_at}
use Rattle.relay_store.proofs.Cells.{list_count}
use Rattle.relay_store.proofs.Rows.{wide_row}
use Rattle.route_calls.specs.Answer.{hop_answer}
use Rattle.route_record.proofs.Relays.{row-relays}
use Rattle.neighbor_table.specs.declared.NeighborEntry.{NeighborEntry}
use Rattle.neighbor_queries.specs.declared.Filter.TheVariants.{EndDeviceChildAt}
use Rattle.neighbor_queries.specs.Filter.{fits}
use Rattle.hop_choice.specs.declared.HostRoute.{HostRoute}
use Rattle.hop_choice.specs.declared.HostRoute.TheVariants as host
use Rattle.hop_choice.specs.declared.RouteDirective.TheVariants.{StackDecides, Hint, Force}
use Rattle.hop_choice.specs.declared.SendKind.{SendKind}
use Rattle.hop_choice.specs.declared.SendKind.TheVariants.{Direct, Route}
use Rattle.hop_choice.specs.declared.Policy.{Policy}
use Rattle.hop_choice.specs.declared.RecordSays.TheVariants as says
use Rattle.hop_choice.specs.declared.Choice.{Choice}
use Rattle.hop_choice.specs.declared.Choice.TheVariants.{Hop, ByHost}
use Rattle.hop_choice.specs.Choice.{first_of, host_choice, direct_step, forced_step, says_at, record_says, record_step, hop_step, active_step, hint_step, undiscovered, chosen}
use Rattle.next_hop.specs.Decision.{host_long, kind_long}
use Rattle.next_hop.specs.Made.{relays_in, Makeable}
use Rattle.types.specs.declared.Refusal.{Refusal}

-- the relays of a row that the choice names, as a list
pub row_fits : (lengths store : List ℕ) (i : ℕ) → length store ≡ 2048 → (i < 64) × (0 < get_or lengths i 0) × (get_or lengths i 0 ≤ 32)
    → (0 < (relays_in lengths store i).count) × ((relays_in lengths store i).count ≤ 32)
row_fits lengths store i long few =
    let n = row-relays (get_or lengths i 0) (row_at i store) (wide_row 64 i store (omega (arith, long)) few.0) few.2 in
    let c = list_count (map nwk (take (get_or lengths i 0) (row_at i store))) in
    (omega (arith, n, c, few.1), omega (arith, n, c, few.2))

module _ (routes : List RouteEntry) (t : RecordTable) (w : WellFormed t) (d : Nwk) (relays : RelayList) (p : Policy) where
  abbrev Made : Result Choice Refusal → Type 0
  Made = Makeable relays t.lengths

  -- a step that chooses chooses what can be made
  abbrev Gives : Option (Result Choice Refusal) → Type 0
  Gives None = Unit {0}
  Gives (Some x) = Made x

  first_gives : (steps : List (Option (Result Choice Refusal))) (last : Result Choice Refusal) → Each Gives steps → Made last → Made (first_of steps last)
  first_gives [] last each end = end
  first_gives (None ∷ steps) last each end = first_gives steps last each.1 end
  first_gives (Some x ∷ steps) last each end = each.0

  by-list : (b : Bool) → eqb relays.count 0 ≡ b → ltb 32 relays.count ≡ false → Made (cond b (Err EmptySourceRoute) (Ok ByHost))
  by-list true e short = tt
  by-list false e short = (omega (arith, eqb-false relays.count 0 e), ltb-false 32 relays.count short)

  by-host : (r : HostRoute) → host_long relays r ≡ false → Made (host_choice relays.count r)
  by-host (host.NextHop n) short = tt
  by-host host.SourceRoute short = by-list (eqb relays.count 0) refl short

  by-direct : (k : SendKind) → Gives (direct_step d k)
  by-direct Direct = tt
  by-direct (Route x) = tt

  by-force : (k : SendKind) → kind_long relays k ≡ false → Gives (forced_step relays.count k)
  by-force Direct short = tt
  by-force (Route StackDecides) short = tt
  by-force (Route (Hint r)) short = tt
  by-force (Route (Force r)) short = by-host r short

  by-hint : (k : SendKind) → kind_long relays k ≡ false → Gives (hint_step relays.count k)
  by-hint Direct short = tt
  by-hint (Route StackDecides) short = tt
  by-hint (Route (Hint r)) short = by-host r short
  by-hint (Route (Force r)) short = tt

  by-child : (b : Bool) → Gives (cond b (Some (Ok (Hop d))) None)
  by-child true = tt
  by-child false = tt

  by-hop : (b : Bool) (x : Result (Option Nwk) Refusal) → Gives (cond b None (hop_step x))
  by-hop true x = tt
  by-hop false (Ok None) = tt
  by-hop false (Ok (Some n)) = tt
  by-hop false (Err why) = tt

  by_row : (i : ℕ) → i < t.count → (b c : Bool) → eqb (get_or t.lengths i 0) 0 ≡ b → Gives (record_step d (cond b says.Direct (cond c (says.Row i) says.Nothing)))
  by_row i h true c e = tt
  by_row i h false false e = tt
  by_row i h false true e = (omega (arith, h, w.ordered.small), omega (arith, eqb-false (get_or t.lengths i 0) 0 e), omega (arith, w.few i))

  by-record : (b : Bool) (at : Result ℕ ℕ) → at ≡ place_of (take t.count t.keys) d.0
      → Gives (record_step d (cond b (says_at p.max_source_route t.lengths at) says.Nothing))
  by-record false at e = tt
  by-record true (Err i) e = tt
  by-record true (Ok i) e = by_row i (place-within t w d.0 i e) (eqb (get_or t.lengths i 0) 0) (ltb (get_or t.lengths i 0) p.max_source_route) refl

  by_end : (b : Bool) → Made (undiscovered b)
  by_end true = tt
  by_end false = tt

  pub chosen-makeable : (near : List NeighborEntry) (shut : Bool) (k : SendKind) → kind_long relays k ≡ false → Made (chosen routes t near d p relays.count shut k)
  unfolding chosen record_says active_step
  chosen-makeable near shut k short =
      first_gives
      (direct_step d k ∷ forced_step relays.count k ∷ cond (some_fits (fits (EndDeviceChildAt d)) near) (Some (Ok (Hop d))) None ∷ record_step d (record_says p t d) ∷ active_step routes d p ∷ hint_step relays.count k ∷ [])
      (undiscovered shut)
      (by-direct k, (by-force k short, (by-child (some_fits (fits (EndDeviceChildAt d)) near), (by-record (p.is_concentrator && not p.force_route_discovery) (place_of (take t.count t.keys) d.0) refl, (by-hop p.force_route_discovery (hop_answer (hop_at d.0 routes)), (by-hint k short, tt))))))
      (by_end shut)

  pub told-makeable : (near : List NeighborEntry) (shut : Bool) (k : SendKind) → kind_long relays k ≡ false → (x : Result Choice Refusal) → x ≡ chosen routes t near d p relays.count shut k → Made x
  told-makeable near shut k short x e = rw e (chosen-makeable near shut k short)
