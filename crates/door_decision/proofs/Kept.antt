-- The header that a caller keeps, with its fields as an answered decision left them, is the decision's own header, whatever its other fields are.
use Rattle.std.specs.Prelude.{Result, Ok, Err}
use Prim.Native.Nat.{ℕ}
use mathlib.Core.List.{List}
use mathlib.Core.Path.{◌≡◌, refl, ap, ◌∙◌}
use Rattle.types.specs.declared.Nwk.{Nwk}
use Rattle.standard.specs.declared.RelayList.{RelayList}
use Rattle.relay_store.proofs.Cells.{nwk-number}
use Rattle.routing.specs.declared.Routing.{Routing}
use Rattle.neighbors.specs.declared.Neighbors.{Neighbors}
use Rattle.frame.specs.declared.NwkHeader.{NwkHeader}
use Rattle.frame.specs.Header.{source_routed}
use Rattle.hop_choice.specs.declared.Policy.{Policy}
use Rattle.next_hop.specs.declared.NextHop.{NextHop}
use Rattle.next_hop.specs.declared.NextHop.TheVariants.{Resolved, NeedDiscovery, Discard}
use Rattle.next_hop.specs.declared.ResolveOutcome.{ResolveOutcome}
use Rattle.next_hop.specs.declared.SendMode.{SendMode}
use Rattle.next_hop.specs.Kept.{Shaped, kept, by-host, by-record}
use Rattle.next_hop.proofs.HeaderFrame.{resolve-shaped}
use Rattle.door.specs.Lent.{Counters, Asked}
use Rattle.door_decision.specs.Header.{HeaderPlaces, Values, header_in}
use Rattle.door_decision.specs.Decision.{ResolvePlaces, resolve_places, resolve_numbers, routed_places, Unlent, sending, resolve_on}
use Rattle.door_decision.proofs.Fields.{same-places}
use Rattle.types.specs.declared.Refusal.{Refusal}

module _ (to : Nwk) (old : ResolvePlaces) (v : Values old.header) (h : NwkHeader) where
  abbrev H : NwkHeader
  H = header_in to old.header h

  -- a header with the fields that an outcome leaves in it
  abbrev left : ResolveOutcome → NwkHeader
  left x = header_in to (resolve_numbers.places x old).header h

  as-it-came : (a : Result NextHop Refusal) → header_in to (resolve_places a H old).header h ≡ H
  as-it-came (Err why) = refl
  as-it-came (Ok (Resolved n)) = ap (λ (p : HeaderPlaces). header_in to p h) (same-places to old.header v h)
  as-it-came (Ok NeedDiscovery) = ap (λ (p : HeaderPlaces). header_in to p h) (same-places to old.header v h)
  as-it-came (Ok Discard) = ap (λ (p : HeaderPlaces). header_in to p h) (same-places to old.header v h)

  by-route : (l : RelayList) → header_in to (routed_places l).header h ≡ source_routed H l
  by-route l = ap (λ (addresses : List Nwk). source_routed H (record { count = l.count; addresses = addresses })) (nwk-number l.addresses)

  shaped-left : {r : Routing} {m : SendMode} {p : Policy} {store : List ℕ} {x : ResolveOutcome} → Shaped r H m p store x → left x ≡ x.header
  shaped-left (kept a) = as-it-came a
  shaped-left by-host = by-route _
  shaped-left by-record = by-route _

pub header-left : (routing : Counters → Routing) (neighbors : Unit {0} → Neighbors) (mode : SendMode) (policy : Policy) (store : List ℕ) (to : Nwk) (old new : ResolvePlaces) (r : ℕ) → Values old.header
    → Asked resolve_numbers (resolve_on mode policy store) (sending routing neighbors to old.header) old new r
    → (c : Unlent) → header_in to new.header c.header ≡ (resolve_on mode policy store (sending routing neighbors to old.header c)).header
header-left routing neighbors mode policy store to old new r v x c =
    ap (λ (p : ResolvePlaces). header_in to p.header c.header) (x.said c).places
    ∙ shaped-left to old v c.header (resolve-shaped (routing c.counters) (header_in to old.header c.header) mode policy store (neighbors tt))
