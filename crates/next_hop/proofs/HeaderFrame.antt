-- A decision leaves the header as it came, or sets a source route in it, as each of its outcomes does;
-- and a refusal hands the header back. Hence every field that a source route does not name has its old value.
use Rattle.std.specs.Prelude.{Ok, Err}
use Prim.Native.Nat.{ℕ}
use native.Mathlib.Omega.{arith}
use mathlib.Core.Bool.{Bool, true, false, cond, ◌&&◌, ◌||◌}
use mathlib.Core.List.{List}
use mathlib.Core.Path.{◌≡◌, refl}
use Rattle.types.specs.declared.Nwk.{Nwk}
use Rattle.types.specs.declared.Refusal.{Refusal}
use Rattle.types.specs.declared.Refusal.TheVariants.{ListTooLong, StoreDisagrees, StateIllFormed}
use Rattle.standard.specs.declared.RelayList.{RelayList}
use Rattle.standard.proofs.Unique.{one_answer}
use Rattle.relay_store.specs.Store.{agrees}
use Rattle.routing.specs.State.{record_table}
use Rattle.routing.specs.declared.Routing.{Routing}
use Rattle.routing.specs.State as routes
use Rattle.neighbors.specs.declared.Neighbors.{Neighbors}
use Rattle.neighbors.specs.State as neighbours
use Rattle.frame.specs.declared.NwkHeader.{NwkHeader}
use Rattle.frame.specs.Header.{carries_long, source_routed}
use Rattle.next_hop.specs.declared.SendMode.{SendMode}
use Rattle.next_hop.specs.declared.NextHop.TheVariants.{Resolved}
use Rattle.hop_choice.specs.declared.Policy.{Policy}
use Rattle.next_hop.specs.declared.ResolveOutcome.{ResolveOutcome}
use Rattle.next_hop.specs.Decision.{refused_with, decided, names_long, resolve}
use Rattle.next_hop.specs.Kept.{SameBesides, Shaped, kept, by-host, by-record}
use Rattle.next_hop.proofs.Outcomes.{decided-by}

kept_same : (h : NwkHeader) → SameBesides h h
kept_same h = record {
  kind = refl;
  version = refl;
  multicast = refl;
  security = refl;
  destination-bit = refl;
  source-bit = refl;
  initiator = refl;
  reserved = refl;
  destination = refl;
  source = refl;
  radius = refl;
  sequence = refl;
  destination-name = refl;
  source_name = refl;
  control = refl;
}

routed-same : (h : NwkHeader) (relays : RelayList) → SameBesides h (source_routed h relays)
routed-same h relays = record {
  kind = refl;
  version = refl;
  multicast = refl;
  security = refl;
  destination-bit = refl;
  source-bit = refl;
  initiator = refl;
  reserved = refl;
  destination = refl;
  source = refl;
  radius = refl;
  sequence = refl;
  destination-name = refl;
  source_name = refl;
  control = refl;
}

module _ (r : Routing) (h : NwkHeader) (m : SendMode) (p : Policy) (store : List ℕ) where
  pub decided-shaped : (n : Neighbors) → Shaped r h m p store (decided r n h m p store)
  decided-shaped = decided-by r h m p store (Shaped r h m p store) (λ next. kept _) (kept _) (kept _) by-host by-record (kept _)

  judged : (a b c : Bool) (x : ResolveOutcome) → Shaped r h m p store x
      → Shaped r h m p store (cond a (cond b (cond c (refused_with h ListTooLong) x) (refused_with h StoreDisagrees)) (refused_with h StateIllFormed))
  judged true true true x s = kept _
  judged true true false x s = s
  judged true false c x s = kept _
  judged false b c x s = kept _

  pub resolve-shaped : (n : Neighbors) → Shaped r h m p store (resolve r n h m p store)
  unfolding resolve
  resolve-shaped n =
      judged (routes.well_formed r && neighbours.well_formed n) (agrees (record_table r) store) (names_long m || carries_long h) (decided r n h m p store)
      (decided-shaped n)

  -- the frame of the header, for every answer of the shape
  same-besides : {x : ResolveOutcome} → Shaped r h m p store x → SameBesides h x.header
  same-besides (kept a) = kept_same h
  same-besides by-host = routed-same h _
  same-besides by-record = routed-same h _

  pub header-frame : (n : Neighbors) → SameBesides h (resolve r n h m p store).header
  header-frame n = same-besides (resolve-shaped n)

  -- where no hop is given, the header is whole as it came
  unresolved : {x : ResolveOutcome} → Shaped r h m p store x → ((n : Nwk) → x.answer ≡ (Ok (Resolved n)) → ⊥) → x.header ≡ h
  unresolved (kept a) free = refl
  unresolved by-host free = absurd (free _ refl)
  unresolved by-record free = absurd (free _ refl)

  pub unresolved-kept : (n : Neighbors) → ((hop : Nwk) → (resolve r n h m p store).answer ≡ (Ok (Resolved hop)) → ⊥) → (resolve r n h m p store).header ≡ h
  unresolved-kept n free = unresolved (resolve-shaped n) free

  pub refused-kept : (n : Neighbors) (why : Refusal) → (resolve r n h m p store).answer ≡ Err why → (resolve r n h m p store).header ≡ h
  refused-kept n why e = unresolved-kept n (λ hop q. let z : ◌≡◌ {A = ℕ} 0 1 = cc in omega arith)

  -- the contract leaves one answer
  pub one-decision : (n : Neighbors) {x y : ResolveOutcome} → x ≡ resolve r n h m p store → y ≡ resolve r n h m p store → x ≡ y
  one-decision n = one_answer
