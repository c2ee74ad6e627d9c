-- A refused call leaves the columns and the places: by value it hands the state back.
use Rattle.std.specs.Prelude.{Option, Some, None, Result, Ok, Err, Bool}
use Prim.Native.Nat.{ℕ, ◌<◌, ◌≤◌}
use native.Mathlib.Omega.{arith}
use mathlib.Core.Path.{◌≡◌, refl}
use Rattle.types.specs.declared.Nwk.{Nwk}
use Rattle.types.specs.declared.Eui64.{Eui64}
use Rattle.types.specs.declared.Refusal.{Refusal}
use Rattle.standard.specs.Ordered.{lookup}
use Rattle.standard.proofs.Picked.{by-test}
use Rattle.neighbor_table.specs.declared.NeighborEntry.{NeighborEntry}
use Rattle.neighbor_table.specs.Entry.{neighbor_key, is_child_of}
use Rattle.children_moves_lent.specs.Rules.{take_answer}
use Rattle.neighbors.specs.declared.Neighbors.{Neighbors}
use Rattle.neighbors.specs.declared.Outcome.{Outcome}
use Rattle.neighbors.specs.State.{well_formed, rows}
use Rattle.neighbor_calls.specs.declared.TruthOutcome.{TruthOutcome}
use Rattle.neighbor_calls.specs.Children.{set_child_timeout, take_child}
use Rattle.neighbors_kept.proofs.Refused.{refresh-child-timeout-refused, set-child-timeout-refused, upsert-child-refused}
use Rattle.door.proofs.Lent.{Hands, hands-first, refused-made}
use Rattle.door_neighbors.specs.declared.AddressPlaces.{AddressPlaces}
use Rattle.door_neighbors.specs.Answers.{done_status, done_numbers, truth_status, truth_numbers, address_status}
use Rattle.door_neighbors.proofs.Lent.{done-keeps, truth-keeps, address-keeps}
use Rattle.door_children.specs.Children.{maybe_name, maybe_address, child_of, IsChild, TruthMade, AddressMade, RefreshMade, UpsertMade}

-- a call that hands the state back where its answer is a refusal
truth-hands : (call : Neighbors → TruthOutcome) → ((s : Neighbors) (why : Refusal) → (call s).answer ≡ Err why → (call s).state ≡ s)
    → Hands truth_numbers (λ (x : TruthOutcome). x.answer) (λ (x : TruthOutcome). x.state) call
truth-hands call back = record { back = λ s. go s (call s).answer refl } where
  go : (s : Neighbors) (a : Result Bool Refusal) → (call s).answer ≡ a → 0 < truth_status a → (call s).state ≡ s
  go s (Ok b) e p = absurd (omega arith)
  go s (Err why) e p = back s why e

done-hands : (call : Neighbors → Outcome) → ((s : Neighbors) (why : Refusal) → (call s).answer ≡ Err why → (call s).state ≡ s)
    → Hands done_numbers (λ (x : Outcome). x.answer) (λ (x : Outcome). x.state) call
done-hands call back = record { back = λ s. go s (call s).answer refl } where
  go : (s : Neighbors) (a : Result Unit Refusal) → (call s).answer ≡ a → 0 < done_status a → (call s).state ≡ s
  go s (Ok tt) e p = absurd (omega arith)
  go s (Err why) e p = back s why e

-- a child taken out is no refusal, and neither is one that is not there
taken-done : (o : Option NeighborEntry) → address_status (take_answer o) ≡ 0
taken-done None = refl
taken-done (Some e) = by-test (λ (a : Result (Option Nwk) Refusal). address_status a ≡ 0) (is_child_of e.relationship) _ _ (λ _. refl) refl

module _ (before after : Unit {0} → Neighbors) (r : ℕ) (p : 0 < r) where
  pub refresh-refused : (named name addressed address now old new : ℕ) → named ≤ 1 → addressed ≤ 1 → RefreshMade before after named name addressed address now old new r
      → (c : Unit {0}) → (after c ≡ before c) × (new ≡ old)
  refresh-refused named name addressed address now old new n a x =
      refused-made truth-keeps (truth-hands _ (λ s why. refresh-child-timeout-refused s why (maybe_name named name) (maybe_address addressed address) now)) (x.call (n, a)) p

  pub set-refused : (nwk : Nwk) (timeout configuration now old new : ℕ) → TruthMade (λ (s : Neighbors). set_child_timeout s nwk timeout configuration now) before after old new r
      → (c : Unit {0}) → (after c ≡ before c) × (new ≡ old)
  set-refused nwk timeout configuration now old new x = refused-made truth-keeps (truth-hands _ (λ s why. set-child-timeout-refused s why nwk timeout configuration now)) x p

  pub take-refused : (eui64 : Eui64) (old new : AddressPlaces) → AddressMade (λ (s : Neighbors). take_child s eui64) before after old new r
      → (c : Unit {0}) → (after c ≡ before c) × (new ≡ old)
  unfolding take_child
  take-refused eui64 old new x = refused-made address-keeps (hands-first well_formed _ _ (λ s. taken-done (lookup neighbor_key eui64.0 (rows s))) (λ _. refl)) x p

  pub upsert-refused : (name address kind listens timeout relation now : ℕ) → IsChild kind listens relation → UpsertMade before after name address kind listens timeout relation now r
      → (c : Unit {0}) → after c ≡ before c
  upsert-refused name address kind listens timeout relation now call x c =
      (refused-made done-keeps (done-hands _ (λ s why. upsert-child-refused s why (child_of name address kind listens timeout relation) now)) (x.call call) p c).0
