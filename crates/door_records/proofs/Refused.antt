-- A refused call leaves the columns, the store and the place: by value it hands both back.
use Rattle.std.specs.Prelude.{Result, Ok, Err, Bool}
use Prim.Native.Nat.{ℕ, ◌<◌}
use native.Mathlib.Omega.{arith}
use mathlib.Core.List.{List}
use mathlib.Core.Path.{◌≡◌, refl, subst, ◌∙◌}
use Rattle.types.specs.declared.Nwk.{Nwk}
use Rattle.standard.proofs.Picked.{by-test}
use Rattle.relay_store.specs.Store.{agrees}
use Rattle.routing.specs.declared.Routing.{Routing}
use Rattle.routing.specs.declared.ToldOutcome.{ToldOutcome}
use Rattle.routing.specs.Records.{store_route_record, store_after_record, remove_route_record, store_after_removal}
use Rattle.routing.specs.State.{well_formed, record_table}
use Rattle.routing.proofs.KeptRecords.{refused-record-state, refused-record-store, refused-removal-store}
use Rattle.door.specs.Lent.{Counters}
use Rattle.door.specs.Places.{told_status}
use Rattle.door.proofs.Lent.{Keeps, refused-made, told-keeps}
use Rattle.door_records.specs.Records.{given, record_status, record_numbers, RecordMade, RemovedMade}
use Rattle.types.specs.declared.Refusal.{Refusal}

record-keeps : Keeps record_numbers
record-keeps (Err why) old p = refl
record-keeps (Ok b) old p = absurd (omega arith)

module _ (before after : Counters → Routing) (store later : List ℕ) (old new r : ℕ) (p : 0 < r) where
  pub store-record-refused : (source : Nwk) (relays : List ℕ) → RecordMade before after source relays store later old new r → (c : Counters) → (after c ≡ before c) × (new ≡ old) × (later ≡ store)
  store-record-refused source relays x c = let y = refused-made record-keeps (record { back = hands }) x.made p c in (y.0, y.1, x.kept c ∙ keep (before c) (subst (λ (n : ℕ). 0 < n) (x.made.said c).status p)) where
    hands : (s : Routing) → 0 < record_status (store_route_record s source (given relays) store).answer → (store_route_record s source (given relays) store).state ≡ s
    hands s = go (store_route_record s source (given relays) store).answer refl where
      go : (a : Result Bool Refusal) → (store_route_record s source (given relays) store).answer ≡ a → 0 < record_status a → (store_route_record s source (given relays) store).state ≡ s
      go (Err n) e q = refused-record-state s store source (given relays) n e
      go (Ok b) e q = absurd (omega arith)

    keep : (s : Routing) → 0 < record_status (store_route_record s source (given relays) store).answer → store_after_record s source (given relays) store ≡ store
    keep s = go (store_route_record s source (given relays) store).answer refl where
      go : (a : Result Bool Refusal) → (store_route_record s source (given relays) store).answer ≡ a → 0 < record_status a → store_after_record s source (given relays) store ≡ store
      go (Err n) e q = refused-record-store s store source (given relays) n e
      go (Ok b) e q = absurd (omega arith)

  pub remove-record-refused : (destination : Nwk) → RemovedMade before after destination store later old new r → (c : Counters) → (after c ≡ before c) × (new ≡ old) × (later ≡ store)
  unfolding remove_route_record
  remove-record-refused destination x c = let y = refused-made told-keeps (record { back = hands }) x.made p c in (y.0, y.1, x.kept c ∙ keep (before c) (subst (λ (n : ℕ). 0 < n) (x.made.said c).status p)) where
    hands : (s : Routing) → 0 < told_status (remove_route_record s destination store).answer → (remove_route_record s destination store).state ≡ s
    hands s =
        by-test (λ (o : ToldOutcome). 0 < told_status o.answer → o.state ≡ s) (well_formed s) _ _
        (λ _. by-test (λ (o : ToldOutcome). 0 < told_status o.answer → o.state ≡ s) (agrees (record_table s) store) _ _ (λ _ q. absurd (omega arith)) (λ _. refl))
        (λ _. refl)

    keep : (s : Routing) → 0 < told_status (remove_route_record s destination store).answer → store_after_removal s destination store ≡ store
    keep s = go (remove_route_record s destination store).answer refl where
      go : (a : Result Bool Refusal) → (remove_route_record s destination store).answer ≡ a → 0 < told_status a → store_after_removal s destination store ≡ store
      go (Err n) e q = refused-removal-store s store destination n e
      go (Ok b) e q = absurd (omega arith)
