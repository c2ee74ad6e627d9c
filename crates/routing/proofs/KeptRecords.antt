-- The calls on route records keep a well-formed state and a store that agrees with it so: records that were put where there is
-- room, or removed, are packed into both. A refused call leaves the state and the store's every number: for want of room, by their view.
use Rattle.std.specs.Prelude.{Ok, Err}
use Prim.Native.Nat.{ℕ, ◌≤◌}
use mathlib.Core.Bool.{Bool, true, false, cond}
use mathlib.Core.List.{List}
use mathlib.Core.Path.{◌≡◌, refl, sym}
use native.Mathlib.Omega.{arith}
use borrow.Author.Tests.{ltb-false}
use lib.Dec.{leb, ltb}
use lib.ListN.{length}
use Rattle.types.specs.declared.Nwk.{Nwk}
use Rattle.types.specs.declared.Refusal.{Refusal}
use Rattle.standard.specs.declared.RelayList.{RelayList}
use Rattle.standard.specs.Records.{RouteRecord, record_stored}
use Rattle.standard.proofs.Picked.{both_by, by-test}
use Rattle.record_table.specs.Table.{RecordTable}
use Rattle.relay_store.specs.Packed.{Together}
use Rattle.relay_store.specs.Store.{Agrees, relays_of, agrees}
use Rattle.relay_store.proofs.Agree.{agrees-told}
use Rattle.route_record.specs.Answer.{RecordStep, stored_step, removed_step}
use Rattle.route_record.proofs.Held.{relays-count}
use Rattle.route_record.proofs.Kept.{stored-kept, removed-kept}
use Rattle.routing.specs.declared.Routing.{Routing}
use Rattle.routing.specs.declared.RecordOutcome.{RecordOutcome}
use Rattle.routing.specs.declared.ToldOutcome.{ToldOutcome}
use Rattle.routing.specs.Records.{records_in, recorded_in, store_route_record, store_after_record, store_after_record_core, remove_route_record, store_after_removal}
use Rattle.routing.specs.State.{WellFormed, well_formed, route_table, discovery_table, record_table, with_tables}
use Rattle.routing.proofs.State.{state-told, held-records}

-- a well-formed state and a store that agrees with it
pub record Held (s : Routing) (store : List ℕ) : Type 0 where
  pub formed : WellFormed s
  pub agreed : Agrees (record_table s) store

pub held-together : (s : Routing) (store : List ℕ) → Held s store → Together (record_table s) store
held-together s store h = record { formed = h.formed.records; agrees = h.agreed }

module _ (s : Routing) (store : List ℕ) (h : Held s store) where
  put_in : (t : RecordTable) (after : List ℕ) → Together t after → Held (with_tables s (route_table s) (discovery_table s) t) after
  put_in t after g = record { formed = record { routes = h.formed.routes; discoveries = h.formed.discoveries; records = g.formed }; agreed = g.agrees }

  pub store-route-record-kept : (source : Nwk) (relays : RelayList) → length relays.addresses ≡ 32
      → Held (store_route_record s source relays store).state (store_after_record s source relays store)
  unfolding store_route_record store_after_record
  store-route-record-kept source relays long =
      kept (well_formed s) _ _ _ _
      (λ _. kept (agrees (record_table s) store) _ _ _ _
      (λ _. kept (ltb 32 relays.count) _ _ _ _ (λ _. h) (λ e. put_in _ _ (stored-kept (record_table s) store (held-together s store h) source (relays_of relays) (few (ltb-false 32 relays.count e)))))
      (λ _. h))
      (λ _. h) where
        kept : (b : Bool) (x y : RecordOutcome) (u v : List ℕ) → (b ≡ true → Held x.state u) → (b ≡ false → Held y.state v) → Held (cond b x y).state (cond b u v)
        kept = both_by (λ (x : RecordOutcome) (u : List ℕ). Held x.state u)

        few : relays.count ≤ 32 → length (relays_of relays) ≤ 32
        few l = omega (arith, relays-count relays long l)

  pub remove-route-record-kept : (d : Nwk) → Held (remove_route_record s d store).state (store_after_removal s d store)
  unfolding remove_route_record store_after_removal removed_step
  remove-route-record-kept d =
      kept (well_formed s) _ _ _ _
      (λ _. kept (agrees (record_table s) store) _ _ _ _ (λ _. put_in _ _ (removed-kept (record_table s) store (held-together s store h) d)) (λ _. h))
      (λ _. h) where
        kept : (b : Bool) (x y : ToldOutcome) (u v : List ℕ) → (b ≡ true → Held x.state u) → (b ≡ false → Held y.state v) → Held (cond b x y).state (cond b u v)
        kept = both_by (λ (x : ToldOutcome) (u : List ℕ). Held x.state u)

stored-never : (b : Bool) (n : Refusal) (xs ys : List RouteRecord) → Ok b ≡ Err n → xs ≡ ys
stored-never b n xs ys e = cc

-- a step that is refused leaves the records
refused-records : (source : Nwk) (relays : List Nwk) (xs : List RouteRecord) (n : Refusal) → (stored_step source relays xs).answer ≡ Err n → (stored_step source relays xs).records ≡ xs
unfolding stored_step
refused-records source relays xs n =
    by-test (λ (x : RecordStep). x.answer ≡ Err n → x.records ≡ xs) (leb (length (record_stored source relays xs)) 64) _ _ (λ _ e. stored-never _ n _ xs e) (λ _. refl)

-- what a refused call leaves: the state and the store that were given
abbrev Stays : Routing → List ℕ → Refusal → RecordOutcome → List ℕ → Type 0
Stays s store n x after = x.answer ≡ Err n → (x.state ≡ s) × (after ≡ store)

refused-step : (s : Routing) (store : List ℕ) (source : Nwk) (relays : RelayList) (n : Refusal) → Held s store
    → Stays s store n (recorded_in s (stored_step source (relays_of relays) (records_in s store))) (store_after_record_core s source relays store)
refused-step s store source relays n h e =
    let same = held-records s (record_table s) store _ (record { together = held-together s store h; records = sym (refused-records source (relays_of relays) (records_in s store) n e) }) in
    (sym same.0, sym same.1)

refused-record : (s : Routing) (store : List ℕ) (source : Nwk) (relays : RelayList) (n : Refusal)
    → Stays s store n (store_route_record s source relays store) (store_after_record s source relays store)
unfolding store_route_record store_after_record
refused-record s store source relays n =
    stays (well_formed s) _ _ _ _
    (λ formed. stays (agrees (record_table s) store) _ _ _ _
    (λ agreed. stays (ltb 32 relays.count) _ _ _ _ (λ _ _. (refl, refl))
    (λ _. refused-step s store source relays n (record { formed = (state-told s).fact formed; agreed = (agrees-told _ _).fact agreed })))
    (λ _ _. (refl, refl)))
    (λ _ _. (refl, refl)) where
      stays : (b : Bool) (x y : RecordOutcome) (u v : List ℕ) → (b ≡ true → Stays s store n x u) → (b ≡ false → Stays s store n y v) → Stays s store n (cond b x y) (cond b u v)
      stays = both_by (Stays s store n)

-- a refused route record leaves the store, whatever state and store are
pub refused-record-store : (s : Routing) (store : List ℕ) (source : Nwk) (relays : RelayList) (n : Refusal)
    → (store_route_record s source relays store).answer ≡ Err n → store_after_record s source relays store ≡ store
refused-record-store s store source relays n e = (refused-record s store source relays n e).1

-- and the state
pub refused-record-state : (s : Routing) (store : List ℕ) (source : Nwk) (relays : RelayList) (n : Refusal)
    → (store_route_record s source relays store).answer ≡ Err n → (store_route_record s source relays store).state ≡ s
refused-record-state s store source relays n e = (refused-record s store source relays n e).0

told-never : (b : Bool) (n : Refusal) (u v : List ℕ) → Ok b ≡ Err n → u ≡ v
told-never b n u v e = cc

-- a refused removal leaves the store, whatever state and store are
pub refused-removal-store : (s : Routing) (store : List ℕ) (d : Nwk) (n : Refusal)
    → (remove_route_record s d store).answer ≡ Err n → store_after_removal s d store ≡ store
unfolding remove_route_record store_after_removal
refused-removal-store s store d n =
    stays (well_formed s) _ _ _ _
    (λ _. stays (agrees (record_table s) store) _ _ _ _ (λ _ e. told-never _ n _ store e) (λ _ _. refl))
    (λ _ _. refl) where
      stays : (b : Bool) (x y : ToldOutcome) (u v : List ℕ) → (b ≡ true → x.answer ≡ Err n → u ≡ store) → (b ≡ false → y.answer ≡ Err n → v ≡ store) → (cond b x y).answer ≡ Err n → cond b u v ≡ store
      stays = both_by (λ (x : ToldOutcome) (u : List ℕ). x.answer ≡ Err n → u ≡ store)
