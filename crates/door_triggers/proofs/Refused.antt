-- A refused call leaves the counters: the test of the state alone refuses, and it hands the state back.
use Prim.Native.Nat.{ℕ, ◌<◌}
use mathlib.Core.Path.{◌≡◌, refl}
use Rattle.routing.specs.declared.Routing.{Routing}
use Rattle.routing.specs.Queries.{note_route_error, note_delivery_failure, reset_mtorr_triggers}
use Rattle.routing.specs.State.{well_formed}
use Rattle.door.specs.Lent.{Counters}
use Rattle.door.specs.Places.{DoneMade, ToldMade}
use Rattle.door.proofs.Lent.{hands-first, refused-made, done-keeps, told-keeps}

module _ (before after : Counters → Routing) (r : ℕ) (p : 0 < r) where
  module _ (threshold old new : ℕ) where
    pub note-route-error-refused : ToldMade (λ (s : Routing). note_route_error s threshold) before after old new r → (c : Counters) → (after c ≡ before c) × (new ≡ old)
    unfolding note_route_error
    note-route-error-refused x = refused-made told-keeps (hands-first well_formed _ _ (λ _. refl) (λ _. refl)) x p

    pub note-delivery-failure-refused : ToldMade (λ (s : Routing). note_delivery_failure s threshold) before after old new r → (c : Counters) → (after c ≡ before c) × (new ≡ old)
    unfolding note_delivery_failure
    note-delivery-failure-refused x = refused-made told-keeps (hands-first well_formed _ _ (λ _. refl) (λ _. refl)) x p

  pub reset-mtorr-triggers-refused : DoneMade (λ (s : Routing). reset_mtorr_triggers s) before after r → (c : Counters) → after c ≡ before c
  unfolding reset_mtorr_triggers
  reset-mtorr-triggers-refused x c = (refused-made done-keeps (hands-first well_formed _ _ (λ _. refl) (λ _. refl)) x p c).0
