-- A refused call leaves the columns and the places: by value it hands the state back, and its numbers keep what the places held.
use Prim.Native.Nat.{ℕ, ◌<◌}
use mathlib.Core.List.{List}
use mathlib.Core.Path.{◌≡◌, refl, subst}
use Rattle.neighbors.specs.declared.Neighbors.{Neighbors}
use Rattle.neighbors.specs.State.{well_formed}
use Rattle.neighbor_calls.specs.declared.Removal.{Removal}
use Rattle.neighbor_calls.specs.Children.{evict_timed_out_children}
use Rattle.neighbor_calls.specs.Announcements.{remove_claimed_children}
use Rattle.neighbors_kept.proofs.Refused.{remove-claimed-children-refused}
use Rattle.door.proofs.Lent.{Hands, hands-first, refused-made}
use Rattle.door_lists.specs.Answers.{list_status, children_numbers}
use Rattle.door_lists.specs.Lists.{ChildrenPlaces, ChildrenRoom, given}
use Rattle.door_lists.proofs.Refused.{children-keeps, status-with, back_by}
use Rattle.door_removals.specs.Removals.{removal_answer, EvictionMade, ClaimMade}

evict-hands : (now : ℕ) → Hands children_numbers removal_answer (λ (x : Removal). x.state) (λ (s : Neighbors). evict_timed_out_children s now)
unfolding evict_timed_out_children
evict-hands now = hands-first well_formed _ _ (λ _. refl) (λ _. refl)

module _ (before after : Unit {0} → Neighbors) (r : ℕ) (p : 0 < r) (old new : ChildrenPlaces) (room : ChildrenRoom old) where
  pub eviction-refused : (now : ℕ) → EvictionMade now before after old new r → (c : Unit {0}) → (after c ≡ before c) × (new ≡ old)
  eviction-refused now x = refused-made children-keeps (evict-hands now) (x.call room) p

  pub claim-refused : (claims : List ℕ) → ClaimMade claims before after old new r → (c : Unit {0}) → (after c ≡ before c) × (new ≡ old)
  claim-refused claims x = refused-made children-keeps (record { back = hands }) (x.call room) p where
    hands : (s : Neighbors) → 0 < list_status (removal_answer (remove_claimed_children s (given claims))) → (remove_claimed_children s (given claims)).state ≡ s
    hands s q =
        back_by (λ (x : Removal). x.answer) (λ x. x.state) (λ s. remove_claimed_children s (given claims)) (λ s n. remove-claimed-children-refused s n (given claims))
        s (subst (λ (n : ℕ). 0 < n) (status-with (remove_claimed_children s (given claims)).answer (remove_claimed_children s (given claims)).removed) q)
