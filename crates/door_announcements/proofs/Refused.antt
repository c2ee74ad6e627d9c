-- A refused announcement leaves the columns and the places: by value it hands the state back, and its numbers keep what the places held.
use Prim.Native.Nat.{ℕ, ◌<◌}
use mathlib.Core.List.{List}
use mathlib.Core.Path.{◌≡◌}
use Rattle.neighbors.specs.declared.Neighbors.{Neighbors}
use Rattle.neighbor_calls.specs.declared.Announced.{Announced}
use Rattle.neighbor_calls.specs.Announcements.{process_parent_annce}
use Rattle.neighbors_kept.proofs.Refused.{process-parent-annce-refused}
use Rattle.door.proofs.Lent.{Keeps, refused-made}
use Rattle.door_neighbors.specs.Answers.{done_status}
use Rattle.door_lists.specs.Lists.{names_out, children_out, given}
use Rattle.door_lists.proofs.Refused.{list-keeps, back_by}
use Rattle.door_announcements.specs.Announced.{BothPlaces, both_at, BothRoom, both_numbers, AnnceMade}

both-keeps : Keeps both_numbers
both-keeps x old p = list-keeps (λ (d : Unit {0}). both_at (names_out x.claimed) (children_out x.removed)) x.answer old p

module _ (before after : Unit {0} → Neighbors) (r : ℕ) (p : 0 < r) (old new : BothPlaces) (room : BothRoom old) where
  pub annce-refused : (announced : List ℕ) → AnnceMade announced before after old new r → (c : Unit {0}) → (after c ≡ before c) × (new ≡ old)
  annce-refused announced x = refused-made both-keeps (record { back = hands }) (x.call room) p where
    hands : (s : Neighbors) → 0 < done_status (process_parent_annce s (given announced)).answer → (process_parent_annce s (given announced)).state ≡ s
    hands = back_by (λ (x : Announced). x.answer) (λ x. x.state) (λ s. process_parent_annce s (given announced)) (λ s n. process-parent-annce-refused s n (given announced))
