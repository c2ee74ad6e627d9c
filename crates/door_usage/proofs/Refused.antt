-- A refused call leaves the columns: the test of the state alone refuses, and it hands the state back.
use Prim.Native.Nat.{ℕ, ◌<◌}
use mathlib.Core.Path.{◌≡◌, refl}
use Rattle.types.specs.declared.Nwk.{Nwk}
use Rattle.routing.specs.declared.Routing.{Routing}
use Rattle.routing.specs.declared.DoneOutcome.{DoneOutcome}
use Rattle.routing.specs.Routes.{mark_discovery_failed, record_usage, note_source_routed_frame, decay_activity, invalidate_via}
use Rattle.routing.specs.State.{well_formed}
use Rattle.door.specs.Lent.{Counters}
use Rattle.door.specs.Places.{DoneMade, done_numbers}
use Rattle.door.proofs.Lent.{Hands, hands-first, refused-made, done-keeps}

abbrev HandsDone : (Routing → DoneOutcome) → Type 0
HandsDone call = Hands done_numbers (λ (x : DoneOutcome). x.answer) (λ (x : DoneOutcome). x.state) call

module _ (before after : Counters → Routing) (r : ℕ) where
  -- nothing is changed where the status is a refusal's
  abbrev pub Leaves : (Routing → DoneOutcome) → Type 0
  Leaves call = DoneMade call before after r → 0 < r → (c : Counters) → after c ≡ before c

  left : (call : Routing → DoneOutcome) → HandsDone call → Leaves call
  left call hands x p c = (refused-made done-keeps hands x p c).0

  pub mark-discovery-failed-refused : (d : Nwk) → Leaves (λ (s : Routing). mark_discovery_failed s d)
  unfolding mark_discovery_failed
  mark-discovery-failed-refused d = left _ (hands-first well_formed _ _ (λ _. refl) (λ _. refl))

  pub record-usage-refused : (d : Nwk) → Leaves (λ (s : Routing). record_usage s d)
  unfolding record_usage
  record-usage-refused d = left _ (hands-first well_formed _ _ (λ _. refl) (λ _. refl))

  pub note-source-routed-frame-refused : (d : Nwk) → Leaves (λ (s : Routing). note_source_routed_frame s d)
  unfolding note_source_routed_frame
  note-source-routed-frame-refused d = left _ (hands-first well_formed _ _ (λ _. refl) (λ _. refl))

  pub decay-activity-refused : Leaves (λ (s : Routing). decay_activity s)
  unfolding decay_activity
  decay-activity-refused = left _ (hands-first well_formed _ _ (λ _. refl) (λ _. refl))

  pub invalidate-via-refused : (hop : Nwk) → Leaves (λ (s : Routing). invalidate_via s hop)
  unfolding invalidate_via
  invalidate-via-refused hop = left _ (hands-first well_formed _ _ (λ _. refl) (λ _. refl))
