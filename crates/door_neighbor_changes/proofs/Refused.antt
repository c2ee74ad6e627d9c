-- A refused call leaves the columns: the test of the state alone refuses, and it hands the state back.
use Prim.Native.Nat.{ℕ, ◌<◌}
use mathlib.Core.Path.{◌≡◌, refl}
use Rattle.types.specs.declared.Nwk.{Nwk}
use Rattle.types.specs.declared.Eui64.{Eui64}
use Rattle.neighbors.specs.declared.Neighbors.{Neighbors}
use Rattle.neighbors.specs.declared.Outcome.{Outcome}
use Rattle.neighbors.specs.State.{well_formed}
use Rattle.neighbors.specs.Changes.{update_network_address, remove, record_outbound_activity, record_inbound_activity, record_transmit_failure, reset_transmit_failures}
use Rattle.neighbor_calls.specs.Samples.{record_lqa}
use Rattle.door.proofs.Lent.{Hands, hands-first, refused-made}
use Rattle.door_neighbors.specs.Answers.{done_numbers}
use Rattle.door_neighbors.specs.Lent.{DoneMade}
use Rattle.door_neighbors.proofs.Lent.{done-keeps}

abbrev HandsDone : (Neighbors → Outcome) → Type 0
HandsDone call = Hands done_numbers (λ (x : Outcome). x.answer) (λ (x : Outcome). x.state) call

module _ (before after : Unit {0} → Neighbors) (r : ℕ) where
  -- nothing is changed where the status is a refusal's
  abbrev pub Leaves : (Neighbors → Outcome) → Type 0
  Leaves call = DoneMade call before after r → 0 < r → (c : Unit {0}) → after c ≡ before c

  left : (call : Neighbors → Outcome) → HandsDone call → Leaves call
  left call hands x p c = (refused-made done-keeps hands x p c).0

  pub update-network-address-refused : (eui64 : Eui64) (nwk : Nwk) → Leaves (λ (s : Neighbors). update_network_address s eui64 nwk)
  unfolding update_network_address
  update-network-address-refused eui64 nwk = left _ (hands-first well_formed _ _ (λ _. refl) (λ _. refl))

  pub remove-neighbor-refused : (eui64 : Eui64) → Leaves (λ (s : Neighbors). remove s eui64)
  unfolding remove
  remove-neighbor-refused eui64 = left _ (hands-first well_formed _ _ (λ _. refl) (λ _. refl))

  pub record-outbound-activity-refused : (eui64 : Eui64) → Leaves (λ (s : Neighbors). record_outbound_activity s eui64)
  unfolding record_outbound_activity
  record-outbound-activity-refused eui64 = left _ (hands-first well_formed _ _ (λ _. refl) (λ _. refl))

  pub record-inbound-activity-refused : (nwk : Nwk) → Leaves (λ (s : Neighbors). record_inbound_activity s nwk)
  unfolding record_inbound_activity
  record-inbound-activity-refused nwk = left _ (hands-first well_formed _ _ (λ _. refl) (λ _. refl))

  pub record-transmit-failure-refused : (eui64 : Eui64) → Leaves (λ (s : Neighbors). record_transmit_failure s eui64)
  unfolding record_transmit_failure
  record-transmit-failure-refused eui64 = left _ (hands-first well_formed _ _ (λ _. refl) (λ _. refl))

  pub reset-transmit-failures-refused : Leaves (λ (s : Neighbors). reset_transmit_failures s)
  unfolding reset_transmit_failures
  reset-transmit-failures-refused = left _ (hands-first well_formed _ _ (λ _. refl) (λ _. refl))

  pub record-lqa-refused : (nwk : Nwk) (lqi : ℕ) → Leaves (λ (s : Neighbors). record_lqa s nwk lqi)
  unfolding record_lqa
  record-lqa-refused nwk lqi = left _ (hands-first well_formed _ _ (λ _. refl) (λ _. refl))
