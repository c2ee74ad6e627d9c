-- A refused call leaves the columns and the places: by value it hands the state back.
use Rattle.std.specs.Prelude.{Option, Some, None, Result, Ok, Err}
use Prim.Native.Nat.{ℕ, ◌<◌}
use native.Mathlib.Omega.{arith}
use mathlib.Core.List.{List}
use mathlib.Core.Path.{◌≡◌, refl}
use Rattle.types.specs.declared.Nwk.{Nwk}
use Rattle.types.specs.declared.Eui64.{Eui64}
use Rattle.link_status.specs.declared.LinkStatusCommand.{LinkStatusCommand}
use Rattle.neighbors.specs.declared.Neighbors.{Neighbors}
use Rattle.neighbor_calls.specs.LinkStatus.{on_link_status}
use Rattle.neighbors_kept.proofs.Refused.{on-link-status-refused}
use Rattle.door.proofs.Lent.{refused-made}
use Rattle.door_neighbors.specs.declared.AddressPlaces.{AddressPlaces}
use Rattle.door_neighbors.specs.Answers.{address_status}
use Rattle.door_neighbors.proofs.Lent.{address-keeps}
use Rattle.door_link_status.specs.LinkStatus.{IsCommand, given, LinkStatusMade}
use Rattle.types.specs.declared.Refusal.{Refusal}

module _ (own : Nwk) (name : Eui64) (nwk : Nwk) (lqi now : ℕ) where
  hands : (command : LinkStatusCommand) (s : Neighbors) → 0 < address_status (on_link_status s own name nwk lqi command now).answer → (on_link_status s own name nwk lqi command now).state ≡ s
  hands command s = go (on_link_status s own name nwk lqi command now).answer refl where
    go : (a : Result (Option Nwk) Refusal) → (on_link_status s own name nwk lqi command now).answer ≡ a → 0 < address_status a → (on_link_status s own name nwk lqi command now).state ≡ s
    go (Ok (Some x)) e p = absurd (omega arith)
    go (Ok None) e p = absurd (omega arith)
    go (Err why) e p = on-link-status-refused s why own name nwk lqi command now e

  pub link-status-refused : (before after : Unit {0} → Neighbors) (first last : ℕ) (addresses incoming outgoing : List ℕ) (old new : AddressPlaces) (r : ℕ)
      → IsCommand first last addresses incoming outgoing → LinkStatusMade before after own name nwk lqi first last addresses incoming outgoing now old new r → 0 < r
      → (c : Unit {0}) → (after c ≡ before c) × (new ≡ old)
  link-status-refused before after first last addresses incoming outgoing old new r call x p =
      refused-made address-keeps (record { back = hands (given first last addresses incoming outgoing) }) (x.call call) p
