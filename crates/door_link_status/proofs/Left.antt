-- What a link status command leaves of lent columns that are well formed is the call's state, and its answer is said.
use Rattle.std.specs.Prelude.{Option, Result}
use Prim.Native.Nat.{ℕ}
use mathlib.Core.Bool.{Bool, true}
use mathlib.Core.Path.{◌≡◌, subst}
use Rattle.types.specs.declared.Nwk.{Nwk}
use Rattle.types.specs.declared.Eui64.{Eui64}
use Rattle.neighbor_columns.specs.Table.{NeighborTable}
use Rattle.waiting_columns.specs.Table.{WaitingTable}
use Rattle.link_status.specs.declared.LinkStatusCommand.{LinkStatusCommand}
use Rattle.link_status_lent.specs.Columns.{on_link_status_rows, Leaves}
use Rattle.neighbors.specs.declared.Neighbors.{Neighbors}
use Rattle.neighbors.specs.State.{well_formed, formed_in, table_in, waiting_in, state_in, rows, waits}
use Rattle.neighbors.proofs.State.{held_both}
use Rattle.neighbor_calls.specs.declared.NwkOutcome.{NwkOutcome}
use Rattle.neighbor_calls.specs.LinkStatus.{on_link_status}
use Rattle.door.specs.Lent.{Says, Made}
use Rattle.door.proofs.Lent.{says-as, rule-made}
use Rattle.door_neighbors.specs.declared.AddressPlaces.{AddressPlaces}
use Rattle.door_neighbors.specs.Answers.{address_numbers}
use Rattle.door_neighbors.proofs.Lent.{test_of}
use Rattle.types.specs.declared.Refusal.{Refusal}

module _ (s : Neighbors) {b : Bool} (told : b ≡ formed_in (table_in s) (waiting_in s)) (good : b ≡ true) (own : Nwk) (name : Eui64) (nwk : Nwk) (lqi now : ℕ) where
  pub left : (command given : LinkStatusCommand) (answer : Result (Option Nwk) Refusal) (t : NeighborTable) (w : WaitingTable) (old new : AddressPlaces) (r : ℕ)
      → command ≡ given → Leaves (on_link_status_rows (rows s) (waits s) own name nwk lqi command now) answer t w → Says address_numbers answer old new r
      → Made address_numbers (λ (x : NwkOutcome). x.answer) (λ (x : NwkOutcome). x.state) (λ (x : Neighbors). on_link_status x own name nwk lqi given now) (λ (_ : Unit {0}). s) (λ (_ : Unit {0}). state_in t w) old new r
  unfolding on_link_status
  left command given answer t w old new r e h said =
      let l : Leaves (on_link_status_rows (rows s) (waits s) own name nwk lqi given now) answer t w =
      subst (λ (x : LinkStatusCommand). Leaves (on_link_status_rows (rows s) (waits s) own name nwk lqi x now) answer t w) e h in
      rule-made well_formed _ _ (test_of (λ _. s) b true told good) (λ _. held_both t _ w _ l.neighbors l.waiting) (λ _. says-as l.said said)
