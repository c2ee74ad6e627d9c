-- What a call about children leaves of lent columns that are well formed is the call's state, and its answer is said.
use Rattle.std.specs.Prelude.{Option, Result}
use Prim.Native.Nat.{ℕ}
use mathlib.Core.Bool.{Bool, true, cond}
use mathlib.Core.List.{List}
use mathlib.Core.Path.{◌≡◌, refl, sym, ap, subst, ◌∙◌}
use Rattle.types.specs.declared.Nwk.{Nwk}
use Rattle.types.specs.declared.Eui64.{Eui64}
use Rattle.types.specs.declared.Refusal.TheVariants.{StateIllFormed}
use Rattle.types.specs.Clock.{time_sum}
use Rattle.standard.specs.Ordered.{lookup}
use Rattle.standard.specs.Query.{first}
use Rattle.neighbor_table.specs.declared.NeighborEntry.{NeighborEntry}
use Rattle.neighbor_table.specs.Entry.{neighbor_key}
use Rattle.neighbor_columns.specs.Table.{NeighborTable, Formed64, WellFormed, Holds, rows_of}
use Rattle.neighbor_columns.specs.Lent.{Asked, Changed}
use Rattle.neighbor_queries.specs.declared.Filter.TheVariants.{EndDeviceChildAt}
use Rattle.neighbor_queries.specs.Filter.{fits}
use Rattle.children.specs.declared.ChildDescriptor.{ChildDescriptor}
use Rattle.children.specs.Known.{known}
use Rattle.children_lent.specs.Rules as deadlines
use Rattle.children_moves_lent.specs.Rules as moves
use Rattle.neighbors.specs.declared.Neighbors.{Neighbors}
use Rattle.neighbors.specs.State.{well_formed, formed_in, table_in, waiting_in, state_in, rows}
use Rattle.neighbors.proofs.State.{held}
use Rattle.neighbor_calls.specs.Children.{refresh_child_timeout, set_child_timeout, take_child, upsert_child}
use Rattle.neighbor_calls.specs.Outcomes.{truth_outcome, refused_truth}
use Rattle.door.specs.Lent.{Says}
use Rattle.door.proofs.Lent.{says-as, rule-made}
use Rattle.door_neighbors.specs.declared.AddressPlaces.{AddressPlaces}
use Rattle.door_neighbors.specs.Answers.{done_status, truth_numbers, address_numbers}
use Rattle.door_neighbors.specs.Lent.{DoneMade}
use Rattle.door_neighbors.proofs.Lent.{test_of, formed-in}
use Rattle.door_children.specs.Children.{TruthMade, AddressMade}
use Rattle.types.specs.declared.Refusal.{Refusal}

-- what a data poll by two addresses answers and changes, from the columns that are lent
abbrev Polled : ℕ → (NeighborTable → NeighborTable) → (NeighborTable → NeighborTable) → (NeighborTable → NeighborTable) → Result Bool Refusal → Option Eui64 → Option Nwk → Type 0
Polled now asked before after answer name address =
    Asked asked (λ (xs : List NeighborEntry). answer ≡ deadlines.refresh_answer now (known name address xs))
    × Changed before after (deadlines.refresh_child_timeout name address now)

module _ (s : Neighbors) {b : Bool} (told : b ≡ formed_in (table_in s) (waiting_in s)) (good : b ≡ true) where
  formed : WellFormed (table_in s)
  formed = (formed-in (table_in s) (waiting_in s) b told good).table

  -- a call that is told yes or no and is lent some of the columns: those that the answer is read from, and those that change
  told-left : (say : List NeighborEntry → Result Bool Refusal) (rule : List NeighborEntry → List NeighborEntry) (asked before after : NeighborTable → NeighborTable) (answer : Result Bool Refusal) (old new r : ℕ)
      → Asked asked (λ (xs : List NeighborEntry). answer ≡ say xs) → asked (table_in s) ≡ table_in s → Changed before after rule → before (table_in s) ≡ table_in s
      → Says truth_numbers answer old new r
      → TruthMade (λ (x : Neighbors). cond (well_formed x) (truth_outcome x (say (rows x)) (rule (rows x))) (refused_truth x StateIllFormed)) (λ _. s) (λ _. state_in (after (table_in s)) (waiting_in s)) old new r
  told-left say rule asked before after answer old new r a p h q said =
      let e : answer ≡ say (rows s) = subst (λ (t : NeighborTable). answer ≡ say (rows_of t)) p (a (table_in s) (subst Formed64 (sym p) formed.formed)) in
      let l : Holds (after (table_in s)) (rule (rows s)) =
      subst (λ (t : NeighborTable). Holds (after (table_in s)) (rule (rows_of t))) q (h (table_in s) (subst WellFormed (sym q) formed)) in
      rule-made well_formed _ _ (test_of (λ _. s) b true told good) (λ _. held s (after (table_in s)) (rule (rows s)) l) (λ _. says-as e said)

  -- a data poll, by the addresses that are given
  pub polled-left : (name given : Option Eui64) (address stated : Option Nwk) (now : ℕ) (asked before after : NeighborTable → NeighborTable) (answer : Result Bool Refusal) (old new r : ℕ)
      → name ≡ given → address ≡ stated
      → Polled now asked before after answer name address
      → asked (table_in s) ≡ table_in s → before (table_in s) ≡ table_in s → Says truth_numbers answer old new r
      → TruthMade (λ (x : Neighbors). refresh_child_timeout x given stated now) (λ _. s) (λ _. state_in (after (table_in s)) (waiting_in s)) old new r
  unfolding refresh_child_timeout
  polled-left name given address stated now asked before after answer old new r d e h p q said =
      let l : Polled now asked before after answer given stated =
      subst (λ (m : Option Eui64). Polled now asked before after answer m stated) d (subst (λ (n : Option Nwk). Polled now asked before after answer name n) e h) in
      told-left (λ (xs : List NeighborEntry). deadlines.refresh_answer now (known given stated xs)) (deadlines.refresh_child_timeout given stated now) asked before after answer old new r
      l.0 p l.1 q said

  -- another period
  pub retimed-left : (nwk : Nwk) (timeout configuration now : ℕ) (asked before after : NeighborTable → NeighborTable) (answer : Result Bool Refusal) (old new r : ℕ)
      → Asked asked (λ (xs : List NeighborEntry). answer ≡ deadlines.set_answer (time_sum now timeout) (first (fits (EndDeviceChildAt nwk)) xs))
      × Changed before after (deadlines.set_child_timeout nwk timeout configuration now)
      → asked (table_in s) ≡ table_in s → before (table_in s) ≡ table_in s → Says truth_numbers answer old new r
      → TruthMade (λ (x : Neighbors). set_child_timeout x nwk timeout configuration now) (λ _. s) (λ _. state_in (after (table_in s)) (waiting_in s)) old new r
  unfolding set_child_timeout
  retimed-left nwk timeout configuration now asked before after answer old new r h p q said =
      told-left (λ (xs : List NeighborEntry). deadlines.set_answer (time_sum now timeout) (first (fits (EndDeviceChildAt nwk)) xs)) (deadlines.set_child_timeout nwk timeout configuration now) asked before after answer old new r
      h.0 p h.1 q said

  -- a child taken out
  pub taken-left : (eui64 : Eui64) (answer : Result (Option Nwk) Refusal) (t : NeighborTable) (old new : AddressPlaces) (r : ℕ)
      → (answer ≡ moves.take_answer (lookup neighbor_key eui64.0 (rows s))) × Holds t (moves.take_child eui64 (rows s)) → Says address_numbers answer old new r
      → AddressMade (λ (x : Neighbors). take_child x eui64) (λ _. s) (λ _. state_in t (waiting_in s)) old new r
  unfolding take_child
  taken-left eui64 answer t old new r h said = rule-made well_formed _ _ (test_of (λ _. s) b true told good) (λ _. held s t (moves.take_child eui64 (rows s)) h.1) (λ _. says-as h.0 said)

  -- a child that joins
  pub joined-left : (child given : ChildDescriptor) (now : ℕ) (answer : Result Unit Refusal) (t : NeighborTable) (r : ℕ) → child ≡ given
      → (answer ≡ moves.upsert_answer child (time_sum now child.device_timeout) (rows s)) × Holds t (moves.upsert_child child now (rows s)) → r ≡ done_status answer
      → DoneMade (λ (x : Neighbors). upsert_child x given now) (λ _. s) (λ _. state_in t (waiting_in s)) r
  unfolding upsert_child
  joined-left child given now answer t r e h said =
      let l : (answer ≡ moves.upsert_answer given (time_sum now given.device_timeout) (rows s)) × Holds t (moves.upsert_child given now (rows s)) =
      subst (λ (x : ChildDescriptor). (answer ≡ moves.upsert_answer x (time_sum now x.device_timeout) (rows s)) × Holds t (moves.upsert_child x now (rows s))) e h in
      rule-made well_formed _ _ (test_of (λ _. s) b true told good) (λ _. held s t (moves.upsert_child given now (rows s)) l.1) (λ _. record { status = said ∙ ap done_status l.0; places = refl })
