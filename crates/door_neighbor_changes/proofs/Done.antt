-- A change of lent columns that only the test of the state refuses: columns that are not well formed are left and refused, and in any others
-- columns that hold the rule's rows are the call's state.
use mathlib.Core.Bool.{Bool, true, false, cond}
use mathlib.Core.List.{List}
use mathlib.Core.Path.{◌≡◌, refl, sym, subst}
use Rattle.types.specs.declared.Refusal.TheVariants.{StateIllFormed}
use Rattle.neighbor_table.specs.declared.NeighborEntry.{NeighborEntry}
use Rattle.neighbor_columns.specs.Table.{NeighborTable, WellFormed, Holds, rows_of}
use Rattle.neighbor_columns.specs.Lent.{Changed}
use Rattle.neighbors.specs.declared.Neighbors.{Neighbors}
use Rattle.neighbors.specs.declared.Outcome.{Outcome}
use Rattle.neighbors.specs.State.{well_formed, formed_in, table_in, waiting_in, state_in, rows, done_with}
use Rattle.neighbors.specs.Changes.{refused}
use Rattle.neighbors.proofs.State.{held}
use Rattle.door.proofs.Lent.{ill-made, rule-made}
use Rattle.door_neighbors.specs.Lent.{DoneMade}
use Rattle.door_neighbors.proofs.Lent.{test_of, formed-in}

module _ (s : Neighbors) {b : Bool} (told : b ≡ formed_in (table_in s) (waiting_in s)) where
  pub left : (core : Neighbors → Outcome) → b ≡ false
      → DoneMade (λ (x : Neighbors). cond (well_formed x) (core x) (refused x StateIllFormed)) (λ _. s) (λ _. s) 10
  left core e =
      ill-made well_formed core (λ (x : Neighbors). refused x StateIllFormed) (test_of (λ _. s) b false told e) (λ _. refl) (λ _. record { status = refl; places = refl })

  pub done : (xs : Neighbors → List NeighborEntry) (t : NeighborTable) → b ≡ true → Holds t (xs s)
      → DoneMade (λ (x : Neighbors). cond (well_formed x) (done_with x (xs x)) (refused x StateIllFormed)) (λ _. s) (λ _. state_in t (waiting_in s)) 0
  done xs t e h =
      rule-made well_formed (λ (x : Neighbors). done_with x (xs x)) (λ (x : Neighbors). refused x StateIllFormed) (test_of (λ _. s) b true told e)
      (λ _. held s t (xs s) h) (λ _. record { status = refl; places = refl })

  -- the same of a call that is lent some of the columns
  pub changed : (before after : NeighborTable → NeighborTable) (rule : List NeighborEntry → List NeighborEntry) → Changed before after rule → before (table_in s) ≡ table_in s → b ≡ true
      → DoneMade (λ (x : Neighbors). cond (well_formed x) (done_with x (rule (rows x))) (refused x StateIllFormed)) (λ _. s) (λ _. state_in (after (table_in s)) (waiting_in s)) 0
  changed before after rule h same e =
      done (λ (x : Neighbors). rule (rows x)) (after (table_in s)) e
      (subst (λ (t : NeighborTable). Holds (after (table_in s)) (rule (rows_of t))) same (h (table_in s) (subst WellFormed (sym same) (formed-in (table_in s) (waiting_in s) b told e).table)))
