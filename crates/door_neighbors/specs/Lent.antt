-- The neighbours that a caller keeps and lends as columns. All of their columns are lent to every call, so nothing of the state is left out.
-- Assumes nothing.
use Rattle.std.specs.Prelude.{ℕ, List, Option, Result, Bool}
use Rattle.neighbor_columns.specs.Table as neighbours
use Rattle.waiting_columns.specs.Table as waits
use Rattle.neighbors.specs.declared.Neighbors.{Neighbors}
use Rattle.neighbors.specs.declared.Outcome.{Outcome}
use Rattle.neighbors.specs.State.{state_in}
use Rattle.door.specs.Lent.{Asked, Made}
use Rattle.door_neighbors.specs.declared.NamePlaces.{NamePlaces}
use Rattle.door_neighbors.specs.Answers.{done_numbers, truth_numbers, name_numbers}
use Rattle.types.specs.declared.Eui64.{Eui64}
use Rattle.types.specs.declared.Refusal.{Refusal}

-- the neighbours of columns that are lent: the ten columns of n neighbours, and the two of w senders whose samples wait
abbrev pub lent : List ℕ → List ℕ → List ℕ → List ℕ → List ℕ → List ℕ → List ℕ → List ℕ → List ℕ → List ℕ → ℕ → List ℕ → List ℕ → ℕ → Unit {0} → Neighbors
lent keys nwks links counts deadlines periods heard added beacons bytes n senders samples w _ =
    state_in (neighbours.in_columns keys nwks links counts deadlines periods heard added beacons bytes n) (waits.in_columns senders samples w)

-- what a call leaves that is done or refused, what a question leaves that is told yes or no, and one that is told an extended address
abbrev pub DoneMade : (Neighbors → Outcome) → (Unit {0} → Neighbors) → (Unit {0} → Neighbors) → ℕ → Type 0
DoneMade call before after r = Made done_numbers (λ (x : Outcome). x.answer) (λ (x : Outcome). x.state) call before after tt tt r

abbrev pub TruthAsked : (Neighbors → Result Bool Refusal) → (Unit {0} → Neighbors) → ℕ → ℕ → ℕ → Type 0
TruthAsked ask state old new r = Asked truth_numbers ask state old new r

abbrev pub NameAsked : (Neighbors → Result (Option Eui64) Refusal) → (Unit {0} → Neighbors) → NamePlaces → NamePlaces → ℕ → Type 0
NameAsked ask state old new r = Asked name_numbers ask state old new r
