-- What a call that begins a search hands back, by the rule's answer: a refusal leaves the state as it is, else the columns are put back with the id.
-- The id that the code counted is the next one.
use Rattle.std.specs.Prelude.{Result, Ok, Err}
use Prim.Native.Nat.{ℕ}
use native.Mathlib.Omega.{arith}
use mathlib.Core.Path.{◌≡◌, subst}
use Rattle.types.specs.declared.Refusal.{Refusal}
use Rattle.search_tables.specs.Packed.{SearchTables, Holds}
use Rattle.route_begin.specs.Answer.{BeginStep}
use Rattle.routing.specs.declared.Routing.{Routing}
use Rattle.routing.specs.declared.BeginOutcome.{BeginOutcome}
use Rattle.routing.specs.Search.{begun_by, begun_as}
use Rattle.routing.specs.State.{with_search, with_id}
use Rattle.routing.proofs.State.{held_back}

module _ (s : Routing) (step : ℕ → BeginStep) (n m : ℕ) (e : n ≡ m) (a : Result ℕ Refusal) where
  pub refused_as : (why : Refusal) → a ≡ Err why → a ≡ (step n).answer → ◌≡◌ {A = BeginOutcome} (record { answer = a; state = s }) (begun_as s m (step m))
  refused_as why p q =
      subst (λ (k : ℕ). ◌≡◌ {A = BeginOutcome} (record { answer = a; state = s }) (begun_as s k (step k))) e (go (step n).answer q) where
        go : (b : Result ℕ Refusal) → a ≡ b → ◌≡◌ {A = BeginOutcome} (record { answer = a; state = s }) (begun_by b s n (step n).tables)
        go (Err v) r = λ z. record { answer = r z; state = s }
        go (Ok i) r = absurd (let z : ◌≡◌ {A = ℕ} 0 1 = cc in omega arith)

  pub begun-as : (i : ℕ) → a ≡ Ok i → a ≡ (step n).answer → (u : SearchTables) → Holds u (step n).tables
      → ◌≡◌ {A = BeginOutcome} (record { answer = a; state = with_id (with_search s u) n }) (begun_as s m (step m))
  begun-as i p q u h =
      subst (λ (k : ℕ). ◌≡◌ {A = BeginOutcome} (record { answer = a; state = with_id (with_search s u) n }) (begun_as s k (step k))) e (go (step n).answer q) where
        go : (b : Result ℕ Refusal) → a ≡ b → ◌≡◌ {A = BeginOutcome} (record { answer = a; state = with_id (with_search s u) n }) (begun_by b s n (step n).tables)
        go (Err v) r = absurd (let z : ◌≡◌ {A = ℕ} 0 1 = cc in omega arith)
        go (Ok j) r = λ z. record { answer = r z; state = with_id (held_back s u (step n).tables h z) n }
