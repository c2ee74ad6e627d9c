-- The numbers of a refused call keep the places; with `refused-asked` and `refused-made` such a call writes nothing.
use Rattle.std.specs.Prelude.{Result, Ok, Err}
use Prim.Native.Nat.{◌<◌}
use native.Mathlib.Omega.{arith}
use mathlib.Core.Path.{◌≡◌, refl}
use Rattle.types.specs.declared.Refusal.{Refusal}
use Rattle.neighbors.specs.declared.Neighbors.{Neighbors}
use Rattle.door.proofs.Lent.{Keeps}
use Rattle.door_neighbors.specs.Answers.{done_status}
use Rattle.neighbor_queries.specs.Answers.{with_list}
use Rattle.door_lists.specs.Answers.{list_status, list_numbers, children_numbers}
use Rattle.door_lists.specs.Lists.{children_out}

pub list-keeps : {A P : Type 0} (out : A → P) → Keeps (list_numbers out)
list-keeps out (Ok x) old p = absurd (omega arith)
list-keeps out (Err why) old p = refl

pub children-keeps : Keeps children_numbers
children-keeps = list-keeps children_out

-- a list beside an answer leaves its status
pub status-with : {L : Type 0} (a : Result Unit Refusal) (list : L) → list_status (with_list a list) ≡ done_status a
status-with (Ok tt) list = refl
status-with (Err why) list = refl

-- a call of which each refusal hands the state back does so where its status is one
pub back_by : {O : Type 0} (answer : O → Result Unit Refusal) (next : O → Neighbors) (rule : Neighbors → O)
    → ((s : Neighbors) (n : Refusal) → answer (rule s) ≡ Err n → next (rule s) ≡ s)
    → (s : Neighbors) → 0 < done_status (answer (rule s)) → next (rule s) ≡ s
back_by answer next rule back s = go (answer (rule s)) refl where
  go : (a : Result Unit Refusal) → answer (rule s) ≡ a → 0 < done_status a → next (rule s) ≡ s
  go (Ok tt) e q = absurd (omega arith)
  go (Err n) e q = back s n e
