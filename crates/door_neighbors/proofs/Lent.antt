-- The test of lent columns is that of the neighbours that they are, and tells that these are well formed. A refused call's answer keeps its places.
use Rattle.std.specs.Prelude.{Some, None, Ok, Err}
use Prim.Native.Nat.{◌<◌}
use native.Mathlib.Omega.{arith}
use mathlib.Core.Bool.{Bool, true}
use mathlib.Core.Path.{◌≡◌, refl, sym, ◌∙◌}
use Rattle.neighbor_columns.specs.Table as neighbours
use Rattle.waiting_columns.specs.Table as waits
use Rattle.neighbors.specs.declared.Neighbors.{Neighbors}
use Rattle.neighbors.specs.State.{WellFormed, well_formed, formed_in, table_in, waiting_in, state_in}
use Rattle.neighbors.proofs.State.{state-told, columns-told}
use Rattle.door.proofs.Lent.{Keeps}
use Rattle.door_neighbors.specs.Answers.{done_numbers, truth_numbers, name_numbers, address_numbers}

-- what the test of the columns says is what the state's own says
pub test_of : (state : Unit {0} → Neighbors) (b x : Bool) → b ≡ formed_in (table_in (state tt)) (waiting_in (state tt)) → b ≡ x → (c : Unit {0}) → well_formed (state c) ≡ x
test_of state b x e p c = sym (columns-told (state c) e) ∙ p

pub formed-in : (t : neighbours.NeighborTable) (w : waits.WaitingTable) (b : Bool) → b ≡ formed_in t w → b ≡ true → WellFormed (state_in t w)
formed-in t w b e p = (state-told (state_in t w)).fact (sym (columns-told (state_in t w) e) ∙ p)

-- a refused call's answer keeps its places
pub done-keeps : Keeps done_numbers
done-keeps a old p = refl

pub truth-keeps : Keeps truth_numbers
truth-keeps (Ok b) old p = absurd (omega arith)
truth-keeps (Err why) old p = refl

pub name-keeps : Keeps name_numbers
name-keeps (Ok (Some x)) old p = absurd (omega arith)
name-keeps (Ok None) old p = absurd (omega arith)
name-keeps (Err why) old p = refl

pub address-keeps : Keeps address_numbers
address-keeps (Ok (Some x)) old p = absurd (omega arith)
address-keeps (Ok None) old p = absurd (omega arith)
address-keeps (Err why) old p = refl
