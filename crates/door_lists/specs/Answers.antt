-- What calls that are answered with lists leave: one that is done writes its lists, one that is refused writes nothing. And the numbers of an answer
-- with a list of children beside it.
-- Document 01, "How each place should look": "a definition gives this paper's number and values for each of its cases".
-- Assumes nothing.
use Rattle.std.specs.Prelude.{ℕ, Result, Ok, Err}
use Rattle.neighbor_queries.specs.declared.ChildList.{ChildList}
use Rattle.neighbors.specs.declared.Neighbors.{Neighbors}
use Rattle.door.specs.Lent.{Reading, Asked, NotAsked, Made, NotMade}
use Rattle.door_lists.specs.Lists.{ChildrenPlaces, children_out}
use Rattle.types.specs.declared.Refusal.{Refusal}
use Rattle.types.specs.Refusal.{refusal_number}

-- what a call that answers lists has for a status
abbrev pub list_status : {A : Type 0} → Result A Refusal → ℕ
list_status (Ok x) = 0
list_status (Err why) = refusal_number why

-- what the places hold after it, by what its lists write
abbrev pub written : {A P : Type 0} → (A → P) → Result A Refusal → P → P
written out (Ok x) old = out x
written out (Err why) old = old

abbrev pub list_numbers : {A P : Type 0} → (A → P) → Reading (Result A Refusal) P
list_numbers out = record { status = list_status; places = written out }

abbrev pub children_numbers : Reading (Result ChildList Refusal) ChildrenPlaces
children_numbers = list_numbers children_out

-- lists go out to places that have room for them: with any others it is no call, whatever the state
pub record ListsAsked {A P : Type 0} (Room : P → Type 0) (reading : Reading A P) (ask : Neighbors → A) (state : Unit {0} → Neighbors) (old new : P) (r : ℕ) : Type 0 where
  pub call : Room old → Asked reading ask state old new r
  pub none : (Room old → ⊥) → NotAsked old new r

pub record ListsMade {O A P : Type 0} (Room : P → Type 0) (reading : Reading A P) (answer : O → A) (next : O → Neighbors) (rule : Neighbors → O) (before after : Unit {0} → Neighbors) (old new : P) (r : ℕ) : Type 0 where
  pub call : Room old → Made reading answer next rule before after old new r
  pub none : (Room old → ⊥) → NotMade before after old new r
