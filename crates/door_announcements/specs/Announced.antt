-- The numbers of an announcement of another router: the children to claim back, and those that went.
-- Document 01, "How each place should look": "a definition gives this paper's number and values for each of its cases".
-- Assumes nothing.
use Rattle.std.specs.Prelude.{ℕ, List, Result}
use Rattle.neighbor_queries.specs.declared.ChildList.{ChildList}
use Rattle.neighbor_queries.specs.declared.Eui64List.{Eui64List}
use Rattle.neighbors.specs.declared.Neighbors.{Neighbors}
use Rattle.neighbor_calls.specs.declared.Announced.{Announced}
use Rattle.neighbor_calls.specs.Announcements.{process_parent_annce}
use Rattle.door.specs.Lent.{Reading}
use Rattle.door_neighbors.specs.Answers.{done_status}
use Rattle.door_lists.specs.Answers.{written, ListsMade}
use Rattle.door_lists.specs.Lists.{AddressesPlaces, names_out, AddressesRoom, ChildrenPlaces, children_out, ChildrenRoom, given}
use Rattle.types.specs.declared.Refusal.{Refusal}

-- what an announcement is answered beside the next state
pub record BothLists : Type 0 where
  pub answer : Result Unit Refusal
  pub claimed : Eui64List
  pub removed : ChildList

abbrev pub both_lists : Result Unit Refusal → Eui64List → ChildList → BothLists
both_lists answer claimed removed = record { answer = answer; claimed = claimed; removed = removed }

abbrev pub announced_answer : Announced → BothLists
announced_answer x = both_lists x.answer x.claimed x.removed

-- the places of both lists, and that each has its 64
pub record BothPlaces : Type 0 where
  pub claimed : AddressesPlaces
  pub removed : ChildrenPlaces

abbrev pub both_at : AddressesPlaces → ChildrenPlaces → BothPlaces
both_at claimed removed = record { claimed = claimed; removed = removed }

abbrev pub BothRoom : BothPlaces → Type 0
BothRoom p = AddressesRoom p.claimed × ChildrenRoom p.removed

abbrev pub both_numbers : Reading BothLists BothPlaces
both_numbers = record {
  status = λ (x : BothLists). done_status x.answer;
  places = λ (x : BothLists). written (λ (d : Unit {0}). both_at (names_out x.claimed) (children_out x.removed)) x.answer;
}

-- the numbers that are announced are given
abbrev pub AnnceMade : List ℕ → (Unit {0} → Neighbors) → (Unit {0} → Neighbors) → BothPlaces → BothPlaces → ℕ → Type 0
AnnceMade announced before after old new r =
    ListsMade BothRoom both_numbers announced_answer (λ (x : Announced). x.state) (λ (s : Neighbors). process_parent_annce s (given announced)) before after old new r
