-- The numbers of the calls that remove children: those that went.
-- Document 01, "How each place should look": "a definition gives this paper's number and values for each of its cases".
-- Assumes nothing.
use Rattle.std.specs.Prelude.{ℕ, List, Result}
use Rattle.types.specs.declared.Refusal.{Refusal}
use Rattle.neighbor_queries.specs.declared.ChildList.{ChildList}
use Rattle.neighbor_queries.specs.Answers.{with_list}
use Rattle.neighbors.specs.declared.Neighbors.{Neighbors}
use Rattle.neighbor_calls.specs.declared.Removal.{Removal}
use Rattle.neighbor_calls.specs.Children.{evict_timed_out_children}
use Rattle.neighbor_calls.specs.Announcements.{remove_claimed_children}
use Rattle.door_lists.specs.Answers.{children_numbers, ListsMade}
use Rattle.door_lists.specs.Lists.{ChildrenPlaces, ChildrenRoom, given}

-- what a removal is answered beside the next state
abbrev pub removal_answer : Removal → Result ChildList Refusal
removal_answer x = with_list x.answer x.removed

abbrev pub RemovalMade : (Neighbors → Removal) → (Unit {0} → Neighbors) → (Unit {0} → Neighbors) → ChildrenPlaces → ChildrenPlaces → ℕ → Type 0
RemovalMade rule before after old new r = ListsMade ChildrenRoom children_numbers removal_answer (λ (x : Removal). x.state) rule before after old new r

-- the moment is given, or the numbers that are claimed
abbrev pub EvictionMade : ℕ → (Unit {0} → Neighbors) → (Unit {0} → Neighbors) → ChildrenPlaces → ChildrenPlaces → ℕ → Type 0
EvictionMade now before after old new r = RemovalMade (λ (s : Neighbors). evict_timed_out_children s now) before after old new r

abbrev pub ClaimMade : List ℕ → (Unit {0} → Neighbors) → (Unit {0} → Neighbors) → ChildrenPlaces → ChildrenPlaces → ℕ → Type 0
ClaimMade claims before after old new r = RemovalMade (λ (s : Neighbors). remove_claimed_children s (given claims)) before after old new r
