-- The numbers of what answers share.
-- Document 01, "How each place should look": "If an answer is an enum, a definition gives this paper's number and values for each of its cases."
-- Assumes nothing.
use Rattle.std.specs.Prelude.{ℕ, Option, Some, None, Result, Ok, Err, Bool}
use Rattle.types.specs.Refusal.{refusal_number}
use Rattle.numbers.specs.Said.{flag_number}
use Rattle.routing.specs.declared.Routing.{Routing}
use Rattle.routing.specs.declared.DoneOutcome.{DoneOutcome}
use Rattle.routing.specs.declared.ToldOutcome.{ToldOutcome}
use Rattle.door.specs.declared.UpdatePlaces.{UpdatePlaces}
use Rattle.door.specs.Lent.{Counters, Reading, Made}
use Rattle.types.specs.declared.Refusal.{Refusal}
use Rattle.standard.specs.declared.RouteUpdate.{RouteUpdate}

-- what the places of an update hold
abbrev pub update_at : ℕ → ℕ → ℕ → ℕ → UpdatePlaces
update_at changed destination hop cost = record { changed = changed; destination = destination; next_hop = hop; path_cost = cost }

-- whether a route changed, and then its destination, next hop and cost
abbrev pub update_places : Option RouteUpdate → UpdatePlaces
update_places None = update_at 0 0 0 0
update_places (Some u) = update_at 1 u.destination.0 u.next_hop.0 u.path_cost

-- a call that is done says no more; what a call tells is yes or no
abbrev pub done_status : Result Unit Refusal → ℕ
done_status (Err why) = refusal_number why
done_status (Ok tt) = 0

abbrev pub done_numbers : Reading (Result Unit Refusal) (Unit {0})
done_numbers = record { status = done_status; places = λ answer old. old }

abbrev pub told_status : Result Bool Refusal → ℕ
told_status (Err why) = refusal_number why
told_status (Ok b) = 0

abbrev pub told_place : Result Bool Refusal → ℕ → ℕ
told_place (Err why) old = old
told_place (Ok b) old = flag_number b

abbrev pub told_numbers : Reading (Result Bool Refusal) ℕ
told_numbers = record { status = told_status; places = told_place }

abbrev pub DoneMade : (Routing → DoneOutcome) → (Counters → Routing) → (Counters → Routing) → ℕ → Type 0
DoneMade call before after r = Made done_numbers (λ (x : DoneOutcome). x.answer) (λ (x : DoneOutcome). x.state) call before after tt tt r

abbrev pub ToldMade : (Routing → ToldOutcome) → (Counters → Routing) → (Counters → Routing) → ℕ → ℕ → ℕ → Type 0
ToldMade call before after old new r = Made told_numbers (λ (x : ToldOutcome). x.answer) (λ (x : ToldOutcome). x.state) call before after old new r
