-- The numbers of a route request's answer: accepted or not, and the update. The many-to-one field is given by its number.
-- Document 01, "How each place should look": "a definition gives this paper's number and values for each of its cases".
-- Assumes nothing.
use Rattle.std.specs.Prelude.{ℕ, ◌≤◌, ◌<◌, Option, Result, Ok, Err, Bool}
use Rattle.types.specs.Refusal.{refusal_number}
use Rattle.types.specs.declared.Nwk.{Nwk}
use Rattle.numbers.specs.Said.{flag_number}
use Rattle.route_args.specs.Read.{many_to_one_of}
use Rattle.routing.specs.declared.Routing.{Routing}
use Rattle.routing.specs.declared.RouteRequestOutcome.{RouteRequestOutcome}
use Rattle.routing.specs.Search.{accept_route_request}
use Rattle.door.specs.declared.UpdatePlaces.{UpdatePlaces}
use Rattle.door.specs.Lent.{Counters, Reading, Made, NotMade}
use Rattle.door.specs.Places.{update_at, update_places}
use Rattle.types.specs.declared.Refusal.{Refusal}
use Rattle.standard.specs.declared.RouteUpdate.{RouteUpdate}

pub record RequestPlaces : Type 0 where
  pub accepted : ℕ
  pub update : UpdatePlaces

-- what the places of a request hold
abbrev pub request_at : ℕ → ℕ → ℕ → ℕ → ℕ → RequestPlaces
request_at accepted changed destination via reach = record { accepted = accepted; update = update_at changed destination via reach }

abbrev pub request_status : Result (Bool × Option RouteUpdate) Refusal → ℕ
request_status (Err why) = refusal_number why
request_status (Ok (b, u)) = 0

abbrev pub request_places : Result (Bool × Option RouteUpdate) Refusal → RequestPlaces → RequestPlaces
request_places (Err why) old = old
request_places (Ok (b, u)) old = record { accepted = flag_number b; update = update_places u }

abbrev pub request_numbers : Reading (Result (Bool × Option RouteUpdate) Refusal) RequestPlaces
request_numbers = record { status = request_status; places = request_places }

-- the many-to-one field has two bits: a number above 3 is no call, whatever the state
pub record RequestMade (before after : Counters → Routing) (originator : Nwk) (id : ℕ) (destination sender : Nwk) (cost field now span : ℕ) (old new : RequestPlaces) (r : ℕ) : Type 0 where
  pub call : field ≤ 3
      → Made request_numbers (λ (x : RouteRequestOutcome). x.answer) (λ (x : RouteRequestOutcome). x.state)
      (λ (s : Routing). accept_route_request s originator id destination sender cost (many_to_one_of field) now span) before after old new r
  pub none : 3 < field → NotMade before after old new r
