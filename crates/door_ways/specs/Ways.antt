-- The numbers of the way to a destination: no way 0; a hop 1 and the hop; a source route 2 and its relays.
-- Document 01, "How each place should look": "a definition gives this paper's number and values for each of its cases".
-- Assumes nothing.
use Rattle.std.specs.Prelude.{ℕ, List, ◌≡◌, length, Result, Ok, Err}
use Rattle.types.specs.Refusal.{refusal_number}
use Rattle.types.specs.declared.Nwk.{Nwk}
use Rattle.standard.specs.declared.RelayList.{RelayList}
use Rattle.routing.specs.declared.Routing.{Routing}
use Rattle.routing.specs.declared.RouteToAnswer.{RouteToAnswer}
use Rattle.routing.specs.declared.RouteToAnswer.TheVariants.{NoRoute, NextHop, SourceRoute}
use Rattle.routing.specs.declared.RouteToOutcome.{RouteToOutcome}
use Rattle.routing.specs.Records.{route_to, route_to_default}
use Rattle.door.specs.Lent.{Counters, Reading, Asked, NotAsked}
use Rattle.door_ways.specs.Relays.{RelayedPlaces, relayed_with}
use Rattle.types.specs.declared.Refusal.{Refusal}

abbrev pub way_status : Result RouteToAnswer Refusal → ℕ
way_status (Err why) = refusal_number why
way_status (Ok NoRoute) = 0
way_status (Ok (NextHop n)) = 0
way_status (Ok SourceRoute) = 0

-- the relays beside an answer that names none are blank (routing, `route-to-blank`), so that their places are 0
abbrev pub way_places : Result RouteToAnswer Refusal → RelayList → RelayedPlaces → RelayedPlaces
way_places (Err why) l old = old
way_places (Ok NoRoute) l old = relayed_with 0 0 l
way_places (Ok (NextHop n)) l old = relayed_with 1 n.0 l
way_places (Ok SourceRoute) l old = relayed_with 2 0 l

-- an answer with relays beside it
abbrev pub beside : Result RouteToAnswer Refusal → RelayList → RouteToOutcome
beside answer l = record { answer = answer; relays = l }

abbrev pub way_numbers : Reading RouteToOutcome RelayedPlaces
way_numbers = record { status = λ (x : RouteToOutcome). way_status x.answer; places = λ (x : RouteToOutcome). way_places x.answer x.relays }

-- the relays go out to 32 places: any other number of them is no call, whatever the state
pub record WayAsked (state : Counters → Routing) (destination : Nwk) (limit : ℕ) (store : List ℕ) (old new : RelayedPlaces) (r : ℕ) : Type 0 where
  pub call : length old.relays ≡ 32 → Asked way_numbers (λ (s : Routing). route_to s destination limit store) state old new r
  pub none : (length old.relays ≡ 32 → ⊥) → NotAsked old new r

pub record WayByDefault (state : Counters → Routing) (destination : Nwk) (store : List ℕ) (old new : RelayedPlaces) (r : ℕ) : Type 0 where
  pub call : length old.relays ≡ 32 → Asked way_numbers (λ (s : Routing). route_to_default s destination store) state old new r
  pub none : (length old.relays ≡ 32 → ⊥) → NotAsked old new r
