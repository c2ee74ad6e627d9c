-- The numbers of a route reply's answer: drop 0, established 1, relay 2 with the hop and the cost to relay it with; then the update.
-- Document 01, "How each place should look": "a definition gives this paper's number and values for each of its cases".
-- Assumes nothing.
use Rattle.std.specs.Prelude.{ℕ, Option, Result, Ok, Err}
use Rattle.types.specs.Refusal.{refusal_number}
use Rattle.types.specs.declared.Nwk.{Nwk}
use Rattle.standard.specs.declared.RouteReplyDisposition.{RouteReplyDisposition}
use Rattle.standard.specs.declared.RouteReplyDisposition.TheVariants.{Drop, Established, Relay}
use Rattle.routing.specs.declared.Routing.{Routing}
use Rattle.routing.specs.declared.RouteReplyOutcome.{RouteReplyOutcome}
use Rattle.routing.specs.Search.{accept_route_reply}
use Rattle.door.specs.declared.UpdatePlaces.{UpdatePlaces}
use Rattle.door.specs.Lent.{Counters, Reading, Made}
use Rattle.door.specs.Places.{update_at, update_places}
use Rattle.door_search.specs.declared.DispositionPlaces.{DispositionPlaces}
use Rattle.types.specs.declared.Refusal.{Refusal}
use Rattle.standard.specs.declared.RouteUpdate.{RouteUpdate}

abbrev pub disposition_at : ℕ → ℕ → ℕ → DispositionPlaces
disposition_at disposition hop cost = record { disposition = disposition; next_hop = hop; path_cost = cost }

abbrev pub disposition_places : RouteReplyDisposition → DispositionPlaces
disposition_places Drop = disposition_at 0 0 0
disposition_places Established = disposition_at 1 0 0
disposition_places (Relay hop cost) = disposition_at 2 hop.0 cost

pub record ReplyPlaces : Type 0 where
  pub done : DispositionPlaces
  pub update : UpdatePlaces

-- what the places of a reply hold
abbrev pub reply_at : ℕ → ℕ → ℕ → ℕ → ℕ → ℕ → ℕ → ReplyPlaces
reply_at disposition hop cost changed destination via reach = record { done = disposition_at disposition hop cost; update = update_at changed destination via reach }

abbrev pub reply_status : Result (RouteReplyDisposition × Option RouteUpdate) Refusal → ℕ
reply_status (Err why) = refusal_number why
reply_status (Ok (d, u)) = 0

abbrev pub reply_places : Result (RouteReplyDisposition × Option RouteUpdate) Refusal → ReplyPlaces → ReplyPlaces
reply_places (Err why) old = old
reply_places (Ok (d, u)) old = record { done = disposition_places d; update = update_places u }

abbrev pub reply_numbers : Reading (Result (RouteReplyDisposition × Option RouteUpdate) Refusal) ReplyPlaces
reply_numbers = record { status = reply_status; places = reply_places }

abbrev pub ReplyMade : (Counters → Routing) → (Counters → Routing) → Nwk → Nwk → ℕ → Nwk → Nwk → ℕ → ReplyPlaces → ReplyPlaces → ℕ → Type 0
ReplyMade before after own originator id responder sender cost old new r =
    Made reply_numbers (λ (x : RouteReplyOutcome). x.answer) (λ (x : RouteReplyOutcome). x.state)
    (λ (s : Routing). accept_route_reply s own originator id responder sender cost) before after old new r
