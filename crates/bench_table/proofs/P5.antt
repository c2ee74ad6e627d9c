-- P5: "after P4, reply from 5555 for responder 4444, underway, costs 9, 9, 8: relay to 3333, drop, relay."
use Rattle.std.specs.Prelude.{None, Ok}
use mathlib.Core.List.{[], ◌∷◌}
use mathlib.Core.Path.{◌≡◌, refl, subst, sym}
use Rattle.standard.specs.declared.RouteReplyDisposition.TheVariants.{Drop, Relay}
use Rattle.standard.specs.declared.Status.TheVariants.{Active, DiscoveryUnderway}
use Rattle.standard.specs.Calls.{note_relayed}
use Rattle.standard.specs.Expiry.{expired}
use Rattle.standard.specs.Ordered.{lookup, put}
use Rattle.standard.specs.Query.{some_fits}
use Rattle.standard.specs.Reply.{reply, reply_to, reply_theirs, settled}
use Rattle.standard.specs.Request.{request, request_to, new_discovery}
use Rattle.standard.specs.Route.{nwk, considered, considering, news}
use Rattle.route_table.specs.Table as routes
use Rattle.discovery_table.specs.Table as discoveries
use Rattle.record_table.specs.Table as records
use Rattle.route_reply.specs.Answer as reply
use Rattle.route_request.specs.Answer as request
use Rattle.route_request.specs.Answer.{requested_on, requested}
use Rattle.route_calls.specs.Answer.{step_to}
use Rattle.columns.specs.Columns.{places, ordered}
use Rattle.route_table.specs.Codec.{route_word, route_in}
use Rattle.discovery_table.specs.Codec.{discovery_word, discovery_in}
use Rattle.routing.specs.declared.Routing.{Routing}
use Rattle.routing.specs.declared.RouteReplyOutcome.{RouteReplyOutcome}
use Rattle.routing.specs.Routes.{note_relayed_discovery}
use Rattle.routing.specs.Search.{accept_route_reply, accept_route_request}
use Rattle.routing.specs.State.{well_formed}
use Rattle.bench_table.proofs.Calls.{told, route, routes_of, searches_of, holding}
use Rattle.bench_table.proofs.P4 as p4

-- the search was relayed, so that the route to 4444 is underway
abbrev pub underway : Routing
underway = (note_relayed_discovery (p4.second).state (nwk 0x4444)).state

abbrev pub nine : RouteReplyOutcome
nine = told underway 0x1111 7 0x4444 0x5555 9

abbrev pub nine_again : RouteReplyOutcome
nine_again = told nine.state 0x1111 7 0x4444 0x5555 9

abbrev pub eight : RouteReplyOutcome
eight = told nine_again.state 0x1111 7 0x4444 0x5555 8

pub p5-underway : routes_of underway ≡ route 0x1111 Active 0x2222 5 ∷ route 0x4444 DiscoveryUnderway 0xFFFF 255 ∷ []
unfolding accept_route_reply reply.answered reply reply_to reply_theirs accept_route_request requested requested_on request.answered request request_to expired some_fits well_formed ordered places route_word route_in discovery_word discovery_in routes.table_of discoveries.table_of records.table_of lookup put considered considering news note_relayed_discovery note_relayed step_to
p5-underway = refl

pub p5-nine : nine.answer ≡ Ok (Relay (nwk 0x3333) 9, None)
unfolding accept_route_reply reply.answered reply reply_to reply_theirs accept_route_request requested requested_on request.answered request request_to expired some_fits well_formed ordered places route_word route_in discovery_word discovery_in routes.table_of discoveries.table_of records.table_of lookup put considered considering news note_relayed_discovery note_relayed step_to
p5-nine = refl

-- the state after it, written out
pub p5-nine-state : nine.state ≡ holding (route 0x1111 Active 0x2222 5 ∷ route 0x4444 Active 0x5555 9 ∷ []) (settled 9 (new_discovery (nwk 0x1111) 7 (nwk 0x3333) 5 15000 (nwk 0x4444)) ∷ [])
unfolding accept_route_reply reply.answered reply reply_to reply_theirs accept_route_request requested requested_on request.answered request request_to expired some_fits well_formed ordered places route_word route_in discovery_word discovery_in routes.table_of discoveries.table_of records.table_of lookup put considered considering news note_relayed_discovery note_relayed step_to
p5-nine-state = refl

-- a drop changes nothing
pub p5-nine-again : nine_again ≡ record { answer = Ok (Drop, None); state = nine.state }
unfolding accept_route_reply reply.answered reply reply_to reply_theirs accept_route_request requested requested_on request.answered request request_to expired some_fits well_formed ordered places route_word route_in discovery_word discovery_in routes.table_of discoveries.table_of records.table_of lookup put considered considering news note_relayed_discovery note_relayed step_to
p5-nine-again = subst (λ (s : Routing). told s 0x1111 7 0x4444 0x5555 9 ≡ record { answer = Ok (Drop, None); state = s }) (sym p5-nine-state) refl

pub p5-eight : eight.answer ≡ Ok (Relay (nwk 0x3333) 8, None)
unfolding accept_route_reply reply.answered reply reply_to reply_theirs accept_route_request requested requested_on request.answered request request_to expired some_fits well_formed ordered places route_word route_in discovery_word discovery_in routes.table_of discoveries.table_of records.table_of lookup put considered considering news note_relayed_discovery note_relayed step_to
p5-eight = refl

-- what is left: the responder's route by the last sender at the last cost, the originator's as it was, and the residual
pub p5-routes : routes_of eight.state ≡ route 0x1111 Active 0x2222 5 ∷ route 0x4444 Active 0x5555 8 ∷ []
unfolding accept_route_reply reply.answered reply reply_to reply_theirs accept_route_request requested requested_on request.answered request request_to expired some_fits well_formed ordered places route_word route_in discovery_word discovery_in routes.table_of discoveries.table_of records.table_of lookup put considered considering news note_relayed_discovery note_relayed step_to
p5-routes = refl

pub p5-residual : searches_of eight.state ≡ settled 8 (new_discovery (nwk 0x1111) 7 (nwk 0x3333) 5 15000 (nwk 0x4444)) ∷ []
unfolding accept_route_reply reply.answered reply reply_to reply_theirs accept_route_request requested requested_on request.answered request request_to expired some_fits well_formed ordered places route_word route_in discovery_word discovery_in routes.table_of discoveries.table_of records.table_of lookup put considered considering news note_relayed_discovery note_relayed step_to
p5-residual = refl
