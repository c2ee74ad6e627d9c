-- P6: "after P4, reply for responder 1111 itself, sender 5555, cost 9: relay; the route ends via 3333 at 5, and that is the update."
use Rattle.std.specs.Prelude.{Ok}
use mathlib.Core.List.{[], ◌∷◌}
use mathlib.Core.Path.{◌≡◌, refl}
use Rattle.standard.specs.declared.RouteReplyDisposition.TheVariants.{Relay}
use Rattle.standard.specs.declared.Status.TheVariants.{Active}
use Rattle.standard.specs.Expiry.{expired}
use Rattle.standard.specs.Ordered.{lookup, put}
use Rattle.standard.specs.Query.{some_fits}
use Rattle.standard.specs.Reply.{reply, reply_to, reply_theirs}
use Rattle.standard.specs.Request.{request, request_to}
use Rattle.standard.specs.Route.{nwk, considered, considering, news}
use Rattle.route_table.specs.Table as routes
use Rattle.discovery_table.specs.Table as discoveries
use Rattle.record_table.specs.Table as records
use Rattle.route_reply.specs.Answer as reply
use Rattle.route_request.specs.Answer as request
use Rattle.route_request.specs.Answer.{requested_on, requested}
use Rattle.columns.specs.Columns.{places, ordered}
use Rattle.route_table.specs.Codec.{route_word, route_in}
use Rattle.discovery_table.specs.Codec.{discovery_word, discovery_in}
use Rattle.routing.specs.declared.RouteReplyOutcome.{RouteReplyOutcome}
use Rattle.routing.specs.Search.{accept_route_reply, accept_route_request}
use Rattle.routing.specs.State.{well_formed}
use Rattle.bench_table.proofs.Calls.{told, route, now_by, routes_of}
use Rattle.bench_table.proofs.P4 as p4

abbrev pub itself : RouteReplyOutcome
itself = told (p4.second).state 0x1111 7 0x1111 0x5555 9

pub p6-answer : itself.answer ≡ Ok (Relay (nwk 0x3333) 9, now_by 0x1111 0x3333 5)
unfolding accept_route_reply reply.answered reply reply_to reply_theirs accept_route_request requested requested_on request.answered request request_to expired some_fits well_formed ordered places route_word route_in discovery_word discovery_in routes.table_of discoveries.table_of records.table_of lookup put considered considering news
p6-answer = refl

pub p6-route : routes_of itself.state ≡ route 0x1111 Active 0x3333 5 ∷ []
unfolding accept_route_reply reply.answered reply reply_to reply_theirs accept_route_request requested requested_on request.answered request request_to expired some_fits well_formed ordered places route_word route_in discovery_word discovery_in routes.table_of discoveries.table_of records.table_of lookup put considered considering news
p6-route = refl
