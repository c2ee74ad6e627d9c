-- P7: "own search, route Active, cost equal to residual: drop. Route Inactive, cost higher: established."
use Rattle.std.specs.Prelude.{None, Ok}
use mathlib.Core.List.{[], ◌∷◌}
use mathlib.Core.Path.{◌≡◌, refl}
use Rattle.standard.specs.declared.RouteReplyDisposition.TheVariants.{Drop, Established}
use Rattle.standard.specs.declared.Status.TheVariants.{Active, Inactive}
use Rattle.standard.specs.Begin.{begin, own_discovery}
use Rattle.standard.specs.Expiry.{expired}
use Rattle.standard.specs.Ordered.{lookup, put}
use Rattle.standard.specs.Query.{some_fits}
use Rattle.standard.specs.Reply.{reply, reply_to, reply_ours, settled}
use Rattle.standard.specs.Route.{nwk, news}
use Rattle.route_table.specs.Table as routes
use Rattle.discovery_table.specs.Table as discoveries
use Rattle.record_table.specs.Table as records
use Rattle.route_begin.specs.Answer.{begun, begun_on, begun_with}
use Rattle.route_reply.specs.Answer as reply
use Rattle.columns.specs.Columns.{places, ordered}
use Rattle.route_table.specs.Codec.{route_word, route_in}
use Rattle.discovery_table.specs.Codec.{discovery_word, discovery_in}
use Rattle.routing.specs.declared.Routing.{Routing}
use Rattle.routing.specs.declared.RouteReplyOutcome.{RouteReplyOutcome}
use Rattle.routing.specs.Routes.{invalidate_via}
use Rattle.routing.specs.Search.{accept_route_reply, begin_discovery}
use Rattle.routing.specs.State.{well_formed, fresh}
use Rattle.bench_table.proofs.Calls.{own, moment, span, told, route, now_by, routes_of, searches_of}

-- our own search, with id 1
abbrev pub begins : Routing
begins = (begin_discovery fresh own (nwk 0x4444) moment span).state

-- the first reply makes the route Active and the residual 9
abbrev pub found : RouteReplyOutcome
found = told begins 0x0000 1 0x4444 0x5555 9

pub p7-found : found.answer ≡ Ok (Established, now_by 0x4444 0x5555 9)
unfolding accept_route_reply reply.answered reply reply_to reply_ours news begin_discovery begun begun_on begun_with begin expired some_fits well_formed ordered places route_word route_in discovery_word discovery_in routes.table_of discoveries.table_of records.table_of lookup put
p7-found = refl

pub p7-active : routes_of found.state ≡ route 0x4444 Active 0x5555 9 ∷ []
unfolding accept_route_reply reply.answered reply reply_to reply_ours news begin_discovery begun begun_on begun_with begin expired some_fits well_formed ordered places route_word route_in discovery_word discovery_in routes.table_of discoveries.table_of records.table_of lookup put
p7-active = refl

pub p7-residual : searches_of found.state ≡ settled 9 (own_discovery own 1 15000 (nwk 0x4444)) ∷ []
unfolding accept_route_reply reply.answered reply reply_to reply_ours news begin_discovery begun begun_on begun_with begin expired some_fits well_formed ordered places route_word route_in discovery_word discovery_in routes.table_of discoveries.table_of records.table_of lookup put
p7-residual = refl

-- Active, and the cost equal to the residual: dropped, and nothing changes
pub p7-equal : told found.state 0x0000 1 0x4444 0x6666 9 ≡ record { answer = Ok (Drop, None); state = found.state }
unfolding accept_route_reply reply.answered reply reply_to reply_ours news begin_discovery begun begun_on begun_with begin expired some_fits well_formed ordered places route_word route_in discovery_word discovery_in routes.table_of discoveries.table_of records.table_of lookup put
p7-equal = refl

-- the hop is lost, so that the route is Inactive
abbrev pub lost : Routing
lost = (invalidate_via found.state (nwk 0x5555)).state

pub p7-inactive : routes_of lost ≡ route 0x4444 Inactive 0x5555 9 ∷ []
unfolding accept_route_reply reply.answered reply reply_to reply_ours news begin_discovery begun begun_on begun_with begin expired some_fits well_formed ordered places route_word route_in discovery_word discovery_in routes.table_of discoveries.table_of records.table_of lookup put invalidate_via
p7-inactive = refl

-- Inactive, and the cost above the residual: established
abbrev pub anew : RouteReplyOutcome
anew = told lost 0x0000 1 0x4444 0x6666 10

pub p7-higher : anew.answer ≡ Ok (Established, now_by 0x4444 0x6666 10)
unfolding accept_route_reply reply.answered reply reply_to reply_ours news begin_discovery begun begun_on begun_with begin expired some_fits well_formed ordered places route_word route_in discovery_word discovery_in routes.table_of discoveries.table_of records.table_of lookup put invalidate_via
p7-higher = refl

pub p7-route : routes_of anew.state ≡ route 0x4444 Active 0x6666 10 ∷ []
unfolding accept_route_reply reply.answered reply reply_to reply_ours news begin_discovery begun begun_on begun_with begin expired some_fits well_formed ordered places route_word route_in discovery_word discovery_in routes.table_of discoveries.table_of records.table_of lookup put invalidate_via
p7-route = refl
