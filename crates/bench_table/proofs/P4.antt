-- P4: "request (1111,7) from 2222 at cost 5, then from 3333 at 5: both accepted; route stays via 2222; discovery sender 3333; no second
-- update. At 6: not accepted."
use Rattle.std.specs.Prelude.{Some, None, Ok}
use mathlib.Core.Bool.{true, false}
use mathlib.Core.List.{[], ◌∷◌}
use mathlib.Core.Path.{◌≡◌, refl}
use Rattle.standard.specs.declared.Status.TheVariants.{Active}
use Rattle.standard.specs.Calls.{hop_at}
use Rattle.standard.specs.Expiry.{expired}
use Rattle.standard.specs.Ordered.{lookup, put}
use Rattle.standard.specs.Query.{some_fits}
use Rattle.standard.specs.Request.{request, request_to, new_discovery}
use Rattle.standard.specs.Route.{nwk, considered, considering, news}
use Rattle.route_table.specs.Table as routes
use Rattle.discovery_table.specs.Table as discoveries
use Rattle.record_table.specs.Table as records
use Rattle.route_request.specs.Answer as request
use Rattle.route_request.specs.Answer.{requested_on, requested}
use Rattle.columns.specs.Columns.{places, ordered}
use Rattle.route_table.specs.Codec.{route_word, route_in}
use Rattle.discovery_table.specs.Codec.{discovery_word, discovery_in}
use Rattle.routing.specs.declared.RouteRequestOutcome.{RouteRequestOutcome}
use Rattle.routing.specs.Queries.{next_hop_of}
use Rattle.routing.specs.Search.{accept_route_request}
use Rattle.routing.specs.State.{well_formed, fresh}
use Rattle.bench_table.proofs.Calls.{asked, route, now_by, routes_of, searches_of}

abbrev pub first : RouteRequestOutcome
first = asked fresh 0x1111 7 0x2222 5

abbrev pub second : RouteRequestOutcome
second = asked first.state 0x1111 7 0x3333 5

-- both accepted, and only the first reports an update
pub p4-first : first.answer ≡ Ok (true, now_by 0x1111 0x2222 5)
unfolding accept_route_request requested requested_on request.answered request request_to expired some_fits well_formed ordered places route_word route_in discovery_word discovery_in routes.table_of discoveries.table_of records.table_of lookup put considered considering news
p4-first = refl

pub p4-second : second.answer ≡ Ok (true, None)
unfolding accept_route_request requested requested_on request.answered request request_to expired some_fits well_formed ordered places route_word route_in discovery_word discovery_in routes.table_of discoveries.table_of records.table_of lookup put considered considering news
p4-second = refl

-- the route stays by 2222, as the table holds it and as the next hop is answered
pub p4-route : routes_of second.state ≡ route 0x1111 Active 0x2222 5 ∷ []
unfolding accept_route_request requested requested_on request.answered request request_to expired some_fits well_formed ordered places route_word route_in discovery_word discovery_in routes.table_of discoveries.table_of records.table_of lookup put considered considering news
p4-route = refl

pub p4-hop : next_hop_of second.state (nwk 0x1111) ≡ Ok (Some (nwk 0x2222))
unfolding accept_route_request requested requested_on request.answered request request_to expired some_fits well_formed ordered places route_word route_in discovery_word discovery_in routes.table_of discoveries.table_of records.table_of lookup put considered considering news next_hop_of hop_at
p4-hop = refl

-- the discovery's sender is 3333
pub p4-sender : searches_of second.state ≡ new_discovery (nwk 0x1111) 7 (nwk 0x3333) 5 15000 (nwk 0x4444) ∷ []
unfolding accept_route_request requested requested_on request.answered request request_to expired some_fits well_formed ordered places route_word route_in discovery_word discovery_in routes.table_of discoveries.table_of records.table_of lookup put considered considering news
p4-sender = refl

-- at 6, after one request at 5 or after both: not accepted, and nothing changes
pub p4-six : asked second.state 0x1111 7 0x3333 6 ≡ record { answer = Ok (false, None); state = second.state }
unfolding accept_route_request requested requested_on request.answered request request_to expired some_fits well_formed ordered places route_word route_in discovery_word discovery_in routes.table_of discoveries.table_of records.table_of lookup put considered considering news
p4-six = refl

pub p4-six-at-once : asked first.state 0x1111 7 0x3333 6 ≡ record { answer = Ok (false, None); state = first.state }
unfolding accept_route_request requested requested_on request.answered request request_to expired some_fits well_formed ordered places route_word route_in discovery_word discovery_in routes.table_of discoveries.table_of records.table_of lookup put considered considering news
p4-six-at-once = refl
