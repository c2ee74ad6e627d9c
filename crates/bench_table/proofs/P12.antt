-- P12: "64 routes and a new originator: 1. One route removed: accepted."
use Rattle.std.specs.Prelude.{Ok, Err}
use Prim.Native.Nat.{ℕ, zero, suc}
use mathlib.Core.Bool.{true}
use mathlib.Core.List.{List, [], ◌∷◌}
use mathlib.Core.Path.{◌≡◌, refl, subst, sym}
use lib.ListN.{length}
use Rattle.types.specs.declared.Refusal.TheVariants.{RouteTableFull}
use Rattle.types.specs.Refusal.{refusal_number}
use Rattle.standard.specs.declared.RouteEntry.{RouteEntry}
use Rattle.standard.specs.declared.Status.TheVariants.{Active}
use Rattle.standard.specs.Calls as calls
use Rattle.standard.specs.Calls.{has_route}
use Rattle.standard.specs.Expiry.{expired}
use Rattle.standard.specs.Ordered.{lookup, put, remove}
use Rattle.standard.specs.Query.{some_fits}
use Rattle.standard.specs.Request.{request, request_to}
use Rattle.standard.specs.Route.{nwk, considered, considering, news}
use Rattle.route_table.specs.Table as routes
use Rattle.discovery_table.specs.Table as discoveries
use Rattle.record_table.specs.Table as records
use Rattle.route_calls.specs.Answer.{step_to}
use Rattle.route_request.specs.Answer as request
use Rattle.route_request.specs.Answer.{requested_on, requested}
use Rattle.columns.specs.Columns.{places, ordered}
use Rattle.route_table.specs.Codec.{route_word, route_in}
use Rattle.discovery_table.specs.Codec.{discovery_word, discovery_in}
use Rattle.routing.specs.declared.Routing.{Routing}
use Rattle.routing.specs.Routes.{restore_route, remove_route}
use Rattle.routing.specs.Search.{accept_route_request}
use Rattle.routing.specs.State.{well_formed, fresh}
use Rattle.bench_table.proofs.Calls.{asked, route, now_by, routes_of, holding}

-- n routes, handed back one by one
abbrev pub filled : ℕ → Routing
filled zero = fresh
filled (suc n) = (restore_route (filled n) (nwk n) (nwk 0x2222) 3).state

pub p12-count : length (routes_of (filled 64)) ≡ 64
unfolding restore_route calls.restore_route step_to well_formed ordered places route_word route_in discovery_word discovery_in routes.table_of discoveries.table_of records.table_of lookup put
p12-count = refl

-- the same state, written out: n routes from the destination d on
abbrev pub rows_from : ℕ → ℕ → List RouteEntry
rows_from d zero = []
rows_from d (suc n) = route d Active 0x2222 3 ∷ rows_from (suc d) n

pub p12-filled : filled 64 ≡ holding (rows_from 0 64) []
unfolding restore_route calls.restore_route step_to well_formed ordered places route_word route_in discovery_word discovery_in routes.table_of discoveries.table_of records.table_of lookup put
p12-filled = refl

-- a new originator is refused with number 1, and the state is as it was
pub p12-full : asked (filled 64) 0x1111 7 0x2222 5 ≡ record { answer = Err RouteTableFull; state = filled 64 }
unfolding accept_route_request requested requested_on request.answered request request_to expired some_fits well_formed ordered places route_word route_in discovery_word discovery_in routes.table_of discoveries.table_of records.table_of lookup put considered considering news restore_route calls.restore_route step_to
p12-full = subst (λ (s : Routing). asked s 0x1111 7 0x2222 5 ≡ record { answer = Err RouteTableFull; state = s }) (sym p12-filled) refl

pub p12-number : refusal_number RouteTableFull ≡ 1
p12-number = refl

-- one route removed
abbrev pub less : Routing
less = (remove_route (filled 64) (nwk 0x0010)).state

pub p12-removed : (remove_route (filled 64) (nwk 0x0010)).answer ≡ Ok true
unfolding restore_route calls.restore_route step_to remove_route has_route remove well_formed ordered places route_word route_in discovery_word discovery_in routes.table_of discoveries.table_of records.table_of lookup put
p12-removed = refl

pub p12-accepted : (asked less 0x1111 7 0x2222 5).answer ≡ Ok (true, now_by 0x1111 0x2222 5)
unfolding accept_route_request requested requested_on request.answered request request_to expired some_fits well_formed ordered places route_word route_in discovery_word discovery_in routes.table_of discoveries.table_of records.table_of lookup put considered considering news restore_route calls.restore_route step_to remove_route has_route remove
p12-accepted = refl
