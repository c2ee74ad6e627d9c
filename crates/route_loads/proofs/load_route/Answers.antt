-- A table that is not well formed and one with no room are told; else the entry is put at its place, and the columns are those of the rows.
-- Assumes nothing.
use mathlib.Core.Bool.{true}
use mathlib.Core.Path.{◌≡◌, sym, ap, ◌∙◌}
use lib.Dec.{leb}
use lib.ListN.{length}
use borrow.Author.Tests.{not-true, not-false, leb-true}
use Rattle.standard.specs.Ordered.{count_with}
use Rattle.standard.specs.Route.{route_key}
use Rattle.route_table.specs.Table.{RouteTable, well_formed, rows_of}
use Rattle.route_table.specs.Lent.{place_in}
use Rattle.route_table.proofs.Lent.{holds}
use Rattle.route_table.proofs.Rows.{well-formed-told}
use Rattle.route_calls.proofs.Rules.{place-room}
use Rattle.routing.specs.State.{route_table}
use Rattle.routing.proofs.State.{held-routes}
use Rattle.route_loads.specs.Loads.{loaded, route_put}
use borrow.Author.Rules.{rules}
use Rattle.route_loads.proofs.load_route.Goals as goal
use Rattle.route_loads.proofs.load_route.Goals.{Start, Else-not-well_formed, After-has_room}

long : (c : Start) → (length c.args.s.route_keys ≡ 64) × (length c.args.s.route_words ≡ 64) × (length c.args.s.route_usage ≡ 64)
long c = (search rules, search rules, search rules)

good : (c : Else-not-well_formed) → well_formed (route_table c.args.s) ≡ true
good c = sym c.well_formed-2.ensures ∙ not-false _ c.if-not-well_formed.false-raw

room : (c : After-has_room) → leb (count_with route_key (route_key c.args.e) (rows_of (route_table c.args.s))) 64 ≡ c.has_room.result
room c = place-room (route_table c.args.s) ((well-formed-told (route_table c.args.s)).fact (sym c.well_formed-2.ensures ∙ not-false _ c.if-not-well_formed.false-raw)) (route_key c.args.e) c.place_of-place.result (c.place_of-place.ensures ∙ ap (λ (t : RouteTable). place_in t (route_key c.args.e)) c.seen.ensures) ∙ sym c.has_room.ensures

pub slice_bounds-well_formed-end : goal.slice_bounds-well_formed-end
slice_bounds-well_formed-end c = sym (long (goal.at.slice_bounds-well_formed-end c).Start).0

pub slice_bounds-well_formed-end-2 : goal.slice_bounds-well_formed-end-2
slice_bounds-well_formed-end-2 c = sym (long (goal.at.slice_bounds-well_formed-end-2 c).Start).1

pub slice_bounds-well_formed-end-3 : goal.slice_bounds-well_formed-end-3
slice_bounds-well_formed-end-3 c = sym (long (goal.at.slice_bounds-well_formed-end-3 c).Start).2

pub returns-then-not-well_formed : goal.returns-then-not-well_formed
unfolding route_put
returns-then-not-well_formed c = rw (sym c.well_formed-2.ensures ∙ not-true _ c.if-not-well_formed.true-raw) c.no_call.ensures

pub returns-then-not-has_room : goal.returns-then-not-has_room
unfolding route_put
returns-then-not-has_room c = rw (good (goal.at.returns-then-not-has_room c).Else-not-well_formed, room (goal.at.returns-then-not-has_room c).After-has_room ∙ not-true _ c.if-not-has_room.true-raw) c.no_call-then-not-has_room.ensures

pub invariant_of-routes : goal.invariant_of-routes
invariant_of-routes c = record { formed = good (goal.at.invariant_of-routes c).Else-not-well_formed }

pub put_at-requires : goal.put_at-requires
put_at-requires c = (c.place_of-place.ensures ∙ ap (λ (t : RouteTable). place_in t (route_key c.args.e)) c.seen.ensures, leb-true _ 64 (room (goal.at.put_at-requires c).After-has_room ∙ not-false _ c.if-not-has_room.false-raw))

pub returns : goal.returns
unfolding route_put
returns c =
    rw (good (goal.at.returns c).Else-not-well_formed, room (goal.at.returns c).After-has_room ∙ not-false _ c.if-not-has_room.false-raw)
    (c.load.ensures ∙ ap (λ x. loaded x) (held-routes c.args.s _ _ (holds c.put_at.new.self _ c.put_at.ensures.routes)))
