-- Room at the place is room for the rows with the route, and that decides refusal or answer.
-- Assumes nothing.
use mathlib.Core.Bool.{true, false}
use mathlib.Core.Path.{refl, sym, ◌∙◌}
use borrow.Author.Tests.{not-true, not-false, leb-true}
use Rattle.standard.specs.Ordered.{put}
use Rattle.standard.specs.Route.{route_key}
use Rattle.route_table.specs.Lent.{table, routes_of}
use Rattle.route_table.proofs.Lent.{formed}
use Rattle.route_table.proofs.Rows.{table-fit}
use Rattle.route_calls.proofs.Rules.{step_by, put-room, place-room}
use Rattle.route_calls.proofs.store.Goals as goal

pub returns-then-not-has_room : goal.returns-then-not-has_room
returns-then-not-has_room c =
    let a = c.args in
    let r = a.routes.now in
    let xs = routes_of r in
    let refused = step_by xs (put route_key a.e xs) false
    (put-room xs (table-fit (table r) (formed r)).fit.ascending a.e ∙ place-room (table r) (formed r) (route_key a.e) a.place c.requires ∙ sym c.has_room.ensures ∙ not-true _ c.if-not-has_room.true-raw) in
    rw refused (record { said = refl; left = record { same = record { keys = refl; words = refl; usage = refl }; routes = refl } })

pub put_at-requires : goal.put_at-requires
put_at-requires c =
    let a = c.args in
    let r = a.routes.now in
    (c.requires, leb-true _ 64 (place-room (table r) (formed r) (route_key a.e) a.place c.requires ∙ sym c.has_room.ensures ∙ not-false _ c.if-not-has_room.false-raw))

pub returns : goal.returns
returns c =
    let a = c.args in
    let r = a.routes.now in
    let xs = routes_of r in
    let done = step_by xs (put route_key a.e xs) true
    (put-room xs (table-fit (table r) (formed r)).fit.ascending a.e ∙ place-room (table r) (formed r) (route_key a.e) a.place c.requires ∙ sym c.has_room.ensures ∙ not-false _ c.if-not-has_room.false-raw) in
    rw done (record { said = refl; left = c.put_at.ensures })
