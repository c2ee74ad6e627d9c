-- A free place and one that the destination has are left by expiry; where there is neither, expiry has to free one.
-- Assumes nothing.
use mathlib.Core.Path.{sym, ◌∙◌}
use Rattle.search_tables.specs.Lent.{seen}
use Rattle.search_tables.proofs.Lent.{seen-formed}
use Rattle.expiry.proofs.Left.{route-free, route-there, route-freed}
use Rattle.expiry.proofs.route_room.Goals as goal

pub returns-then-routes-lt64 : goal.returns-then-routes-lt64
returns-then-routes-lt64 c =
    let a = c.args in
    route-free a.now_ms a.destination.0 (seen a.routes.now a.discoveries.now) (seen-formed a.routes.now a.discoveries.now) c.if-routes-lt64.true

pub returns-in_default : goal.returns-in_default
returns-in_default c =
    let a = c.args in
    route-there a.now_ms a.destination.0 (seen a.routes.now a.discoveries.now) (seen-formed a.routes.now a.discoveries.now) _ (sym c.in_default.is ∙ c.place_of.ensures)

pub returns : goal.returns
returns c =
    let a = c.args in
    c.frees_route.ensures ∙ route-freed a.now_ms a.destination.0 (seen a.routes.now a.discoveries.now) (seen-formed a.routes.now a.discoveries.now) c.if-routes-lt64.false _ (sym c.in-Err.is ∙ c.place_of.ensures)
