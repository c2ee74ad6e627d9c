-- The group is compared with each in turn.
use borrow.Author.Tests.{eq-eqb, ne_eqb}
use Rattle.calls.specs.Groups.{routes_by}
use Rattle.calls.proofs.change_routing.Goals as goal

pub returns-then-group-eq8 : goal.returns-then-group-eq8
unfolding routes_by
returns-then-group-eq8 c = rw (eq-eqb _ _ c.if-group-eq8.true) c.change_routes.ensures

pub returns-then-group-eq9 : goal.returns-then-group-eq9
unfolding routes_by
returns-then-group-eq9 c = rw (ne_eqb _ _ c.if-group-eq8.false, eq-eqb _ _ c.if-group-eq9.true) c.change_searches.ensures

pub returns : goal.returns
unfolding routes_by
returns c = rw (ne_eqb _ _ c.if-group-eq8.false, ne_eqb _ _ c.if-group-eq9.false) c.load_routes.ensures
