-- The number is compared with each of the group's in turn.
use borrow.Author.Tests.{eq-eqb, ne_eqb}
use Rattle.routing_groups.specs.Groups.{change_routes}
use Rattle.routing_groups.proofs.change_routes.Goals as goal

pub returns-then-number-eq9 : goal.returns-then-number-eq9
unfolding change_routes
returns-then-number-eq9 c = rw (eq-eqb _ _ c.if-number-eq9.true) c.note_route_error.ensures

pub returns-then-number-eq10 : goal.returns-then-number-eq10
unfolding change_routes
returns-then-number-eq10 c = rw (ne_eqb _ _ c.if-number-eq9.false, eq-eqb _ _ c.if-number-eq10.true) c.note_delivery_failure.ensures

pub returns-then-number-eq11 : goal.returns-then-number-eq11
unfolding change_routes
returns-then-number-eq11 c = rw (ne_eqb _ _ c.if-number-eq9.false, ne_eqb _ _ c.if-number-eq10.false, eq-eqb _ _ c.if-number-eq11.true) c.reset_mtorr_triggers.ensures

pub returns-then-number-eq16 : goal.returns-then-number-eq16
unfolding change_routes
returns-then-number-eq16 c = rw (ne_eqb _ _ c.if-number-eq9.false, ne_eqb _ _ c.if-number-eq10.false, ne_eqb _ _ c.if-number-eq11.false, eq-eqb _ _ c.if-number-eq16.true) c.mark_discovery_failed.ensures

pub returns-then-number-eq17 : goal.returns-then-number-eq17
unfolding change_routes
returns-then-number-eq17 c = rw (ne_eqb _ _ c.if-number-eq9.false, ne_eqb _ _ c.if-number-eq10.false, ne_eqb _ _ c.if-number-eq11.false, ne_eqb _ _ c.if-number-eq16.false, eq-eqb _ _ c.if-number-eq17.true) c.record_usage.ensures

pub returns-then-number-eq18 : goal.returns-then-number-eq18
unfolding change_routes
returns-then-number-eq18 c = rw (ne_eqb _ _ c.if-number-eq9.false, ne_eqb _ _ c.if-number-eq10.false, ne_eqb _ _ c.if-number-eq11.false, ne_eqb _ _ c.if-number-eq16.false, ne_eqb _ _ c.if-number-eq17.false, eq-eqb _ _ c.if-number-eq18.true) c.decay_activity.ensures

pub returns-then-number-eq19 : goal.returns-then-number-eq19
unfolding change_routes
returns-then-number-eq19 c = rw (ne_eqb _ _ c.if-number-eq9.false, ne_eqb _ _ c.if-number-eq10.false, ne_eqb _ _ c.if-number-eq11.false, ne_eqb _ _ c.if-number-eq16.false, ne_eqb _ _ c.if-number-eq17.false, ne_eqb _ _ c.if-number-eq18.false, eq-eqb _ _ c.if-number-eq19.true) c.invalidate_via.ensures

pub returns-then-number-eq20 : goal.returns-then-number-eq20
unfolding change_routes
returns-then-number-eq20 c = rw (ne_eqb _ _ c.if-number-eq9.false, ne_eqb _ _ c.if-number-eq10.false, ne_eqb _ _ c.if-number-eq11.false, ne_eqb _ _ c.if-number-eq16.false, ne_eqb _ _ c.if-number-eq17.false, ne_eqb _ _ c.if-number-eq18.false, ne_eqb _ _ c.if-number-eq19.false, eq-eqb _ _ c.if-number-eq20.true) c.remove_route.ensures

pub returns : goal.returns
unfolding change_routes
returns c = rw (ne_eqb _ _ c.if-number-eq9.false, ne_eqb _ _ c.if-number-eq10.false, ne_eqb _ _ c.if-number-eq11.false, ne_eqb _ _ c.if-number-eq16.false, ne_eqb _ _ c.if-number-eq17.false, ne_eqb _ _ c.if-number-eq18.false, ne_eqb _ _ c.if-number-eq19.false, ne_eqb _ _ c.if-number-eq20.false) c.no_call.ensures
