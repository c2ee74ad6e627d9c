-- The number is compared with each of the group's in turn.
use borrow.Author.Tests.{eq-eqb, ne_eqb}
use Rattle.routing_groups.specs.Groups.{ask_routing}
use Rattle.routing_groups.proofs.ask_routing.Goals as goal

pub returns-then-number-eq2 : goal.returns-then-number-eq2
unfolding ask_routing
returns-then-number-eq2 c = rw (eq-eqb _ _ c.if-number-eq2.true) c.check.ensures

pub returns-then-number-eq12 : goal.returns-then-number-eq12
unfolding ask_routing
returns-then-number-eq12 c = rw (ne_eqb _ _ c.if-number-eq2.false, eq-eqb _ _ c.if-number-eq12.true) c.route_status.ensures

pub returns-then-number-eq13 : goal.returns-then-number-eq13
unfolding ask_routing
returns-then-number-eq13 c = rw (ne_eqb _ _ c.if-number-eq2.false, ne_eqb _ _ c.if-number-eq12.false, eq-eqb _ _ c.if-number-eq13.true) c.route_count.ensures

pub returns-then-number-eq14 : goal.returns-then-number-eq14
unfolding ask_routing
returns-then-number-eq14 c = rw (ne_eqb _ _ c.if-number-eq2.false, ne_eqb _ _ c.if-number-eq12.false, ne_eqb _ _ c.if-number-eq13.false, eq-eqb _ _ c.if-number-eq14.true) c.route_at.ensures

pub returns-then-number-eq15 : goal.returns-then-number-eq15
unfolding ask_routing
returns-then-number-eq15 c = rw (ne_eqb _ _ c.if-number-eq2.false, ne_eqb _ _ c.if-number-eq12.false, ne_eqb _ _ c.if-number-eq13.false, ne_eqb _ _ c.if-number-eq14.false, eq-eqb _ _ c.if-number-eq15.true) c.next_hop.ensures

pub returns-then-number-eq26 : goal.returns-then-number-eq26
unfolding ask_routing
returns-then-number-eq26 c = rw (ne_eqb _ _ c.if-number-eq2.false, ne_eqb _ _ c.if-number-eq12.false, ne_eqb _ _ c.if-number-eq13.false, ne_eqb _ _ c.if-number-eq14.false, ne_eqb _ _ c.if-number-eq15.false, eq-eqb _ _ c.if-number-eq26.true) c.discovery_deadline.ensures

pub returns-then-number-eq71 : goal.returns-then-number-eq71
unfolding ask_routing
returns-then-number-eq71 c = rw (ne_eqb _ _ c.if-number-eq2.false, ne_eqb _ _ c.if-number-eq12.false, ne_eqb _ _ c.if-number-eq13.false, ne_eqb _ _ c.if-number-eq14.false, ne_eqb _ _ c.if-number-eq15.false, ne_eqb _ _ c.if-number-eq26.false, eq-eqb _ _ c.if-number-eq71.true) c.discovery_count.ensures

pub returns-then-number-eq72 : goal.returns-then-number-eq72
unfolding ask_routing
returns-then-number-eq72 c = rw (ne_eqb _ _ c.if-number-eq2.false, ne_eqb _ _ c.if-number-eq12.false, ne_eqb _ _ c.if-number-eq13.false, ne_eqb _ _ c.if-number-eq14.false, ne_eqb _ _ c.if-number-eq15.false, ne_eqb _ _ c.if-number-eq26.false, ne_eqb _ _ c.if-number-eq71.false, eq-eqb _ _ c.if-number-eq72.true) c.discovery_at.ensures

pub returns-then-number-eq73 : goal.returns-then-number-eq73
unfolding ask_routing
returns-then-number-eq73 c = rw (ne_eqb _ _ c.if-number-eq2.false, ne_eqb _ _ c.if-number-eq12.false, ne_eqb _ _ c.if-number-eq13.false, ne_eqb _ _ c.if-number-eq14.false, ne_eqb _ _ c.if-number-eq15.false, ne_eqb _ _ c.if-number-eq26.false, ne_eqb _ _ c.if-number-eq71.false, ne_eqb _ _ c.if-number-eq72.false, eq-eqb _ _ c.if-number-eq73.true) c.record_count.ensures

pub returns : goal.returns
unfolding ask_routing
returns c = rw (ne_eqb _ _ c.if-number-eq2.false, ne_eqb _ _ c.if-number-eq12.false, ne_eqb _ _ c.if-number-eq13.false, ne_eqb _ _ c.if-number-eq14.false, ne_eqb _ _ c.if-number-eq15.false, ne_eqb _ _ c.if-number-eq26.false, ne_eqb _ _ c.if-number-eq71.false, ne_eqb _ _ c.if-number-eq72.false, ne_eqb _ _ c.if-number-eq73.false) c.no_call.ensures
