-- The number is compared with each of the group's in turn.
use borrow.Author.Tests.{eq-eqb, ne_eqb}
use Rattle.routing_groups.specs.Groups.{load_routes}
use Rattle.routing_groups.proofs.load_routes.Goals as goal

pub returns-then-number-eq3 : goal.returns-then-number-eq3
unfolding load_routes
returns-then-number-eq3 c = rw (eq-eqb _ _ c.if-number-eq3.true) c.put_counters.ensures

pub returns-then-number-eq4 : goal.returns-then-number-eq4
unfolding load_routes
returns-then-number-eq4 c = rw (ne_eqb _ _ c.if-number-eq3.false, eq-eqb _ _ c.if-number-eq4.true) c.put_route.ensures

pub returns-then-number-eq5 : goal.returns-then-number-eq5
unfolding load_routes
returns-then-number-eq5 c = rw (ne_eqb _ _ c.if-number-eq3.false, ne_eqb _ _ c.if-number-eq4.false, eq-eqb _ _ c.if-number-eq5.true) c.put_discovery.ensures

pub returns-then-number-eq75 : goal.returns-then-number-eq75
unfolding load_routes
returns-then-number-eq75 c = rw (ne_eqb _ _ c.if-number-eq3.false, ne_eqb _ _ c.if-number-eq4.false, ne_eqb _ _ c.if-number-eq5.false, eq-eqb _ _ c.if-number-eq75.true) c.set_route_count.ensures

pub returns-then-number-eq76 : goal.returns-then-number-eq76
unfolding load_routes
returns-then-number-eq76 c = rw (ne_eqb _ _ c.if-number-eq3.false, ne_eqb _ _ c.if-number-eq4.false, ne_eqb _ _ c.if-number-eq5.false, ne_eqb _ _ c.if-number-eq75.false, eq-eqb _ _ c.if-number-eq76.true) c.set_discovery_count.ensures

pub returns-then-number-eq77 : goal.returns-then-number-eq77
unfolding load_routes
returns-then-number-eq77 c = rw (ne_eqb _ _ c.if-number-eq3.false, ne_eqb _ _ c.if-number-eq4.false, ne_eqb _ _ c.if-number-eq5.false, ne_eqb _ _ c.if-number-eq75.false, ne_eqb _ _ c.if-number-eq76.false, eq-eqb _ _ c.if-number-eq77.true) c.set_record_count.ensures

pub returns-then-number-eq80 : goal.returns-then-number-eq80
unfolding load_routes
returns-then-number-eq80 c = rw (ne_eqb _ _ c.if-number-eq3.false, ne_eqb _ _ c.if-number-eq4.false, ne_eqb _ _ c.if-number-eq5.false, ne_eqb _ _ c.if-number-eq75.false, ne_eqb _ _ c.if-number-eq76.false, ne_eqb _ _ c.if-number-eq77.false, eq-eqb _ _ c.if-number-eq80.true) c.set_route_key.ensures

pub returns-then-number-eq81 : goal.returns-then-number-eq81
unfolding load_routes
returns-then-number-eq81 c = rw (ne_eqb _ _ c.if-number-eq3.false, ne_eqb _ _ c.if-number-eq4.false, ne_eqb _ _ c.if-number-eq5.false, ne_eqb _ _ c.if-number-eq75.false, ne_eqb _ _ c.if-number-eq76.false, ne_eqb _ _ c.if-number-eq77.false, ne_eqb _ _ c.if-number-eq80.false, eq-eqb _ _ c.if-number-eq81.true) c.set_discovery_key.ensures

pub returns-then-number-eq82 : goal.returns-then-number-eq82
unfolding load_routes
returns-then-number-eq82 c = rw (ne_eqb _ _ c.if-number-eq3.false, ne_eqb _ _ c.if-number-eq4.false, ne_eqb _ _ c.if-number-eq5.false, ne_eqb _ _ c.if-number-eq75.false, ne_eqb _ _ c.if-number-eq76.false, ne_eqb _ _ c.if-number-eq77.false, ne_eqb _ _ c.if-number-eq80.false, ne_eqb _ _ c.if-number-eq81.false, eq-eqb _ _ c.if-number-eq82.true) c.set_record_key.ensures

pub returns : goal.returns
unfolding load_routes
returns c = rw (ne_eqb _ _ c.if-number-eq3.false, ne_eqb _ _ c.if-number-eq4.false, ne_eqb _ _ c.if-number-eq5.false, ne_eqb _ _ c.if-number-eq75.false, ne_eqb _ _ c.if-number-eq76.false, ne_eqb _ _ c.if-number-eq77.false, ne_eqb _ _ c.if-number-eq80.false, ne_eqb _ _ c.if-number-eq81.false, ne_eqb _ _ c.if-number-eq82.false) c.no_call.ensures
