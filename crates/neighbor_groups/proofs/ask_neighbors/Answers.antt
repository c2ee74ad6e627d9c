-- The number is compared with each of the group's in turn.
use borrow.Author.Tests.{eq-eqb, ne_eqb}
use Rattle.neighbor_groups.specs.Groups.{ask_neighbors}
use Rattle.neighbor_groups.proofs.ask_neighbors.Goals as goal

pub returns-then-number-eq33 : goal.returns-then-number-eq33
unfolding ask_neighbors
returns-then-number-eq33 c = rw (eq-eqb _ _ c.if-number-eq33.true) c.lqi_to_link_cost.ensures

pub returns-then-number-eq35 : goal.returns-then-number-eq35
unfolding ask_neighbors
returns-then-number-eq35 c = rw (ne_eqb _ _ c.if-number-eq33.false, eq-eqb _ _ c.if-number-eq35.true) c.link.ensures

pub returns-then-number-eq36 : goal.returns-then-number-eq36
unfolding ask_neighbors
returns-then-number-eq36 c = rw (ne_eqb _ _ c.if-number-eq33.false, ne_eqb _ _ c.if-number-eq35.false, eq-eqb _ _ c.if-number-eq36.true) c.neighbour_count.ensures

pub returns-then-number-eq37 : goal.returns-then-number-eq37
unfolding ask_neighbors
returns-then-number-eq37 c = rw (ne_eqb _ _ c.if-number-eq33.false, ne_eqb _ _ c.if-number-eq35.false, ne_eqb _ _ c.if-number-eq36.false, eq-eqb _ _ c.if-number-eq37.true) c.neighbour_at.ensures

pub returns-then-number-eq41 : goal.returns-then-number-eq41
unfolding ask_neighbors
returns-then-number-eq41 c = rw (ne_eqb _ _ c.if-number-eq33.false, ne_eqb _ _ c.if-number-eq35.false, ne_eqb _ _ c.if-number-eq36.false, ne_eqb _ _ c.if-number-eq37.false, eq-eqb _ _ c.if-number-eq41.true) c.has_network_address.ensures

pub returns-then-number-eq42 : goal.returns-then-number-eq42
unfolding ask_neighbors
returns-then-number-eq42 c = rw (ne_eqb _ _ c.if-number-eq33.false, ne_eqb _ _ c.if-number-eq35.false, ne_eqb _ _ c.if-number-eq36.false, ne_eqb _ _ c.if-number-eq37.false, ne_eqb _ _ c.if-number-eq41.false, eq-eqb _ _ c.if-number-eq42.true) c.end_device_child_eui64.ensures

pub returns-then-number-eq43 : goal.returns-then-number-eq43
unfolding ask_neighbors
returns-then-number-eq43 c = rw (ne_eqb _ _ c.if-number-eq33.false, ne_eqb _ _ c.if-number-eq35.false, ne_eqb _ _ c.if-number-eq36.false, ne_eqb _ _ c.if-number-eq37.false, ne_eqb _ _ c.if-number-eq41.false, ne_eqb _ _ c.if-number-eq42.false, eq-eqb _ _ c.if-number-eq43.true) c.sleepy_child_eui64.ensures

pub returns : goal.returns
unfolding ask_neighbors
returns c = rw (ne_eqb _ _ c.if-number-eq33.false, ne_eqb _ _ c.if-number-eq35.false, ne_eqb _ _ c.if-number-eq36.false, ne_eqb _ _ c.if-number-eq37.false, ne_eqb _ _ c.if-number-eq41.false, ne_eqb _ _ c.if-number-eq42.false, ne_eqb _ _ c.if-number-eq43.false) c.no_call.ensures
