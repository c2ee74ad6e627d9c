-- The number is compared with each of the group's in turn.
use borrow.Author.Tests.{eq-eqb, ne_eqb}
use Rattle.neighbor_groups.specs.Groups.{list_neighbors}
use Rattle.neighbor_groups.proofs.list_neighbors.Goals as goal

pub returns-then-number-eq38 : goal.returns-then-number-eq38
unfolding list_neighbors
returns-then-number-eq38 c = rw (eq-eqb _ _ c.if-number-eq38.true) c.lqa.ensures

pub returns-then-number-eq39 : goal.returns-then-number-eq39
unfolding list_neighbors
returns-then-number-eq39 c = rw (ne_eqb _ _ c.if-number-eq38.false, eq-eqb _ _ c.if-number-eq39.true) c.incoming_link_cost.ensures

pub returns-then-number-eq40 : goal.returns-then-number-eq40
unfolding list_neighbors
returns-then-number-eq40 c = rw (ne_eqb _ _ c.if-number-eq38.false, ne_eqb _ _ c.if-number-eq39.false, eq-eqb _ _ c.if-number-eq40.true) c.is_child.ensures

pub returns-then-number-eq44 : goal.returns-then-number-eq44
unfolding list_neighbors
returns-then-number-eq44 c = rw (ne_eqb _ _ c.if-number-eq38.false, ne_eqb _ _ c.if-number-eq39.false, ne_eqb _ _ c.if-number-eq40.false, eq-eqb _ _ c.if-number-eq44.true) c.sleepy_children.ensures

pub returns-then-number-eq52 : goal.returns-then-number-eq52
unfolding list_neighbors
returns-then-number-eq52 c = rw (ne_eqb _ _ c.if-number-eq38.false, ne_eqb _ _ c.if-number-eq39.false, ne_eqb _ _ c.if-number-eq40.false, ne_eqb _ _ c.if-number-eq44.false, eq-eqb _ _ c.if-number-eq52.true) c.end_device_children.ensures

pub returns-then-number-eq61 : goal.returns-then-number-eq61
unfolding list_neighbors
returns-then-number-eq61 c = rw (ne_eqb _ _ c.if-number-eq38.false, ne_eqb _ _ c.if-number-eq39.false, ne_eqb _ _ c.if-number-eq40.false, ne_eqb _ _ c.if-number-eq44.false, ne_eqb _ _ c.if-number-eq52.false, eq-eqb _ _ c.if-number-eq61.true) c.expected_broadcast_relayers.ensures

pub returns-then-number-eq62 : goal.returns-then-number-eq62
unfolding list_neighbors
returns-then-number-eq62 c = rw (ne_eqb _ _ c.if-number-eq38.false, ne_eqb _ _ c.if-number-eq39.false, ne_eqb _ _ c.if-number-eq40.false, ne_eqb _ _ c.if-number-eq44.false, ne_eqb _ _ c.if-number-eq52.false, ne_eqb _ _ c.if-number-eq61.false, eq-eqb _ _ c.if-number-eq62.true) c.link_status_entries.ensures

pub returns : goal.returns
unfolding list_neighbors
returns c = rw (ne_eqb _ _ c.if-number-eq38.false, ne_eqb _ _ c.if-number-eq39.false, ne_eqb _ _ c.if-number-eq40.false, ne_eqb _ _ c.if-number-eq44.false, ne_eqb _ _ c.if-number-eq52.false, ne_eqb _ _ c.if-number-eq61.false, ne_eqb _ _ c.if-number-eq62.false) c.no_call.ensures
