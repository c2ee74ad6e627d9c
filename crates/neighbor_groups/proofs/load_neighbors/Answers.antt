-- The number is compared with each of the group's in turn.
use borrow.Author.Tests.{eq-eqb, ne_eqb}
use Rattle.neighbor_groups.specs.Groups.{load_neighbors}
use Rattle.neighbor_groups.proofs.load_neighbors.Goals as goal

pub returns-then-number-eq7 : goal.returns-then-number-eq7
unfolding load_neighbors
returns-then-number-eq7 c = rw (eq-eqb _ _ c.if-number-eq7.true) c.put_neighbor.ensures

pub returns-then-number-eq8 : goal.returns-then-number-eq8
unfolding load_neighbors
returns-then-number-eq8 c = rw (ne_eqb _ _ c.if-number-eq7.false, eq-eqb _ _ c.if-number-eq8.true) c.put_waiting.ensures

pub returns-then-number-eq78 : goal.returns-then-number-eq78
unfolding load_neighbors
returns-then-number-eq78 c = rw (ne_eqb _ _ c.if-number-eq7.false, ne_eqb _ _ c.if-number-eq8.false, eq-eqb _ _ c.if-number-eq78.true) c.set_neighbor_count.ensures

pub returns-then-number-eq79 : goal.returns-then-number-eq79
unfolding load_neighbors
returns-then-number-eq79 c = rw (ne_eqb _ _ c.if-number-eq7.false, ne_eqb _ _ c.if-number-eq8.false, ne_eqb _ _ c.if-number-eq78.false, eq-eqb _ _ c.if-number-eq79.true) c.set_waiting_count.ensures

pub returns-then-number-eq83 : goal.returns-then-number-eq83
unfolding load_neighbors
returns-then-number-eq83 c = rw (ne_eqb _ _ c.if-number-eq7.false, ne_eqb _ _ c.if-number-eq8.false, ne_eqb _ _ c.if-number-eq78.false, ne_eqb _ _ c.if-number-eq79.false, eq-eqb _ _ c.if-number-eq83.true) c.set_neighbor_key.ensures

pub returns-then-number-eq84 : goal.returns-then-number-eq84
unfolding load_neighbors
returns-then-number-eq84 c = rw (ne_eqb _ _ c.if-number-eq7.false, ne_eqb _ _ c.if-number-eq8.false, ne_eqb _ _ c.if-number-eq78.false, ne_eqb _ _ c.if-number-eq79.false, ne_eqb _ _ c.if-number-eq83.false, eq-eqb _ _ c.if-number-eq84.true) c.set_waiting_key.ensures

pub returns : goal.returns
unfolding load_neighbors
returns c = rw (ne_eqb _ _ c.if-number-eq7.false, ne_eqb _ _ c.if-number-eq8.false, ne_eqb _ _ c.if-number-eq78.false, ne_eqb _ _ c.if-number-eq79.false, ne_eqb _ _ c.if-number-eq83.false, ne_eqb _ _ c.if-number-eq84.false) c.no_call.ensures
