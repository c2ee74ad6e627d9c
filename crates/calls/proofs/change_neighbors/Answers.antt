-- The group is compared with each in turn.
use borrow.Author.Tests.{eq-eqb, ne_eqb}
use Rattle.calls.specs.Groups.{neighbors_by}
use Rattle.calls.proofs.change_neighbors.Goals as goal

pub returns-then-group-eq11 : goal.returns-then-group-eq11
unfolding neighbors_by
returns-then-group-eq11 c = rw (eq-eqb _ _ c.if-group-eq11.true) c.note_neighbors.ensures

pub returns-then-group-eq12 : goal.returns-then-group-eq12
unfolding neighbors_by
returns-then-group-eq12 c = rw (ne_eqb _ _ c.if-group-eq11.false, eq-eqb _ _ c.if-group-eq12.true) c.change_children.ensures

pub returns : goal.returns
unfolding neighbors_by
returns c = rw (ne_eqb _ _ c.if-group-eq11.false, ne_eqb _ _ c.if-group-eq12.false) c.load_neighbors.ensures
