-- The group is compared with each in turn.
use borrow.Author.Tests.{eq-eqb, ne_eqb}
use Rattle.calls.specs.Groups.{ask_by}
use Rattle.calls.proofs.ask.Goals as goal

pub returns-then-group-eq1 : goal.returns-then-group-eq1
unfolding ask_by
returns-then-group-eq1 c = rw (eq-eqb _ _ c.if-group-eq1.true) c.ask_routing.ensures

pub returns-then-group-eq2 : goal.returns-then-group-eq2
unfolding ask_by
returns-then-group-eq2 c = rw (ne_eqb _ _ c.if-group-eq1.false, eq-eqb _ _ c.if-group-eq2.true) c.ask_neighbors.ensures

pub returns-then-group-eq3 : goal.returns-then-group-eq3
unfolding ask_by
returns-then-group-eq3 c = rw (ne_eqb _ _ c.if-group-eq1.false, ne_eqb _ _ c.if-group-eq2.false, eq-eqb _ _ c.if-group-eq3.true) c.ask_children.ensures

pub returns-then-group-eq4 : goal.returns-then-group-eq4
unfolding ask_by
returns-then-group-eq4 c = rw (ne_eqb _ _ c.if-group-eq1.false, ne_eqb _ _ c.if-group-eq2.false, ne_eqb _ _ c.if-group-eq3.false, eq-eqb _ _ c.if-group-eq4.true) c.list_neighbors.ensures

pub returns-then-group-eq5 : goal.returns-then-group-eq5
unfolding ask_by
returns-then-group-eq5 c = rw (ne_eqb _ _ c.if-group-eq1.false, ne_eqb _ _ c.if-group-eq2.false, ne_eqb _ _ c.if-group-eq3.false, ne_eqb _ _ c.if-group-eq4.false, eq-eqb _ _ c.if-group-eq5.true) c.ask_records.ensures

pub returns-then-group-eq6 : goal.returns-then-group-eq6
unfolding ask_by
returns-then-group-eq6 c = rw (ne_eqb _ _ c.if-group-eq1.false, ne_eqb _ _ c.if-group-eq2.false, ne_eqb _ _ c.if-group-eq3.false, ne_eqb _ _ c.if-group-eq4.false, ne_eqb _ _ c.if-group-eq5.false, eq-eqb _ _ c.if-group-eq6.true) c.decide.ensures

pub returns : goal.returns
unfolding ask_by
returns c = rw (ne_eqb _ _ c.if-group-eq1.false, ne_eqb _ _ c.if-group-eq2.false, ne_eqb _ _ c.if-group-eq3.false, ne_eqb _ _ c.if-group-eq4.false, ne_eqb _ _ c.if-group-eq5.false, ne_eqb _ _ c.if-group-eq6.false) c.no_call.ensures
