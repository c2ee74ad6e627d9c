-- The number is compared with each of the group's in turn.
use borrow.Author.Tests.{eq-eqb, ne_eqb}
use Rattle.routing_groups.specs.Groups.{ask_records}
use Rattle.routing_groups.proofs.ask_records.Goals as goal

pub returns-then-number-eq27 : goal.returns-then-number-eq27
unfolding ask_records
returns-then-number-eq27 c = rw (eq-eqb _ _ c.if-number-eq27.true) c.route_to.ensures

pub returns-then-number-eq28 : goal.returns-then-number-eq28
unfolding ask_records
returns-then-number-eq28 c = rw (ne_eqb _ _ c.if-number-eq27.false, eq-eqb _ _ c.if-number-eq28.true) c.route_to_default.ensures

pub returns-then-number-eq74 : goal.returns-then-number-eq74
unfolding ask_records
returns-then-number-eq74 c = rw (ne_eqb _ _ c.if-number-eq27.false, ne_eqb _ _ c.if-number-eq28.false, eq-eqb _ _ c.if-number-eq74.true) c.record_at.ensures

pub returns : goal.returns
unfolding ask_records
returns c = rw (ne_eqb _ _ c.if-number-eq27.false, ne_eqb _ _ c.if-number-eq28.false, ne_eqb _ _ c.if-number-eq74.false) c.no_call.ensures
