-- The number is compared with each of the group's in turn; what is no call leaves the store.
use borrow.Author.Tests.{eq-eqb, ne_eqb}
use Rattle.routing_groups.specs.Groups.{change_records, store_after_call}
use Rattle.routing_groups.proofs.change_records.Goals as goal

pub returns-then-number-eq6 : goal.returns-then-number-eq6
unfolding change_records store_after_call
returns-then-number-eq6 c = record { value = rw (eq-eqb c.args.number 6 c.if-number-eq6.true) c.put_record.ensures.value; store_after = rw (eq-eqb c.args.number 6 c.if-number-eq6.true) c.put_record.ensures.store_after }

pub returns-then-number-eq22 : goal.returns-then-number-eq22
unfolding change_records store_after_call
returns-then-number-eq22 c = record { value = rw (ne_eqb c.args.number 6 c.if-number-eq6.false, eq-eqb c.args.number 22 c.if-number-eq22.true) c.store_route_record.ensures.value; store_after = rw (ne_eqb c.args.number 6 c.if-number-eq6.false, eq-eqb c.args.number 22 c.if-number-eq22.true) c.store_route_record.ensures.store_after }

pub returns-then-number-eq23 : goal.returns-then-number-eq23
unfolding change_records store_after_call
returns-then-number-eq23 c = record { value = rw (ne_eqb c.args.number 6 c.if-number-eq6.false, ne_eqb c.args.number 22 c.if-number-eq22.false, eq-eqb c.args.number 23 c.if-number-eq23.true) c.remove_route_record.ensures.value; store_after = rw (ne_eqb c.args.number 6 c.if-number-eq6.false, ne_eqb c.args.number 22 c.if-number-eq22.false, eq-eqb c.args.number 23 c.if-number-eq23.true) c.remove_route_record.ensures.store_after }

pub returns : goal.returns
unfolding change_records store_after_call
returns c = record { value = rw (ne_eqb _ _ c.if-number-eq6.false, ne_eqb _ _ c.if-number-eq22.false, ne_eqb _ _ c.if-number-eq23.false) c.no_call.ensures; store_after = rw (ne_eqb _ _ c.if-number-eq6.false, ne_eqb _ _ c.if-number-eq22.false, ne_eqb _ _ c.if-number-eq23.false) }
