-- The number is compared with each of the group's in turn.
use borrow.Author.Tests.{eq-eqb, ne_eqb}
use Rattle.neighbor_groups.specs.Groups.{note_neighbors}
use Rattle.neighbor_groups.proofs.note_neighbors.Goals as goal

pub returns-then-number-eq34 : goal.returns-then-number-eq34
unfolding note_neighbors
returns-then-number-eq34 c = rw (eq-eqb _ _ c.if-number-eq34.true) c.record_lqa.ensures

pub returns-then-number-eq50 : goal.returns-then-number-eq50
unfolding note_neighbors
returns-then-number-eq50 c = rw (ne_eqb _ _ c.if-number-eq34.false, eq-eqb _ _ c.if-number-eq50.true) c.update_network_address.ensures

pub returns-then-number-eq59 : goal.returns-then-number-eq59
unfolding note_neighbors
returns-then-number-eq59 c = rw (ne_eqb _ _ c.if-number-eq34.false, ne_eqb _ _ c.if-number-eq50.false, eq-eqb _ _ c.if-number-eq59.true) c.remove.ensures

pub returns-then-number-eq63 : goal.returns-then-number-eq63
unfolding note_neighbors
returns-then-number-eq63 c = rw (ne_eqb _ _ c.if-number-eq34.false, ne_eqb _ _ c.if-number-eq50.false, ne_eqb _ _ c.if-number-eq59.false, eq-eqb _ _ c.if-number-eq63.true) c.record_outbound_activity.ensures

pub returns-then-number-eq64 : goal.returns-then-number-eq64
unfolding note_neighbors
returns-then-number-eq64 c = rw (ne_eqb _ _ c.if-number-eq34.false, ne_eqb _ _ c.if-number-eq50.false, ne_eqb _ _ c.if-number-eq59.false, ne_eqb _ _ c.if-number-eq63.false, eq-eqb _ _ c.if-number-eq64.true) c.record_inbound_activity.ensures

pub returns-then-number-eq65 : goal.returns-then-number-eq65
unfolding note_neighbors
returns-then-number-eq65 c = rw (ne_eqb _ _ c.if-number-eq34.false, ne_eqb _ _ c.if-number-eq50.false, ne_eqb _ _ c.if-number-eq59.false, ne_eqb _ _ c.if-number-eq63.false, ne_eqb _ _ c.if-number-eq64.false, eq-eqb _ _ c.if-number-eq65.true) c.record_transmit_failure.ensures

pub returns-then-number-eq66 : goal.returns-then-number-eq66
unfolding note_neighbors
returns-then-number-eq66 c = rw (ne_eqb _ _ c.if-number-eq34.false, ne_eqb _ _ c.if-number-eq50.false, ne_eqb _ _ c.if-number-eq59.false, ne_eqb _ _ c.if-number-eq63.false, ne_eqb _ _ c.if-number-eq64.false, ne_eqb _ _ c.if-number-eq65.false, eq-eqb _ _ c.if-number-eq66.true) c.reset_transmit_failures.ensures

pub returns : goal.returns
unfolding note_neighbors
returns c = rw (ne_eqb _ _ c.if-number-eq34.false, ne_eqb _ _ c.if-number-eq50.false, ne_eqb _ _ c.if-number-eq59.false, ne_eqb _ _ c.if-number-eq63.false, ne_eqb _ _ c.if-number-eq64.false, ne_eqb _ _ c.if-number-eq65.false, ne_eqb _ _ c.if-number-eq66.false) c.no_call.ensures
