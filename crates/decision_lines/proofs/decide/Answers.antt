-- The number is compared with each of the group's in turn.
use borrow.Author.Tests.{eq-eqb, ne_eqb}
use Rattle.decision_lines.specs.Lines.{decide_by}
use Rattle.decision_lines.proofs.decide.Goals as goal

pub returns-then-number-eq68 : goal.returns-then-number-eq68
unfolding decide_by
returns-then-number-eq68 c = rw (eq-eqb _ _ c.if-number-eq68.true) c.clear_end_device_initiator_for_relay.ensures

pub returns-then-number-eq69 : goal.returns-then-number-eq69
unfolding decide_by
returns-then-number-eq69 c = rw (ne_eqb _ _ c.if-number-eq68.false, eq-eqb _ _ c.if-number-eq69.true) c.resolve.ensures

pub returns-then-number-eq70 : goal.returns-then-number-eq70
unfolding decide_by
returns-then-number-eq70 c = rw (ne_eqb _ _ c.if-number-eq68.false, ne_eqb _ _ c.if-number-eq69.false, eq-eqb _ _ c.if-number-eq70.true) c.resolve_default.ensures

pub returns : goal.returns
unfolding decide_by
returns c = rw (ne_eqb _ _ c.if-number-eq68.false, ne_eqb _ _ c.if-number-eq69.false, ne_eqb _ _ c.if-number-eq70.false) c.no_call.ensures
