-- The number is compared with each of the group's in turn.
use borrow.Author.Tests.{eq-eqb, ne_eqb}
use Rattle.neighbor_groups.specs.Groups.{change_children}
use Rattle.neighbor_groups.proofs.change_children.Goals as goal

pub returns-then-number-eq48 : goal.returns-then-number-eq48
unfolding change_children
returns-then-number-eq48 c = rw (eq-eqb _ _ c.if-number-eq48.true) c.refresh_child_timeout.ensures

pub returns-then-number-eq49 : goal.returns-then-number-eq49
unfolding change_children
returns-then-number-eq49 c = rw (ne_eqb _ _ c.if-number-eq48.false, eq-eqb _ _ c.if-number-eq49.true) c.set_child_timeout.ensures

pub returns-then-number-eq51 : goal.returns-then-number-eq51
unfolding change_children
returns-then-number-eq51 c = rw (ne_eqb _ _ c.if-number-eq48.false, ne_eqb _ _ c.if-number-eq49.false, eq-eqb _ _ c.if-number-eq51.true) c.take_child.ensures

pub returns-then-number-eq54 : goal.returns-then-number-eq54
unfolding change_children
returns-then-number-eq54 c = rw (ne_eqb _ _ c.if-number-eq48.false, ne_eqb _ _ c.if-number-eq49.false, ne_eqb _ _ c.if-number-eq51.false, eq-eqb _ _ c.if-number-eq54.true) c.remove_claimed_children.ensures

pub returns-then-number-eq55 : goal.returns-then-number-eq55
unfolding change_children
returns-then-number-eq55 c = rw (ne_eqb _ _ c.if-number-eq48.false, ne_eqb _ _ c.if-number-eq49.false, ne_eqb _ _ c.if-number-eq51.false, ne_eqb _ _ c.if-number-eq54.false, eq-eqb _ _ c.if-number-eq55.true) c.process_parent_annce.ensures

pub returns-then-number-eq56 : goal.returns-then-number-eq56
unfolding change_children
returns-then-number-eq56 c = rw (ne_eqb _ _ c.if-number-eq48.false, ne_eqb _ _ c.if-number-eq49.false, ne_eqb _ _ c.if-number-eq51.false, ne_eqb _ _ c.if-number-eq54.false, ne_eqb _ _ c.if-number-eq55.false, eq-eqb _ _ c.if-number-eq56.true) c.evict_timed_out_children.ensures

pub returns-then-number-eq58 : goal.returns-then-number-eq58
unfolding change_children
returns-then-number-eq58 c = rw (ne_eqb _ _ c.if-number-eq48.false, ne_eqb _ _ c.if-number-eq49.false, ne_eqb _ _ c.if-number-eq51.false, ne_eqb _ _ c.if-number-eq54.false, ne_eqb _ _ c.if-number-eq55.false, ne_eqb _ _ c.if-number-eq56.false, eq-eqb _ _ c.if-number-eq58.true) c.upsert_child.ensures

pub returns-then-number-eq67 : goal.returns-then-number-eq67
unfolding change_children
returns-then-number-eq67 c = rw (ne_eqb _ _ c.if-number-eq48.false, ne_eqb _ _ c.if-number-eq49.false, ne_eqb _ _ c.if-number-eq51.false, ne_eqb _ _ c.if-number-eq54.false, ne_eqb _ _ c.if-number-eq55.false, ne_eqb _ _ c.if-number-eq56.false, ne_eqb _ _ c.if-number-eq58.false, eq-eqb _ _ c.if-number-eq67.true) c.on_link_status.ensures

pub returns : goal.returns
unfolding change_children
returns c = rw (ne_eqb _ _ c.if-number-eq48.false, ne_eqb _ _ c.if-number-eq49.false, ne_eqb _ _ c.if-number-eq51.false, ne_eqb _ _ c.if-number-eq54.false, ne_eqb _ _ c.if-number-eq55.false, ne_eqb _ _ c.if-number-eq56.false, ne_eqb _ _ c.if-number-eq58.false, ne_eqb _ _ c.if-number-eq67.false) c.no_call.ensures
