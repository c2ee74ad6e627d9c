-- The number is compared with each of the group's in turn.
use borrow.Author.Tests.{eq-eqb, ne_eqb}
use Rattle.neighbor_groups.specs.Groups.{ask_children}
use Rattle.neighbor_groups.proofs.ask_children.Goals as goal

pub returns-then-number-eq45 : goal.returns-then-number-eq45
unfolding ask_children
returns-then-number-eq45 c = rw (eq-eqb _ _ c.if-number-eq45.true) c.contains.ensures

pub returns-then-number-eq46 : goal.returns-then-number-eq46
unfolding ask_children
returns-then-number-eq46 c = rw (ne_eqb _ _ c.if-number-eq45.false, eq-eqb _ _ c.if-number-eq46.true) c.device_capability.ensures

pub returns-then-number-eq47 : goal.returns-then-number-eq47
unfolding ask_children
returns-then-number-eq47 c = rw (ne_eqb _ _ c.if-number-eq45.false, ne_eqb _ _ c.if-number-eq46.false, eq-eqb _ _ c.if-number-eq47.true) c.end_device_child_count.ensures

pub returns-then-number-eq53 : goal.returns-then-number-eq53
unfolding ask_children
returns-then-number-eq53 c = rw (ne_eqb _ _ c.if-number-eq45.false, ne_eqb _ _ c.if-number-eq46.false, ne_eqb _ _ c.if-number-eq47.false, eq-eqb _ _ c.if-number-eq53.true) c.is_unconfirmed_end_device_child.ensures

pub returns-then-number-eq57 : goal.returns-then-number-eq57
unfolding ask_children
returns-then-number-eq57 c = rw (ne_eqb _ _ c.if-number-eq45.false, ne_eqb _ _ c.if-number-eq46.false, ne_eqb _ _ c.if-number-eq47.false, ne_eqb _ _ c.if-number-eq53.false, eq-eqb _ _ c.if-number-eq57.true) c.next_child_timeout.ensures

pub returns-then-number-eq60 : goal.returns-then-number-eq60
unfolding ask_children
returns-then-number-eq60 c = rw (ne_eqb _ _ c.if-number-eq45.false, ne_eqb _ _ c.if-number-eq46.false, ne_eqb _ _ c.if-number-eq47.false, ne_eqb _ _ c.if-number-eq53.false, ne_eqb _ _ c.if-number-eq57.false, eq-eqb _ _ c.if-number-eq60.true) c.any_live_router_link.ensures

pub returns : goal.returns
unfolding ask_children
returns c = rw (ne_eqb _ _ c.if-number-eq45.false, ne_eqb _ _ c.if-number-eq46.false, ne_eqb _ _ c.if-number-eq47.false, ne_eqb _ _ c.if-number-eq53.false, ne_eqb _ _ c.if-number-eq57.false, ne_eqb _ _ c.if-number-eq60.false) c.no_call.ensures
