-- The number is compared with each of the group's in turn.
use borrow.Author.Tests.{eq-eqb, ne_eqb}
use Rattle.routing_groups.specs.Groups.{change_searches}
use Rattle.routing_groups.proofs.change_searches.Goals as goal

pub returns-then-number-eq21 : goal.returns-then-number-eq21
unfolding change_searches
returns-then-number-eq21 c = rw (eq-eqb _ _ c.if-number-eq21.true) c.restore_route.ensures

pub returns-then-number-eq24 : goal.returns-then-number-eq24
unfolding change_searches
returns-then-number-eq24 c = rw (ne_eqb _ _ c.if-number-eq21.false, eq-eqb _ _ c.if-number-eq24.true) c.note_source_routed_frame.ensures

pub returns-then-number-eq25 : goal.returns-then-number-eq25
unfolding change_searches
returns-then-number-eq25 c = rw (ne_eqb _ _ c.if-number-eq21.false, ne_eqb _ _ c.if-number-eq24.false, eq-eqb _ _ c.if-number-eq25.true) c.note_relayed_discovery.ensures

pub returns-then-number-eq29 : goal.returns-then-number-eq29
unfolding change_searches
returns-then-number-eq29 c = rw (ne_eqb _ _ c.if-number-eq21.false, ne_eqb _ _ c.if-number-eq24.false, ne_eqb _ _ c.if-number-eq25.false, eq-eqb _ _ c.if-number-eq29.true) c.begin_discovery.ensures

pub returns-then-number-eq30 : goal.returns-then-number-eq30
unfolding change_searches
returns-then-number-eq30 c = rw (ne_eqb _ _ c.if-number-eq21.false, ne_eqb _ _ c.if-number-eq24.false, ne_eqb _ _ c.if-number-eq25.false, ne_eqb _ _ c.if-number-eq29.false, eq-eqb _ _ c.if-number-eq30.true) c.begin_many_to_one_advertisement.ensures

pub returns-then-number-eq31 : goal.returns-then-number-eq31
unfolding change_searches
returns-then-number-eq31 c = rw (ne_eqb _ _ c.if-number-eq21.false, ne_eqb _ _ c.if-number-eq24.false, ne_eqb _ _ c.if-number-eq25.false, ne_eqb _ _ c.if-number-eq29.false, ne_eqb _ _ c.if-number-eq30.false, eq-eqb _ _ c.if-number-eq31.true) c.accept_route_request.ensures

pub returns-then-number-eq32 : goal.returns-then-number-eq32
unfolding change_searches
returns-then-number-eq32 c = rw (ne_eqb _ _ c.if-number-eq21.false, ne_eqb _ _ c.if-number-eq24.false, ne_eqb _ _ c.if-number-eq25.false, ne_eqb _ _ c.if-number-eq29.false, ne_eqb _ _ c.if-number-eq30.false, ne_eqb _ _ c.if-number-eq31.false, eq-eqb _ _ c.if-number-eq32.true) c.accept_route_reply.ensures

pub returns : goal.returns
unfolding change_searches
returns c = rw (ne_eqb _ _ c.if-number-eq21.false, ne_eqb _ _ c.if-number-eq24.false, ne_eqb _ _ c.if-number-eq25.false, ne_eqb _ _ c.if-number-eq29.false, ne_eqb _ _ c.if-number-eq30.false, ne_eqb _ _ c.if-number-eq31.false, ne_eqb _ _ c.if-number-eq32.false) c.no_call.ensures
