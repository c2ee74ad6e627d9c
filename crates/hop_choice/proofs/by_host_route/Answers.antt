-- A hop is taken as it is; a source route by whether it is empty.
-- Assumes nothing.
use borrow.Author.Tests.{eq-eqb, ne_eqb}
use Rattle.hop_choice.proofs.by_host_route.Goals as goal

pub returns-in-NextHop : goal.returns-in-NextHop
returns-in-NextHop c = rw c.in-NextHop.is

pub returns-then-relays-eq0 : goal.returns-then-relays-eq0
returns-then-relays-eq0 c = rw (c.in-SourceRoute.is, eq-eqb _ 0 c.if-relays-eq0.true)

pub returns-else-relays-eq0 : goal.returns-else-relays-eq0
returns-else-relays-eq0 c = rw (c.in-SourceRoute.is, ne_eqb _ 0 c.if-relays-eq0.false)
