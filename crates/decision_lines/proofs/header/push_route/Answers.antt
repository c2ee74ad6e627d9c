-- By whether there is a source route.
use Rattle.decision_lines.proofs.header.push_route.Goals as goal

pub returns-then-has : goal.returns-then-has
returns-then-has c = rw (c.push_relays.ensures, c.push_byte-k.ensures, c.push-m.ensures, c.if-has.true)

pub returns-else-has : goal.returns-else-has
returns-else-has c = rw (c.push.ensures, c.if-has.false)
