-- Each value is put after those before it.
use Rattle.decision_lines.proofs.arguments.with_hop.Goals as goal

pub returns : goal.returns
returns c = rw (c.answered.ensures, c.push_header.ensures, c.push_nwk-k.ensures, c.push-m.ensures, c.none-n.ensures)
