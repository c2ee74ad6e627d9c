-- From the last sender on there is no line.
-- Assumes nothing.
use native.Mathlib.Omega.{arith}
use mathlib.Core.Path.{ap, sym, ◌∙◌}
use Rattle.numbers.specs.Said.{spoken}
use Rattle.lines.proofs.Lines.{line-none}
use Rattle.neighbors.specs.State.{waiting_in}
use Rattle.neighbor_loads.specs.Prints.{waiting_rows}
use Rattle.neighbor_loads.proofs.Counts.{waiting-count}
use Rattle.neighbor_loads.proofs.prints.from_waiting.Goals as goal

pub returns-then-n-i : goal.returns-then-n-i
returns-then-n-i c =
    let t = waiting_in c.args.s in
    c.no_call.ensures ∙ ap spoken (sym (line-none (waiting_rows t) c.args.i (omega (arith, waiting-count t, c.min-n.ensures, c.if-n-i.true))))

pub waiting_line-requires : goal.waiting_line-requires
waiting_line-requires c = omega (arith, c.min-n.ensures)

pub returns : goal.returns
returns c = c.waiting_line.ensures
