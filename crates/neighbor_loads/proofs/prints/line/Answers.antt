-- A place within the neighbours' lines is one of them; a place past them is one of the senders'.
-- Assumes nothing.
use Prim.Native.Nat.{◌-◌}
use native.Mathlib.Omega.{arith}
use mathlib.Core.Path.{ap, sym, ◌∙◌}
use Rattle.numbers.specs.Said.{spoken}
use Rattle.lines.specs.Lines.{line_said}
use Rattle.lines.proofs.Lines.{line_first, line-rest}
use Rattle.neighbors.specs.State.{table_in, waiting_in}
use Rattle.neighbor_loads.specs.Prints.{neighbor_rows, waiting_rows, neighbor_lines}
use Rattle.neighbor_loads.proofs.Counts.{neighbor-count}
use Rattle.neighbor_loads.proofs.prints.line.Goals as goal

pub neighbor_line-requires : goal.neighbor_line-requires
neighbor_line-requires c = omega (arith, c.min-n.ensures)

pub returns-then-i-n : goal.returns-then-i-n
unfolding neighbor_lines
returns-then-i-n c =
    let t = table_in c.args.s in
    c.neighbor_line.ensures ∙ ap spoken (sym (line_first (neighbor_rows t) (waiting_rows (waiting_in c.args.s)) c.args.i (omega (arith, neighbor-count t, c.min-n.ensures, c.if-i-n.true))))

pub returns : goal.returns
unfolding neighbor_lines
returns c =
    let t = table_in c.args.s in
    let many = neighbor-count t in
    let n = c.min-n.ensures in
    let ys = waiting_rows (waiting_in c.args.s) in
    c.from_waiting.ensures
    ∙ ap (λ k. spoken (line_said ys (c.args.i - k))) (n ∙ sym many)
    ∙ ap spoken (sym (line-rest (neighbor_rows t) ys c.args.i (omega (arith, many, n, c.if-i-n.false))))
