-- A place within the lines of this table is one of them; a place past them is one of those after.
-- Assumes nothing.
use Prim.Native.Nat.{◌-◌}
use native.Mathlib.Omega.{arith}
use mathlib.Core.Path.{ap, sym, ◌∙◌}
use Rattle.numbers.specs.Said.{spoken}
use Rattle.lines.specs.Lines.{line_said}
use Rattle.lines.proofs.Lines.{line_first, line-rest}
use Rattle.routing.specs.State.{discovery_table, record_table}
use Rattle.route_loads.specs.Prints.{discovery_lines, record_lines, after_routes}
use Rattle.route_loads.proofs.Counts.{discovery-count}
use Rattle.route_loads.proofs.prints.from_discoveries.Goals as goal

pub discovery_line-requires : goal.discovery_line-requires
discovery_line-requires c = omega (arith, c.min-n.ensures)

pub returns-then-i-n : goal.returns-then-i-n
unfolding after_routes
returns-then-i-n c =
    let t = discovery_table c.args.s in
    let ys = record_lines (record_table c.args.s) c.args.store.now in
    let many = discovery-count t in
    c.discovery_line.ensures ∙ ap spoken (sym (line_first (discovery_lines t) ys c.args.i (omega (arith, many, c.min-n.ensures, c.if-i-n.true))))

pub returns : goal.returns
unfolding after_routes
returns c =
    let t = discovery_table c.args.s in
    let ys = record_lines (record_table c.args.s) c.args.store.now in
    let many = discovery-count t in
    let n = c.min-n.ensures in
    c.from_records.ensures
    ∙ ap (λ k. spoken (line_said ys (c.args.i - k))) (n ∙ sym many)
    ∙ ap spoken (sym (line-rest (discovery_lines t) ys c.args.i (omega (arith, many, n, c.if-i-n.false))))
