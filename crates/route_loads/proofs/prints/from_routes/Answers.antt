-- A place within the lines of this table is one of them; a place past them is one of those after.
-- Assumes nothing.
use Prim.Native.Nat.{◌-◌}
use native.Mathlib.Omega.{arith}
use mathlib.Core.Path.{ap, sym, ◌∙◌}
use Rattle.numbers.specs.Said.{spoken}
use Rattle.lines.specs.Lines.{line_said}
use Rattle.lines.proofs.Lines.{line_first, line-rest}
use Rattle.routing.specs.State.{route_table}
use Rattle.route_loads.specs.Prints.{route_lines, after_routes}
use Rattle.route_loads.proofs.Counts.{route-count}
use Rattle.route_loads.proofs.prints.from_routes.Goals as goal

pub route_line-requires : goal.route_line-requires
route_line-requires c = omega (arith, c.min-n.ensures)

pub returns-then-i-n : goal.returns-then-i-n
returns-then-i-n c =
    let t = route_table c.args.s in
    let ys = after_routes c.args.s c.args.store.now in
    let many = route-count t in
    c.route_line.ensures ∙ ap spoken (sym (line_first (route_lines t) ys c.args.i (omega (arith, many, c.min-n.ensures, c.if-i-n.true))))

pub returns : goal.returns
returns c =
    let t = route_table c.args.s in
    let ys = after_routes c.args.s c.args.store.now in
    let many = route-count t in
    let n = c.min-n.ensures in
    c.from_discoveries.ensures
    ∙ ap (λ k. spoken (line_said ys (c.args.i - k))) (n ∙ sym many)
    ∙ ap spoken (sym (line-rest (route_lines t) ys c.args.i (omega (arith, many, n, c.if-i-n.false))))
