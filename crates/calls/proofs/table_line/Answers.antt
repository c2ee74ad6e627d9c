-- A place within the routing state's lines is one of them; a place past them is one of the neighbours'.
use Prim.Native.Nat.{◌-◌}
use mathlib.Core.Path.{ap, sym, ◌∙◌}
use native.Mathlib.Omega.{arith}
use Rattle.numbers.specs.Said.{spoken}
use Rattle.lines.specs.Lines.{line_said}
use Rattle.lines.proofs.Lines.{line_first, line-rest}
use Rattle.route_loads.specs.Prints.{routing_lines}
use Rattle.route_loads.proofs.Counts.{line-count}
use Rattle.neighbor_loads.specs.Prints.{neighbor_lines}
use Rattle.calls.specs.Groups.{world_lines}
use Rattle.calls.proofs.table_line.Goals as goal

pub returns-then-i-n : goal.returns-then-i-n
unfolding world_lines
returns-then-i-n c =
    let w = c.args.world in
    let store = c.args.store.now in
    let many = line-count c.args.world.routing c.args.store.now in
    c.line.ensures ∙ ap spoken (sym (line_first (routing_lines w.routing store) (neighbor_lines w.neighbors) c.args.index (omega (arith, many, c.line_count-n.ensures, c.if-i-n.true))))

pub returns : goal.returns
unfolding world_lines
returns c =
    let w = c.args.world in
    let store = c.args.store.now in
    let many = line-count c.args.world.routing c.args.store.now in
    let n = c.line_count-n.ensures in
    c.line-2.ensures
    ∙ ap (λ k. spoken (line_said (neighbor_lines w.neighbors) (c.args.index - k))) (n ∙ sym many)
    ∙ ap spoken (sym (line-rest (routing_lines w.routing store) (neighbor_lines w.neighbors) c.args.index (omega (arith, many, n, c.if-i-n.false))))
