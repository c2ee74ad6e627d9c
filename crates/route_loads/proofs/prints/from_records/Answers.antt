-- From the last record on there is no line.
-- Assumes nothing.
use native.Mathlib.Omega.{arith}
use mathlib.Core.Path.{ap, sym, ◌∙◌}
use Rattle.numbers.specs.Said.{spoken}
use Rattle.lines.proofs.Lines.{line-none}
use Rattle.routing.specs.State.{record_table}
use Rattle.route_loads.specs.Prints.{record_lines}
use Rattle.route_loads.proofs.Counts.{record-count}
use Rattle.route_loads.proofs.prints.from_records.Goals as goal

pub returns-then-n-i : goal.returns-then-n-i
returns-then-n-i c =
    let t = record_table c.args.s in
    let store = c.args.store.now in
    c.no_call.ensures ∙ ap spoken (sym (line-none (record_lines t store) c.args.i (omega (arith, record-count t store, c.min-n.ensures, c.if-n-i.true))))

pub record_line-requires : goal.record_line-requires
record_line-requires c = omega (arith, c.min-n.ensures)

pub returns : goal.returns
returns c = c.record_line.ensures
