-- The counters come first, and then the tables.
-- Assumes nothing.
use mathlib.Core.List.{◌++◌}
use mathlib.Core.Path.{ap, sym, ◌∙◌}
use Rattle.numbers.specs.Said.{spoken}
use Rattle.lines.specs.Lines.{line_said}
use Rattle.lines.proofs.Lines.{line-next}
use Rattle.routing.specs.State.{route_table}
use Rattle.route_loads.specs.Prints.{counter_line, route_lines, after_routes, routing_lines}
use Rattle.route_loads.proofs.prints.line.Goals as goal

pub returns-then-i-eq0 : goal.returns-then-i-eq0
unfolding routing_lines
returns-then-i-eq0 c = c.counter_line.ensures ∙ ap (λ k. spoken (line_said (routing_lines c.args.s c.args.store.now) k)) (sym c.if-i-eq0.true)

pub returns : goal.returns
unfolding routing_lines
returns c =
    c.from_routes.ensures
    ∙ ap spoken (sym (line-next (counter_line c.args.s) (route_lines (route_table c.args.s) ++ after_routes c.args.s c.args.store.now) c.args.i c.if-i-eq0.false))
