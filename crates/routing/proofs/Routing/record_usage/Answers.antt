-- A state that is not well formed is refused as it is; in any other the columns that the call leaves are put back, and they are those of its rows.
-- Assumes nothing.
use Rattle.std.specs.Prelude.{Ok}
use mathlib.Core.Path.{sym, ◌∙◌}
use borrow.Author.Tests.{not-true, not-false}
use Rattle.route_table.proofs.Lent.{told, values-hold}
use Rattle.routing.specs.Routes.{record_usage}
use Rattle.routing.proofs.State.{state-told, held-routes}
use Rattle.routing.proofs.Routing.record_usage.Goals as goal

pub returns-then-not-formed : goal.returns-then-not-formed
unfolding record_usage
returns-then-not-formed c = rw (sym c.formed.ensures ∙ not-true _ c.if-not-formed.true-raw) c.refuse_done.ensures

pub invariant_of-routes : goal.invariant_of-routes
invariant_of-routes c = record { formed = told _ ((state-told _).fact (sym c.formed.ensures ∙ not-false _ c.if-not-formed.false-raw)).routes }

pub returns : goal.returns
unfolding record_usage
returns c =
    let q = c.record_usage.ensures in
    rw (sym c.formed.ensures ∙ not-false _ c.if-not-formed.false-raw)
    (λ z. record { answer = Ok tt; state = held-routes c.args.self _ _ (values-hold _ c.record_usage.new.routes _ q) z })
