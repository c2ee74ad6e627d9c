-- A state that is not well formed is refused as it is; in any other the columns that the call leaves are put back, and they are those of its rows.
-- Assumes nothing.
use Rattle.std.specs.Prelude.{Ok}
use mathlib.Core.Path.{sym, ◌∙◌}
use borrow.Author.Tests.{not-true, not-false}
use Rattle.routing.specs.Routes.{invalidate_via}
use Rattle.routing.proofs.State.{state-told, held-routes}
use Rattle.routing.proofs.Routing.invalidate_via.Goals as goal

pub returns-then-not-formed : goal.returns-then-not-formed
unfolding invalidate_via
returns-then-not-formed c = rw (sym c.formed.ensures ∙ not-true _ c.if-not-formed.true-raw) c.refuse_done.ensures

pub invalidate_via-requires : goal.invalidate_via-requires
invalidate_via-requires c = ((state-told _).fact (sym c.formed.ensures ∙ not-false _ c.if-not-formed.false-raw)).routes

pub returns : goal.returns
unfolding invalidate_via
returns c =
    rw (sym c.formed.ensures ∙ not-false _ c.if-not-formed.false-raw)
    (λ z. record { answer = Ok tt; state = held-routes c.args.self _ _ c.invalidate_via.ensures z })
