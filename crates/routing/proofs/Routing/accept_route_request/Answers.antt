-- A state that is not well formed is refused as it is; in any other the columns that the rule leaves are those of its rows.
use mathlib.Core.Path.{sym, ◌∙◌}
use borrow.Author.Tests.{not-true, not-false}
use Rattle.route_table.proofs.Lent as routes-lent
use Rattle.discovery_table.proofs.Lent as discoveries-lent
use Rattle.search_tables.specs.Lent.{lent}
use Rattle.routing.specs.Search.{accept_route_request}
use Rattle.routing.proofs.State.{state-told, held_back}
use Rattle.routing.proofs.Routing.accept_route_request.Goals as goal

pub returns-then-not-formed : goal.returns-then-not-formed
unfolding accept_route_request
returns-then-not-formed c = rw (sym c.formed.ensures ∙ not-true _ c.if-not-formed.true-raw)

pub invariant_of-routes : goal.invariant_of-routes
invariant_of-routes c = record { formed = routes-lent.told _ ((state-told _).fact (sym c.formed.ensures ∙ not-false _ c.if-not-formed.false-raw)).routes }

pub invariant_of-discoveries : goal.invariant_of-discoveries
invariant_of-discoveries c = record { formed = discoveries-lent.told _ ((state-told _).fact (sym c.formed.ensures ∙ not-false _ c.if-not-formed.false-raw)).discoveries }

pub returns : goal.returns
unfolding accept_route_request
returns c =
    let x = c.request-answer in
    rw (sym c.formed.ensures ∙ not-false _ c.if-not-formed.false-raw)
    (λ z. record { answer = x.ensures.left.said z; state = held_back c.args.self (lent x.new.routes x.new.discoveries) _ x.ensures.left.left z })
