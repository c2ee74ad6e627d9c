-- A state that is not well formed is refused as it is; in any other the columns that the rule leaves are those of its rows.
use mathlib.Core.Path.{refl, sym, ◌∙◌}
use borrow.Author.Tests.{not-true, not-false}
use Rattle.route_table.proofs.Lent as routes-lent
use Rattle.discovery_table.proofs.Lent as discoveries-lent
use Rattle.search_tables.proofs.Lent.{values-given-back, holds-back}
use Rattle.routing.specs.Search.{accept_route_reply}
use Rattle.routing.proofs.State.{state-told, held_back}
use Rattle.routing.proofs.Routing.accept_route_reply.Goals as goal

pub returns-then-not-formed : goal.returns-then-not-formed
unfolding accept_route_reply
returns-then-not-formed c = rw (sym c.formed.ensures ∙ not-true _ c.if-not-formed.true-raw)

pub invariant_of-routes : goal.invariant_of-routes
invariant_of-routes c = record { formed = routes-lent.told _ ((state-told _).fact (sym c.formed.ensures ∙ not-false _ c.if-not-formed.false-raw)).routes }

pub invariant_of-discoveries : goal.invariant_of-discoveries
invariant_of-discoveries c = record { formed = discoveries-lent.told _ ((state-told _).fact (sym c.formed.ensures ∙ not-false _ c.if-not-formed.false-raw)).discoveries }

pub returns : goal.returns
unfolding accept_route_reply
returns c =
    let x = c.reply-answer in
    let now = values-given-back _ x.new.routes _ x.new.discoveries x.ensures.memory _ _ _ _ _ refl refl refl refl refl in
    rw (sym c.formed.ensures ∙ not-false _ c.if-not-formed.false-raw)
    (λ z. record { answer = x.ensures.left.said z; state = held_back c.args.self _ _ (holds-back _ _ now _ x.ensures.left.left) z })
