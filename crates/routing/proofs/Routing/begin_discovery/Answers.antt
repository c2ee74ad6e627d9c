-- A state that is not well formed is refused as it is, and one that the rule refuses is handed back; else the columns that the rule leaves are those
-- of its rows.
use Prim.Native.Nat.{ℕ}
use mathlib.Core.Path.{sym, ◌∙◌}
use borrow.Author.Tests.{not-true, not-false}
use Rattle.route_table.proofs.Lent as routes-lent
use Rattle.discovery_table.proofs.Lent as discoveries-lent
use Rattle.search_tables.specs.Lent.{lent}
use Rattle.route_begin.specs.Answer.{begun}
use Rattle.routing.specs.State.{rows_in}
use Rattle.routing.specs.Search.{begin_discovery}
use Rattle.routing.proofs.State.{state-told}
use Rattle.routing.proofs.Begun.{refused_as, begun-as}
use Rattle.routing.proofs.Routing.begin_discovery.Goals as goal

pub returns-then-not-formed : goal.returns-then-not-formed
unfolding begin_discovery
returns-then-not-formed c = rw (sym c.formed.ensures ∙ not-true _ c.if-not-formed.true-raw)

pub invariant_of-routes : goal.invariant_of-routes
invariant_of-routes c = record { formed = routes-lent.told _ ((state-told _).fact (sym c.formed.ensures ∙ not-false _ c.if-not-formed.false-raw)).routes }

pub invariant_of-discoveries : goal.invariant_of-discoveries
invariant_of-discoveries c = record { formed = discoveries-lent.told _ ((state-told _).fact (sym c.formed.ensures ∙ not-false _ c.if-not-formed.false-raw)).discoveries }

pub returns-in_default : goal.returns-in_default
unfolding begin_discovery
returns-in_default c =
    rw (sym c.formed.ensures ∙ not-false _ c.if-not-formed.false-raw)
    (refused_as c.args.self (λ (n : ℕ). begun (rows_in c.args.self) c.args.own n c.args.destination c.args.now c.args.route_discovery_time) _ _ c.next_id-id.ensures _ _ c.in_default.is c.begin-answer.ensures.left.said)

pub returns : goal.returns
unfolding begin_discovery
returns c =
    let x = c.begin-answer in
    rw (sym c.formed.ensures ∙ not-false _ c.if-not-formed.false-raw)
    (begun-as c.args.self (λ (n : ℕ). begun (rows_in c.args.self) c.args.own n c.args.destination c.args.now c.args.route_discovery_time) _ _ c.next_id-id.ensures _ _ c.in-Ok.is x.ensures.left.said (lent x.new.routes x.new.discoveries) x.ensures.left.left)
