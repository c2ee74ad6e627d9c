-- A state that is not well formed is refused; of any other the answer is that of its columns.
-- Assumes nothing.
use mathlib.Core.Path.{sym, ◌∙◌}
use borrow.Author.Tests.{not-true, not-false}
use Rattle.neighbor_queries_lent.proofs.Ready.{words-in-use}
use Rattle.neighbors.specs.Queries.{any_live_router_link}
use Rattle.neighbors.specs.State.{table_in}
use Rattle.neighbors.proofs.State.{state-told}
use Rattle.neighbors.proofs.Neighbors.any_live_router_link.Goals as goal

pub returns-then-not-well_formed : goal.returns-then-not-well_formed
unfolding any_live_router_link
returns-then-not-well_formed c = rw (sym c.well_formed-2.ensures ∙ not-true _ c.if-not-well_formed.true-raw)

pub any_live_router_link-requires : goal.any_live_router_link-requires
any_live_router_link-requires c = words-in-use _ ((state-told _).fact (sym c.well_formed-2.ensures ∙ not-false _ c.if-not-well_formed.false-raw)).table.formed

pub returns : goal.returns
unfolding any_live_router_link
returns c = rw ((sym c.well_formed-2.ensures ∙ not-false _ c.if-not-well_formed.false-raw), c.any_live_router_link.ensures (table_in c.args.self) ((state-told _).fact (sym c.well_formed-2.ensures ∙ not-false _ c.if-not-well_formed.false-raw)).table.formed)
