-- The tests tell that both states are well formed and that the store agrees.
use Rattle.std.proofs.Common.{sym, ◌∙◌}
use borrow.Author.Tests.{not-false}
use Rattle.relay_store.proofs.Agree.{agrees-told}
use Rattle.routing.proofs.State.{state-told}
use Rattle.neighbors.proofs.State as neighbor-state
use Rattle.speed.proofs.decisions.decisions_core.Goals as goal

pub agrees-requires : goal.agrees-requires
agrees-requires c = (state-told _).fact (sym c.well_formed-2.ensures ∙ not-false _ c.if-not-well_formed.false-raw)

pub decisions_held-requires : goal.decisions_held-requires
decisions_held-requires c = (
  (state-told _).fact (sym c.well_formed-2.ensures ∙ not-false _ c.if-not-well_formed.false-raw),
  (neighbor-state.state-told _).fact (sym c.well_formed-3.ensures ∙ not-false _ c.if-not-well_formed-2.false-raw),
  (agrees-told _ _).fact (sym c.agrees.ensures ∙ not-false _ c.if-not-agrees.false-raw),
)
