-- The two tests tell that the state is well formed and that the store agrees with it.
use Rattle.std.proofs.Common.{sym, ◌∙◌}
use borrow.Author.Tests.{not-false}
use Rattle.relay_store.proofs.Agree.{agrees-told}
use Rattle.routing.proofs.State.{state-told}
use Rattle.speed_records.proofs.ways_core.Goals as goal

pub agrees-requires : goal.agrees-requires
agrees-requires c = (state-told _).fact (sym c.well_formed-2.ensures ∙ not-false _ c.if-not-well_formed.false-raw)

pub ways_held-requires : goal.ways_held-requires
ways_held-requires c = (
  (state-told _).fact (sym c.well_formed-2.ensures ∙ not-false _ c.if-not-well_formed.false-raw),
  (agrees-told _ _).fact (sym c.agrees.ensures ∙ not-false _ c.if-not-agrees.false-raw),
)
