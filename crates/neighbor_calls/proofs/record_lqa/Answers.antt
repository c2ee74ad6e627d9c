-- A state that is not well formed is refused as it is; in any other the columns that the call leaves are put back, and they are those of its rows.
-- Assumes nothing.
use Rattle.std.specs.Prelude.{Ok}
use mathlib.Core.Path.{sym, ◌∙◌}
use borrow.Author.Tests.{not-true, not-false}
use Rattle.neighbors.proofs.Ready.{words_long}
use Rattle.neighbors.proofs.State.{state-told, held_both}
use Rattle.neighbors.specs.State.{table_in}
use Rattle.neighbor_calls.specs.Samples.{record_lqa}
use Rattle.neighbor_calls.proofs.record_lqa.Goals as goal

pub returns-then-not-well_formed : goal.returns-then-not-well_formed
unfolding record_lqa
returns-then-not-well_formed c = rw (sym c.well_formed-2.ensures ∙ not-true _ c.if-not-well_formed.true-raw) c.refuse.ensures

pub record_lqa-waiting-requires : goal.record_lqa-waiting-requires
record_lqa-waiting-requires c = ((words_long _ ((state-told _).fact (sym c.well_formed-2.ensures ∙ not-false _ c.if-not-well_formed.false-raw)).table.formed).0, (words_long _ ((state-told _).fact (sym c.well_formed-2.ensures ∙ not-false _ c.if-not-well_formed.false-raw)).table.formed).1, ((state-told _).fact (sym c.well_formed-2.ensures ∙ not-false _ c.if-not-well_formed.false-raw)).pending)

pub returns : goal.returns
unfolding record_lqa
returns c = rw (sym c.well_formed-2.ensures ∙ not-false _ c.if-not-well_formed.false-raw) (λ z. record { answer = Ok tt; state = held_both _ _ _ _ (c.record_lqa-waiting.ensures.0 (table_in c.args.state) ((state-told _).fact (sym c.well_formed-2.ensures ∙ not-false _ c.if-not-well_formed.false-raw)).table) (c.record_lqa-waiting.ensures.1 (table_in c.args.state) ((state-told _).fact (sym c.well_formed-2.ensures ∙ not-false _ c.if-not-well_formed.false-raw)).table.formed) z })
