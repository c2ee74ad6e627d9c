-- A state that is not well formed is refused as it is; in any other the columns that the call leaves are put back, and they are those of its rows.
-- Assumes nothing.
use Rattle.std.specs.Prelude.{Ok}
use mathlib.Core.Path.{sym, ◌∙◌}
use borrow.Author.Tests.{not-true, not-false}
use Rattle.neighbors.specs.Changes.{remove}
use Rattle.neighbors.proofs.State.{state-told, held}
use Rattle.neighbors.proofs.Neighbors.remove.Goals as goal

pub returns-then-not-well_formed : goal.returns-then-not-well_formed
unfolding remove
returns-then-not-well_formed c = rw (sym c.well_formed-2.ensures ∙ not-true _ c.if-not-well_formed.true-raw) c.refuse.ensures

pub remove-count-requires : goal.remove-count-requires
remove-count-requires c = ((state-told _).fact (sym c.well_formed-2.ensures ∙ not-false _ c.if-not-well_formed.false-raw)).table

pub returns : goal.returns
unfolding remove
returns c = rw (sym c.well_formed-2.ensures ∙ not-false _ c.if-not-well_formed.false-raw) (λ z. record { answer = Ok tt; state = held c.args.self _ _ c.remove-count.ensures z })
