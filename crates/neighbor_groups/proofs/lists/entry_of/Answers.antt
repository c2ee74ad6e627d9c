-- The test refuses a state that is not well formed; the rows of any other are looked up.
use borrow.Author.Tests.{not-true, not-false}
use mathlib.Core.Path.{sym, ◌∙◌}
use Rattle.neighbor_groups.specs.Lists.{entry_of}
use Rattle.neighbors.proofs.State.{state-told}
use Rattle.neighbor_groups.proofs.lists.entry_of.Goals as goal

pub returns-then-not-well_formed : goal.returns-then-not-well_formed
unfolding entry_of
returns-then-not-well_formed c = rw (sym c.well_formed-2.ensures ∙ not-true _ c.if-not-well_formed.true-raw)

pub look_up-requires : goal.look_up-requires
look_up-requires c = (state-told _).fact (sym c.well_formed-2.ensures ∙ not-false _ c.if-not-well_formed.false-raw)

pub returns : goal.returns
unfolding entry_of
returns c = rw ((sym c.well_formed-2.ensures ∙ not-false _ c.if-not-well_formed.false-raw), c.look_up.ensures)
