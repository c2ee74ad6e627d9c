-- A state that is not well formed is refused as it is; in any other the counters are written.
-- Assumes nothing.
use mathlib.Core.Path.{sym, ◌∙◌}
use borrow.Author.Tests.{not-true, not-false}
use Rattle.routing.specs.Queries.{reset_mtorr_triggers}
use Rattle.routing.proofs.Routing.reset_mtorr_triggers.Goals as goal

pub returns-then-not-formed : goal.returns-then-not-formed
unfolding reset_mtorr_triggers
returns-then-not-formed c = rw (sym c.formed.ensures ∙ not-true _ c.if-not-formed.true-raw) c.refuse_done.ensures

pub returns : goal.returns
unfolding reset_mtorr_triggers
returns c = rw (sym c.formed.ensures ∙ not-false _ c.if-not-formed.false-raw)
