-- The test tells that the state is well formed.
use Rattle.std.proofs.Common.{sym, ◌∙◌}
use borrow.Author.Tests.{not-false}
use Rattle.neighbors.proofs.State.{state-told}
use Rattle.speed_links.proofs.links_core.Goals as goal

pub links_held-requires : goal.links_held-requires
links_held-requires c = (state-told _).fact (sym c.well_formed-2.ensures ∙ not-false _ c.if-not-well_formed.false-raw)
