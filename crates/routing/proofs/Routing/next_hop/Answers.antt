-- A state that is not well formed is refused; of any other the hop of its route table is the answer.
-- Assumes nothing.
use mathlib.Core.Path.{sym, ◌∙◌}
use borrow.Author.Tests.{not-true, not-false}
use Rattle.routing.specs.Queries.{next_hop_of}
use Rattle.routing.proofs.State.{state-told}
use Rattle.routing.proofs.Routing.next_hop.Goals as goal

pub returns-then-not-formed : goal.returns-then-not-formed
unfolding next_hop_of
returns-then-not-formed c = rw (sym c.formed.ensures ∙ not-true _ c.if-not-formed.true-raw)

pub active_hop-requires : goal.active_hop-requires
active_hop-requires c = (state-told _).fact (sym c.formed.ensures ∙ not-false _ c.if-not-formed.false-raw)

pub returns : goal.returns
unfolding next_hop_of
returns c = rw (sym c.formed.ensures ∙ not-false _ c.if-not-formed.false-raw) c.active_hop.ensures
