-- A state that is not well formed is refused; of any other the answer is that of its columns.
-- Assumes nothing.
use mathlib.Core.Path.{sym, ◌∙◌}
use borrow.Author.Tests.{not-true, not-false}
use Rattle.neighbor_queries_lent.proofs.Ready.{words-in-use}
use Rattle.neighbors.specs.Queries.{link_status_entries}
use Rattle.neighbors.specs.State.{table_in}
use Rattle.neighbors.proofs.State.{state-told}
use Rattle.neighbors.proofs.Neighbors.link_status_entries.Goals as goal

pub returns-then-not-well_formed : goal.returns-then-not-well_formed
unfolding link_status_entries
returns-then-not-well_formed c = rw (sym c.well_formed-2.ensures ∙ not-true _ c.if-not-well_formed.true-raw)

pub link_status_entries-requires : goal.link_status_entries-requires
link_status_entries-requires c = words-in-use _ ((state-told _).fact (sym c.well_formed-2.ensures ∙ not-false _ c.if-not-well_formed.false-raw)).table.formed

pub returns : goal.returns
unfolding link_status_entries
returns c = rw ((sym c.well_formed-2.ensures ∙ not-false _ c.if-not-well_formed.false-raw), c.link_status_entries.ensures (table_in c.args.self) ((state-told _).fact (sym c.well_formed-2.ensures ∙ not-false _ c.if-not-well_formed.false-raw)).table.formed)
