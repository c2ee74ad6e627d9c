-- The bit decides first, and then the look-up, which tells the same in every table that has the two columns.
-- Assumes nothing.
use mathlib.Core.Path.{sym, ◌∙◌}
use borrow.Author.Tests.{not-true, not-false}
use Rattle.neighbor_columns.specs.Table.{rows_of}
use Rattle.neighbor_queries_lent.specs.Read.{lent_words}
use Rattle.relay_header.proofs.Cleared.{bit-off, by-child, by-other}
use Rattle.relay_header.proofs.clear_initiator.Goals as goal

pub returns-then-not-control : goal.returns-then-not-control
returns-then-not-control c =
    let a = c.args in
    λ t f. bit-off (rows_of (lent_words a.nwks.now a.links.now a.count t)) a.header _ (not-true _ c.if-not-control.true) c.tell.ensures

pub returns-then-any_fitting : goal.returns-then-any_fitting
returns-then-any_fitting c =
    let a = c.args in
    λ t f. by-child (rows_of (lent_words a.nwks.now a.links.now a.count t)) a.header _ (not-false _ c.if-not-control.false) (sym (c.any_fitting.ensures t f) ∙ c.if-any_fitting.true) _ c.with_initiator_cleared.ensures c.tell-then-any_fitting.ensures

pub returns : goal.returns
returns c =
    let a = c.args in
    λ t f. by-other (rows_of (lent_words a.nwks.now a.links.now a.count t)) a.header _ (not-false _ c.if-not-control.false) (sym (c.any_fitting.ensures t f) ∙ c.if-any_fitting.false) c.tell-2.ensures
