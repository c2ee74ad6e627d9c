-- A state that is not well formed and a store that disagrees are refused; of any other pair the answer is the record's, with its relays beside.
-- Assumes nothing.
use mathlib.Core.Path.{sym, ap, ◌∙◌, subst}
use borrow.Author.Tests.{not-true, not-false}
use Rattle.record_table.specs.Table.{RecordTable}
use Rattle.relay_store.specs.Store.{Agrees}
use Rattle.relay_store.proofs.Agree.{agrees-told}
use Rattle.route_record.specs.Answer.{record_held}
use Rattle.routing.specs.Records.{record_at}
use Rattle.routing.proofs.State.{state-told}
use Rattle.routing.proofs.Routing.record_at.Goals as goal

pub returns-then-not-formed : goal.returns-then-not-formed
unfolding record_at
returns-then-not-formed c = rw (sym c.formed.ensures ∙ not-true _ c.if-not-formed.true-raw) c.refuse_record_at.ensures

pub fits-requires : goal.fits-requires
fits-requires c = (state-told _).fact (sym c.formed.ensures ∙ not-false _ c.if-not-formed.false-raw)

pub returns-then-not-fits : goal.returns-then-not-fits
unfolding record_at
returns-then-not-fits c =
    let good = sym c.formed.ensures ∙ not-false _ c.if-not-formed.false-raw in
    let off = sym c.fits.ensures ∙ not-true _ c.if-not-fits.true-raw in
    rw (good, off) c.refuse_record_at-then-not-fits.ensures

pub records_seen-requires : goal.records_seen-requires
records_seen-requires c = (state-told _).fact (sym c.formed.ensures ∙ not-false _ c.if-not-formed.false-raw)

pub record_at-row-requires : goal.record_at-row-requires
record_at-row-requires c = subst (λ (t : RecordTable). Agrees t c.args.store.now) (sym c.records_seen.ensures) ((agrees-told _ _).fact (sym c.fits.ensures ∙ not-false _ c.if-not-fits.false-raw))

pub returns : goal.returns
unfolding record_at
returns c =
    let good = sym c.formed.ensures ∙ not-false _ c.if-not-formed.false-raw in
    let fit = sym c.fits.ensures ∙ not-false _ c.if-not-fits.false-raw in
    rw (good, fit, c.record_at-row.ensures ∙ ap (λ (t : RecordTable). record_held c.args.place t c.args.store.now) c.records_seen.ensures)
