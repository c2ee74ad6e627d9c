-- A state that is not well formed and a store that disagrees are refused; of any other pair the record is asked for the way, and the answer is made of its word.
use mathlib.Core.Path.{sym, ap, ◌∙◌, subst}
use borrow.Author.Tests.{not-true, not-false}
use Rattle.record_table.specs.Table.{RecordTable}
use Rattle.route_table.specs.Table.{rows_of}
use Rattle.relay_store.specs.Store.{Agrees}
use Rattle.relay_store.proofs.Agree.{agrees-told}
use Rattle.route_record.specs.Answer.{way_to}
use Rattle.routing.specs.Records.{route_to}
use Rattle.routing.proofs.State.{state-told}
use Rattle.routing.proofs.Routing.route_to.Goals as goal

pub returns-then-not-formed : goal.returns-then-not-formed
unfolding route_to
returns-then-not-formed c = rw (sym c.formed.ensures ∙ not-true _ c.if-not-formed.true-raw) c.refuse_way.ensures

pub fits-requires : goal.fits-requires
fits-requires c = (state-told _).fact (sym c.formed.ensures ∙ not-false _ c.if-not-formed.false-raw)

pub returns-then-not-fits : goal.returns-then-not-fits
unfolding route_to
returns-then-not-fits c = rw (sym c.formed.ensures ∙ not-false _ c.if-not-formed.false-raw, sym c.fits.ensures ∙ not-true _ c.if-not-fits.true-raw) c.refuse_way-then-not-fits.ensures

pub records_seen-requires : goal.records_seen-requires
records_seen-requires c = (state-told _).fact (sym c.formed.ensures ∙ not-false _ c.if-not-formed.false-raw)

pub way_to-x-requires : goal.way_to-x-requires
way_to-x-requires c = subst (λ (t : RecordTable). Agrees t c.args.store.now) (sym c.records_seen.ensures) ((agrees-told _ _).fact (sym c.fits.ensures ∙ not-false _ c.if-not-fits.false-raw))

pub routes_seen-requires : goal.routes_seen-requires
routes_seen-requires c = (state-told _).fact (sym c.formed.ensures ∙ not-false _ c.if-not-formed.false-raw)

pub returns : goal.returns
unfolding route_to
returns c =
    rw (sym c.formed.ensures ∙ not-false _ c.if-not-formed.false-raw, sym c.fits.ensures ∙ not-false _ c.if-not-fits.false-raw)
    (rw (c.answer_on-answer.ensures, ap rows_of c.routes_seen.ensures, c.way_to-x.ensures ∙ ap (λ (t : RecordTable). way_to c.args.destination c.args.max_source_route t c.args.store.now) c.records_seen.ensures))
