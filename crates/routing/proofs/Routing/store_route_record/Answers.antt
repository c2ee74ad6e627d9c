-- A state that is not well formed, a store that disagrees and a list too long are refused; in any other the columns that the call leaves and the
-- store are those of its records.
use mathlib.Core.Path.{sym, ◌∙◌}
use borrow.Author.Tests.{not-true, not-false, lt-ltb, le-ltb}
use Rattle.record_table.proofs.Lent.{told}
use Rattle.relay_store.proofs.Agree.{agrees-told}
use Rattle.routing.specs.Records.{store_route_record, store_after_record}
use Rattle.routing.proofs.State.{state-told, held-records}
use Rattle.routing.proofs.Routing.store_route_record.Goals as goal

pub returns-then-not-formed : goal.returns-then-not-formed
unfolding store_route_record store_after_record
returns-then-not-formed c =
    let ill = sym c.formed.ensures ∙ not-true _ c.if-not-formed.true-raw in
    record { value = rw ill c.refuse_record.ensures; store_after = rw ill }

pub fits-requires : goal.fits-requires
fits-requires c = (state-told _).fact (sym c.formed.ensures ∙ not-false _ c.if-not-formed.false-raw)

pub returns-then-not-fits : goal.returns-then-not-fits
unfolding store_route_record store_after_record
returns-then-not-fits c =
    let good = sym c.formed.ensures ∙ not-false _ c.if-not-formed.false-raw in
    let off = sym c.fits.ensures ∙ not-true _ c.if-not-fits.true-raw in
    record { value = rw (good, off) c.refuse_record-then-not-fits.ensures; store_after = rw (good, off) }

pub returns-then-relays-gt32 : goal.returns-then-relays-gt32
unfolding store_route_record store_after_record
returns-then-relays-gt32 c =
    let good = sym c.formed.ensures ∙ not-false _ c.if-not-formed.false-raw in
    let fit = sym c.fits.ensures ∙ not-false _ c.if-not-fits.false-raw in
    let long = lt-ltb 32 c.args.relays.count c.if-relays-gt32.true in
    record { value = rw (good, fit, long) c.refuse_record-then-relays-gt32.ensures; store_after = rw (good, fit, long) }

pub invariant_of-records : goal.invariant_of-records
invariant_of-records c = record { formed = told _ ((state-told _).fact (sym c.formed.ensures ∙ not-false _ c.if-not-formed.false-raw)).records }

pub store_record-answer-requires : goal.store_record-answer-requires
store_record-answer-requires c = ((agrees-told _ _).fact (sym c.fits.ensures ∙ not-false _ c.if-not-fits.false-raw), c.if-relays-gt32.false)

pub returns : goal.returns
unfolding store_route_record store_after_record
returns c =
    let good = sym c.formed.ensures ∙ not-false _ c.if-not-formed.false-raw in
    let fit = sym c.fits.ensures ∙ not-false _ c.if-not-fits.false-raw in
    let few = le-ltb 32 c.args.relays.count c.if-relays-gt32.false in
    let x = c.store_record-answer.ensures.stored in
    let held = held-records c.args.self _ _ _ x.holds in
    record { value = rw (good, fit, few) (λ z. record { answer = x.answers z; state = held.0 z }); store_after = rw (good, fit, few) held.1 }
