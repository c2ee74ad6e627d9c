-- A state that is not well formed and a store that disagrees are refused; in any other the columns that the call leaves are put back, and they and the store are those of its records.
-- Assumes nothing.
use Rattle.std.specs.Prelude.{Ok}
use mathlib.Core.Path.{sym, ◌∙◌}
use borrow.Author.Tests.{not-true, not-false}
use Rattle.record_table.proofs.Lent.{told}
use Rattle.relay_store.proofs.Agree.{agrees-told}
use Rattle.route_record.specs.Answer.{removed_step}
use Rattle.routing.specs.Records.{remove_route_record, store_after_removal}
use Rattle.routing.proofs.State.{state-told, held-records}
use Rattle.routing.proofs.Routing.remove_route_record.Goals as goal

pub returns-then-not-formed : goal.returns-then-not-formed
unfolding remove_route_record store_after_removal
returns-then-not-formed c =
    let ill = sym c.formed.ensures ∙ not-true _ c.if-not-formed.true-raw in
    record { value = rw ill c.refuse_told.ensures; store_after = rw ill }

pub fits-requires : goal.fits-requires
fits-requires c = (state-told _).fact (sym c.formed.ensures ∙ not-false _ c.if-not-formed.false-raw)

pub returns-then-not-fits : goal.returns-then-not-fits
unfolding remove_route_record store_after_removal
returns-then-not-fits c =
    let good = sym c.formed.ensures ∙ not-false _ c.if-not-formed.false-raw in
    let off = sym c.fits.ensures ∙ not-true _ c.if-not-fits.true-raw in
    record { value = rw (good, off) c.refuse_told-then-not-fits.ensures; store_after = rw (good, off) }

pub invariant_of-records : goal.invariant_of-records
invariant_of-records c = record { formed = told _ ((state-told _).fact (sym c.formed.ensures ∙ not-false _ c.if-not-formed.false-raw)).records }

pub remove_record-removed-requires : goal.remove_record-removed-requires
remove_record-removed-requires c = (agrees-told _ _).fact (sym c.fits.ensures ∙ not-false _ c.if-not-fits.false-raw)

pub returns : goal.returns
unfolding remove_route_record store_after_removal removed_step
returns c =
    let good = sym c.formed.ensures ∙ not-false _ c.if-not-formed.false-raw in
    let fit = sym c.fits.ensures ∙ not-false _ c.if-not-fits.false-raw in
    let held = held-records c.args.self _ _ _ c.remove_record-removed.ensures.removed.holds in
    record { value = rw (good, fit) (λ z. record { answer = Ok (c.remove_record-removed.ensures.removed.answers z); state = held.0 z }); store_after = rw (good, fit) held.1 }
