-- The table and the store are together at every turn: the two tests tell it first, then each call.
use mathlib.Core.Path.{refl, sym, ◌∙◌}
use borrow.Author.Tests.{not-false}
use Rattle.record_table.proofs.Lent.{same-on}
use Rattle.record_table.proofs.Rows.{well-formed-told}
use Rattle.relay_store.proofs.Agree.{agrees-told}
use Rattle.speed_records.proofs.records_core.Goals as goal

pub agrees-requires : goal.agrees-requires
agrees-requires c = ((well-formed-told _).fact (sym c.well_formed-2.ensures ∙ not-false _ c.if-not-well_formed.false-raw)).ordered.long.1.0

pub invariant_of-records : goal.invariant_of-records
invariant_of-records c = record { formed = sym c.well_formed-2.ensures ∙ not-false _ c.if-not-well_formed.false-raw }

pub loop-row-init : goal.loop-row-init
loop-row-init c = (record { keys = refl; lengths = refl }, (agrees-told _ _).fact (sym c.agrees.ensures ∙ not-false _ c.if-not-agrees.false-raw))

pub loop-row-preserved : goal.loop-row-preserved
loop-row-preserved c = (same-on _ _ _ c.loop-row.invariant.0 c.record_lent-answer.ensures.0, c.record_lent-answer.ensures.1)
