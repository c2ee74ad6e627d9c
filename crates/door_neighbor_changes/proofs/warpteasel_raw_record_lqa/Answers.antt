-- Columns that are not well formed are refused; in any others what the rule leaves is the call's state.
use mathlib.Core.Path.{refl}
use borrow.Author.Tests.{not-true, not-false}
use Rattle.neighbors.specs.State.{well_formed, table_in}
use Rattle.neighbors.proofs.Ready.{words_long}
use Rattle.neighbors.proofs.State.{held_both}
use Rattle.neighbor_calls.specs.Samples.{record_lqa}
use Rattle.door.proofs.Lent.{rule-made}
use Rattle.door_neighbors.specs.Lent.{lent}
use Rattle.door_neighbors.proofs.Lent.{test_of, formed-in}
use Rattle.door_neighbor_changes.proofs.Done.{left}
use Rattle.door_neighbor_changes.proofs.warpteasel_raw_record_lqa.Goals as goal

pub shape_of-links-then-not-columns_formed : goal.shape_of-links-then-not-columns_formed
shape_of-links-then-not-columns_formed c = refl

pub shape_of-senders-then-not-columns_formed : goal.shape_of-senders-then-not-columns_formed
shape_of-senders-then-not-columns_formed c = refl

pub shape_of-samples-then-not-columns_formed : goal.shape_of-samples-then-not-columns_formed
shape_of-samples-then-not-columns_formed c = refl

pub returns-then-not-columns_formed : goal.returns-then-not-columns_formed
unfolding record_lqa
returns-then-not-columns_formed c = left _ c.columns_formed.ensures _ (not-true _ c.if-not-columns_formed.true-raw)

pub record_lqa-requires : goal.record_lqa-requires
record_lqa-requires c =
    let w = formed-in _ _ _ c.columns_formed.ensures (not-false _ c.if-not-columns_formed.false-raw) in
    ((words_long _ w.table.formed).0, (words_long _ w.table.formed).1, w.pending)

pub shape_of-links : goal.shape_of-links
shape_of-links c = c.links-1.given

pub shape_of-senders : goal.shape_of-senders
shape_of-senders c = c.senders-1.given

pub shape_of-samples : goal.shape_of-samples
shape_of-samples c = c.samples-1.given

pub returns : goal.returns
unfolding record_lqa
returns c =
    let a = c.args in
    let s = lent a.keys.now a.nwks.now a.links.now a.counts.now a.deadlines.now a.periods.now a.heard.now a.added.now a.beacons.now a.bytes.now a.count a.senders.now a.samples.now a.waiting.now tt in
    let w = formed-in _ _ _ c.columns_formed.ensures (not-false _ c.if-not-columns_formed.false-raw) in
    rule-made well_formed _ _ (test_of _ _ _ c.columns_formed.ensures (not-false _ c.if-not-columns_formed.false-raw))
    (λ _. held_both _ _ _ _ (c.record_lqa.ensures.0 (table_in s) w.table) (c.record_lqa.ensures.1 (table_in s) w.table.formed))
    (λ _. record { status = refl; places = refl })
