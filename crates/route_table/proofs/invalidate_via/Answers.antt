-- Every route in use is changed in its place, and none changes its key or its usage count: so the columns hold the rows changed.
use mathlib.Core.Path.{ap, ◌∙◌}
use Rattle.standard.specs.Route.{unlinked}
use Rattle.route_table.proofs.Rows.{unlinked-key, unlinked-usage, unlinked-in-range, change-begins, change-turns, change-ends}
use Rattle.route_table.proofs.invalidate_via.Goals as goal

pub loop-i-init : goal.loop-i-init
loop-i-init c =
    let a = c.args in
    change-begins (unlinked a.hop) (unlinked-key a.hop) (unlinked-usage a.hop) (unlinked-in-range a.hop) a.keys.now a.words.now a.usage.now a.count c.requires

pub loop-i-preserved : goal.loop-i-preserved
loop-i-preserved c =
    let a = c.args in
    let v = c.loop-i in
    change-turns (unlinked a.hop) (unlinked-key a.hop) (unlinked-usage a.hop) (unlinked-in-range a.hop) a.keys.now a.words.now a.usage.now a.count c.requires v.words v.i v.invariant c.loop-i-test.true _ (c.unlinked_entry-f.ensures ∙ ap (unlinked a.hop) c.entry_at-e.ensures) _ c.word_of-w.ensures

pub returns : goal.returns
returns c =
    let a = c.args in
    let v = c.loop-i in
    change-ends (unlinked a.hop) (unlinked-key a.hop) (unlinked-usage a.hop) (unlinked-in-range a.hop) a.keys.now a.words.now a.usage.now a.count c.requires v.words v.i v.invariant c.loop-i-test.false
