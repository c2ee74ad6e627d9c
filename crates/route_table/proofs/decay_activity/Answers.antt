-- Every route in use is changed in its place, and none changes its key or its usage count: so the columns hold the rows changed.
use mathlib.Core.Path.{ap, ◌∙◌}
use Rattle.standard.specs.Route.{decayed}
use Rattle.route_table.proofs.Rows.{decayed-key, decayed-usage, decayed-in-range, change-begins, change-turns, change-ends}
use Rattle.route_table.proofs.decay_activity.Goals as goal

pub loop-i-init : goal.loop-i-init
loop-i-init c =
    let a = c.args in
    change-begins decayed decayed-key decayed-usage decayed-in-range a.keys.now a.words.now a.usage.now a.count c.requires

pub loop-i-preserved : goal.loop-i-preserved
loop-i-preserved c =
    let a = c.args in
    let v = c.loop-i in
    change-turns decayed decayed-key decayed-usage decayed-in-range a.keys.now a.words.now a.usage.now a.count c.requires v.words v.i v.invariant c.loop-i-test.true _ (c.decayed_entry-f.ensures ∙ ap decayed c.entry_at-e.ensures) _ c.word_of-w.ensures

pub returns : goal.returns
returns c =
    let a = c.args in
    let v = c.loop-i in
    change-ends decayed decayed-key decayed-usage decayed-in-range a.keys.now a.words.now a.usage.now a.count c.requires v.words v.i v.invariant c.loop-i-test.false
