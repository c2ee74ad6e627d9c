-- Where no child goes nothing is done, and all rows stay; else the pass over the rows leaves what the rule says.
use mathlib.Core.Path.{refl, sym, ◌∙◌}
use Rattle.neighbor_columns.specs.Table.{in_columns}
use Rattle.children_evict_lent.proofs.Sweep.{none-goes}
use Rattle.children_evict_lent.proofs.drop_late.Goals as goal

pub returns-then-gone-eq0 : goal.returns-then-gone-eq0
returns-then-gone-eq0 c =
    let a = c.args in
    let t = in_columns a.keys.now a.nwks.now a.links.now a.counts.now a.deadlines.now a.periods.now a.heard.now a.added.now a.beacons.now a.bytes.now a.count in
    none-goes t c.requires.formed a.now_ms _ refl (sym c.requires.told ∙ c.if-gone-eq0.true)
