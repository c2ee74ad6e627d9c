-- The sum decides: the child is stored with the deadline that it gives, or refused.
use mathlib.Core.Path.{sym, ◌∙◌}
use Rattle.neighbor_columns.specs.Table.{in_columns}
use Rattle.children_moves_lent.proofs.Moves.{as-summed, past_end}
use Rattle.children_moves_lent.proofs.upsert_child.Goals as goal

pub place-requires : goal.place-requires
place-requires c = c.requires

pub returns-in-Some : goal.returns-in-Some
returns-in-Some c = let a = c.args in let t = in_columns a.keys.now a.nwks.now a.links.now a.counts.now a.deadlines.now a.periods.now a.heard.now a.added.now a.beacons.now a.bytes.now a.count in as-summed t a.child a.now_ms _ _ (sym c.in-Some.is ∙ c.time_sum-sum.ensures) _ _ c.place.ensures

pub returns-in-None : goal.returns-in-None
returns-in-None c = let a = c.args in let t = in_columns a.keys.now a.nwks.now a.links.now a.counts.now a.deadlines.now a.periods.now a.heard.now a.added.now a.beacons.now a.bytes.now a.count in past_end t c.requires a.child a.now_ms _ (sym c.in-None.is ∙ c.time_sum-sum.ensures)
