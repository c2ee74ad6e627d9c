-- Where the device stands, its deadline and its link word are stored anew; where it is not known, or the sum is past the end, nothing is.
use Rattle.std.specs.Prelude.{Option}
use native.Mathlib.Omega.{arith}
use mathlib.Core.Path.{sym, ap, ◌∙◌}
use Rattle.neighbor_table.specs.declared.NeighborEntry.{NeighborEntry}
use Rattle.neighbor_columns.specs.Table.{rows_of}
use Rattle.neighbor_columns.specs.Lent.{lent_keys, with_nwks, with_links, with_deadlines, with_periods}
use Rattle.children_lent.specs.Rules.{refresh_answer, refreshed}
use Rattle.children_lent.proofs.Timeouts.{refresh-told, refresh-rows, refresh-held, same-holds}
use Rattle.children_lent.proofs.refresh_child_timeout.Goals as goal

pub place_known-i-requires : goal.place_known-i-requires
place_known-i-requires c = record { long = (c.requires.long.0, (c.requires.long.1.0, tt)); small = c.requires.small; rising = c.requires.rising; zeros = (c.requires.zeros.0, (c.requires.zeros.1.0, tt)) }

pub returns-then-count-i : goal.returns-then-count-i
returns-then-count-i c = (λ t f. sym (ap (refresh_answer c.args.now_ms) (c.place_known-i.ensures.nowhere c.if-count-i.true (with_periods c.args.periods.now t) f)), λ t w. same-holds (with_nwks c.args.nwks.now (lent_keys c.args.keys.now c.args.count (with_links c.args.links.now (with_deadlines c.args.deadlines.now (with_periods c.args.periods.now t))))) w _ (sym (ap (λ (o : Option NeighborEntry). refreshed c.args.now_ms o (rows_of (with_nwks c.args.nwks.now (lent_keys c.args.keys.now c.args.count (with_links c.args.links.now (with_deadlines c.args.deadlines.now (with_periods c.args.periods.now t))))))) (c.place_known-i.ensures.nowhere c.if-count-i.true (with_links c.args.links.now (with_deadlines c.args.deadlines.now (with_periods c.args.periods.now t))) w.formed))))

pub offset_bounds-periods-i : goal.offset_bounds-periods-i
offset_bounds-periods-i c = omega (arith, c.requires.small, c.requires.long.1.1.1.1.0, c.if-count-i.false)

pub bounds-periods-i : goal.bounds-periods-i
bounds-periods-i c = omega (arith, c.requires.small, c.requires.long.1.1.1.1.0, c.if-count-i.false)

pub offset_bounds-links-i : goal.offset_bounds-links-i
offset_bounds-links-i c = omega (arith, c.requires.small, c.requires.long.1.1.0, c.if-count-i.false)

pub bounds-links-i : goal.bounds-links-i
bounds-links-i c = omega (arith, c.requires.small, c.requires.long.1.1.0, c.if-count-i.false)

pub offset_bounds-links-i-in-Some : goal.offset_bounds-links-i-in-Some
offset_bounds-links-i-in-Some c = omega (arith, c.requires.small, c.requires.long.1.1.0, c.if-count-i.false)

pub bounds-links-i-in-Some : goal.bounds-links-i-in-Some
bounds-links-i-in-Some c = omega (arith, c.requires.small, c.requires.long.1.1.0, c.if-count-i.false)

pub offset_bounds-deadlines-i : goal.offset_bounds-deadlines-i
offset_bounds-deadlines-i c = omega (arith, c.requires.small, c.requires.long.1.1.1.0, c.if-count-i.false)

pub bounds-deadlines-i : goal.bounds-deadlines-i
bounds-deadlines-i c = omega (arith, c.requires.small, c.requires.long.1.1.1.0, c.if-count-i.false)

pub returns-in-Some : goal.returns-in-Some
returns-in-Some c = (λ t f. refresh-told (with_nwks c.args.nwks.now (lent_keys c.args.keys.now c.args.count (with_periods c.args.periods.now t))) _ _ c.args.now_ms _ (c.place_known-i.ensures.there (omega (arith, c.if-count-i.false)) (with_periods c.args.periods.now t) f) (sym c.in-Some.is ∙ c.time_sum-sum.ensures), λ t w. refresh-held (with_nwks c.args.nwks.now (lent_keys c.args.keys.now c.args.count (with_links c.args.links.now (with_deadlines c.args.deadlines.now (with_periods c.args.periods.now t))))) w _ (omega (arith, c.if-count-i.false)) _ _ c.kept_link.ensures.0 c.kept_link.ensures.1 _ c.args.now_ms (c.place_known-i.ensures.there (omega (arith, c.if-count-i.false)) (with_links c.args.links.now (with_deadlines c.args.deadlines.now (with_periods c.args.periods.now t))) w.formed) (sym c.in-Some.is ∙ c.time_sum-sum.ensures))

pub returns-in-None : goal.returns-in-None
returns-in-None c = (λ t f. refresh-told (with_nwks c.args.nwks.now (lent_keys c.args.keys.now c.args.count (with_periods c.args.periods.now t))) _ _ c.args.now_ms _ (c.place_known-i.ensures.there (omega (arith, c.if-count-i.false)) (with_periods c.args.periods.now t) f) (sym c.in-None.is ∙ c.time_sum-sum.ensures), λ t w. same-holds (with_nwks c.args.nwks.now (lent_keys c.args.keys.now c.args.count (with_links c.args.links.now (with_deadlines c.args.deadlines.now (with_periods c.args.periods.now t))))) w _ (refresh-rows (with_nwks c.args.nwks.now (lent_keys c.args.keys.now c.args.count (with_links c.args.links.now (with_deadlines c.args.deadlines.now (with_periods c.args.periods.now t))))) _ _ c.args.now_ms _ (c.place_known-i.ensures.there (omega (arith, c.if-count-i.false)) (with_links c.args.links.now (with_deadlines c.args.deadlines.now (with_periods c.args.periods.now t))) w.formed) (sym c.in-None.is ∙ c.time_sum-sum.ensures) (rows_of (with_nwks c.args.nwks.now (lent_keys c.args.keys.now c.args.count (with_links c.args.links.now (with_deadlines c.args.deadlines.now (with_periods c.args.periods.now t))))))))
