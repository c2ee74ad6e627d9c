-- Where the child stands, its words, deadline and period are stored anew; where there is none, or the sum is past the end, nothing is.
use Rattle.std.specs.Prelude.{Option, ℕ}
use native.Mathlib.Omega.{arith}
use mathlib.Core.Path.{sym, ap, ◌∙◌}
use Rattle.types.specs.Clock.{time_sum}
use Rattle.neighbor_columns.specs.Table.{rows_of}
use Rattle.neighbor_columns.specs.Lent.{with_nwks, with_links, with_counts, with_deadlines, with_periods, with_count}
use Rattle.children_lent.specs.Rules.{set_answer, retimed}
use Rattle.children_lent.proofs.Timeouts.{set_told, set-unknown, set-held, same-holds}
use Rattle.children_lent.proofs.set_child_timeout.Goals as goal

pub place_of_child-i-requires : goal.place_of_child-i-requires
place_of_child-i-requires c = (omega (arith, c.requires.0.0, c.requires.1), omega (arith, c.requires.0.1.0, c.requires.1))

pub returns-then-count-i : goal.returns-then-count-i
returns-then-count-i c = (
  λ t f. sym (ap (set_answer (time_sum c.args.now_ms c.args.timeout)
      ) (c.place_of_child-i.ensures.nowhere c.if-count-i.true t f)),
  λ t w. set-unknown (with_nwks c.args.nwks.now (with_links c.args.links.now (with_count c.args.count (with_counts c.args.counts.now (with_deadlines c.args.deadlines.now (with_periods c.args.periods.now t)))))) w c.args.nwk c.args.timeout c.args.configuration (c.place_of_child-i.ensures.nowhere c.if-count-i.true (with_counts c.args.counts.now (with_deadlines c.args.deadlines.now (with_periods c.args.periods.now t))) w.formed) (time_sum c.args.now_ms c.args.timeout),
)

pub offset_bounds-links-i : goal.offset_bounds-links-i
offset_bounds-links-i c = omega (arith, c.requires.0.1.0, c.requires.1, c.if-count-i.false)

pub bounds-links-i : goal.bounds-links-i
bounds-links-i c = omega (arith, c.requires.0.1.0, c.requires.1, c.if-count-i.false)

pub offset_bounds-links-i-in-Some : goal.offset_bounds-links-i-in-Some
offset_bounds-links-i-in-Some c = omega (arith, c.requires.0.1.0, c.requires.1, c.if-count-i.false)

pub bounds-links-i-in-Some : goal.bounds-links-i-in-Some
bounds-links-i-in-Some c = omega (arith, c.requires.0.1.0, c.requires.1, c.if-count-i.false)

pub offset_bounds-counts-i : goal.offset_bounds-counts-i
offset_bounds-counts-i c = omega (arith, c.requires.0.1.1.0, c.requires.1, c.if-count-i.false)

pub bounds-counts-i : goal.bounds-counts-i
bounds-counts-i c = omega (arith, c.requires.0.1.1.0, c.requires.1, c.if-count-i.false)

pub offset_bounds-counts-i-in-Some : goal.offset_bounds-counts-i-in-Some
offset_bounds-counts-i-in-Some c = omega (arith, c.requires.0.1.1.0, c.requires.1, c.if-count-i.false)

pub bounds-counts-i-in-Some : goal.bounds-counts-i-in-Some
bounds-counts-i-in-Some c = omega (arith, c.requires.0.1.1.0, c.requires.1, c.if-count-i.false)

pub offset_bounds-deadlines-i : goal.offset_bounds-deadlines-i
offset_bounds-deadlines-i c = omega (arith, c.requires.0.1.1.1.0, c.requires.1, c.if-count-i.false)

pub bounds-deadlines-i : goal.bounds-deadlines-i
bounds-deadlines-i c = omega (arith, c.requires.0.1.1.1.0, c.requires.1, c.if-count-i.false)

pub offset_bounds-periods-i : goal.offset_bounds-periods-i
offset_bounds-periods-i c = omega (arith, c.requires.0.1.1.1.1.0, c.requires.1, c.if-count-i.false)

pub bounds-periods-i : goal.bounds-periods-i
bounds-periods-i c = omega (arith, c.requires.0.1.1.1.1.0, c.requires.1, c.if-count-i.false)

pub returns-in-Some : goal.returns-in-Some
returns-in-Some c = (λ t f. set_told _ _ (c.place_of_child-i.ensures.there (omega (arith, c.if-count-i.false)) t f) _ _ (sym c.in-Some.is ∙ c.time_sum-sum.ensures), λ t w. set-held (with_nwks c.args.nwks.now (with_links c.args.links.now (with_count c.args.count (with_counts c.args.counts.now (with_deadlines c.args.deadlines.now (with_periods c.args.periods.now t)))))) w _ (omega (arith, c.if-count-i.false)) c.args.nwk c.args.timeout c.args.configuration (c.place_of_child-i.ensures.there (omega (arith, c.if-count-i.false)) (with_counts c.args.counts.now (with_deadlines c.args.deadlines.now (with_periods c.args.periods.now t))) w.formed) _ _ _ c.kept_link.ensures.0 c.kept_link.ensures.1 c.configured_word.ensures _ (sym c.in-Some.is ∙ c.time_sum-sum.ensures))

pub returns-in-None : goal.returns-in-None
returns-in-None c = (λ t f. set_told _ _ (c.place_of_child-i.ensures.there (omega (arith, c.if-count-i.false)) t f) _ _ (sym c.in-None.is ∙ c.time_sum-sum.ensures), λ t w. same-holds (with_nwks c.args.nwks.now (with_links c.args.links.now (with_count c.args.count (with_counts c.args.counts.now (with_deadlines c.args.deadlines.now (with_periods c.args.periods.now t)))))) w _ (ap (λ (s : Option ℕ). retimed c.args.nwk c.args.timeout c.args.configuration s (rows_of (with_nwks c.args.nwks.now (with_links c.args.links.now (with_count c.args.count (with_counts c.args.counts.now (with_deadlines c.args.deadlines.now (with_periods c.args.periods.now t)))))))) (sym c.in-None.is ∙ c.time_sum-sum.ensures)))
