-- The place of the address is that of its row, whose counts word is stored anew, or says that there is none.
use native.Mathlib.Omega.{arith}
use mathlib.Core.Path.{sym, ◌∙◌}
use Rattle.neighbor_changes.specs.Change.{applied}
use Rattle.neighbor_changes_lent.specs.Counts.{change_of}
use Rattle.neighbor_columns.specs.Lent.{lent_counts}
use Rattle.neighbor_columns.proofs.Rows.{found-row, missing-row, place-within, unchanged-holds}
use Rattle.neighbor_changes_lent.proofs.Held.{place-below, counts-held}
use Rattle.neighbor_changes_lent.proofs.count_at.Goals as goal

pub place_of-place-requires : goal.place_of-place-requires
place_of-place-requires c = (omega (arith, c.requires.small, c.requires.long.0), c.requires.rising)

pub offset_bounds-counts-i : goal.offset_bounds-counts-i
offset_bounds-counts-i c = omega (arith, c.requires.small, c.requires.long.1.0, place-below c.args.keys.now c.args.count _ _ (omega (arith, c.requires.small, c.requires.long.0)) (sym c.in-Ok.is ∙ c.place_of-place.ensures))

pub bounds-counts-i : goal.bounds-counts-i
bounds-counts-i c = omega (arith, c.requires.small, c.requires.long.1.0, place-below c.args.keys.now c.args.count _ _ (omega (arith, c.requires.small, c.requires.long.0)) (sym c.in-Ok.is ∙ c.place_of-place.ensures))

pub offset_bounds-counts-i-in-Ok : goal.offset_bounds-counts-i-in-Ok
offset_bounds-counts-i-in-Ok c = omega (arith, c.requires.small, c.requires.long.1.0, place-below c.args.keys.now c.args.count _ _ (omega (arith, c.requires.small, c.requires.long.0)) (sym c.in-Ok.is ∙ c.place_of-place.ensures))

pub bounds-counts-i-in-Ok : goal.bounds-counts-i-in-Ok
bounds-counts-i-in-Ok c = omega (arith, c.requires.small, c.requires.long.1.0, place-below c.args.keys.now c.args.count _ _ (omega (arith, c.requires.small, c.requires.long.0)) (sym c.in-Ok.is ∙ c.place_of-place.ensures))

pub returns-in-Ok : goal.returns-in-Ok
returns-in-Ok c = λ t w. counts-held (lent_counts c.args.keys.now c.args.counts.now c.args.count t) w _ _ (place-within (lent_counts c.args.keys.now c.args.counts.now c.args.count t) w.formed _ _ (sym c.in-Ok.is ∙ c.place_of-place.ensures)) (found-row (lent_counts c.args.keys.now c.args.counts.now c.args.count t) w.formed _ _ (sym c.in-Ok.is ∙ c.place_of-place.ensures)) c.args.counter _ c.one_more.ensures

pub returns-in-Err : goal.returns-in-Err
returns-in-Err c = λ t w. unchanged-holds (lent_counts c.args.keys.now c.args.counts.now c.args.count t) w (applied (change_of c.args.counter)) _ (missing-row (lent_counts c.args.keys.now c.args.counts.now c.args.count t) w.formed _ _ (sym c.in-Err.is ∙ c.place_of-place.ensures))
