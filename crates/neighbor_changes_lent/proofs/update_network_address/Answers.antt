-- The place of the address is that of its row, whose network address is stored anew, or says that there is none.
use native.Mathlib.Omega.{arith}
use mathlib.Core.Path.{sym, ◌∙◌}
use Rattle.neighbor_changes.specs.declared.Change.TheVariants.{Address}
use Rattle.neighbor_changes.specs.Change.{applied}
use Rattle.neighbor_columns.specs.Lent.{with_nwks, lent_keys}
use Rattle.neighbor_columns.proofs.Rows.{found-row, missing-row, place-within, unchanged-holds}
use Rattle.neighbor_changes_lent.proofs.Held.{place-below, nwk-held}
use Rattle.neighbor_changes_lent.proofs.update_network_address.Goals as goal

pub place_of-place-requires : goal.place_of-place-requires
place_of-place-requires c = (omega (arith, c.requires.small, c.requires.long.0), c.requires.rising)

pub offset_bounds-nwks-i : goal.offset_bounds-nwks-i
offset_bounds-nwks-i c = omega (arith, c.requires.small, c.requires.long.1.0, place-below c.args.keys.now c.args.count _ _ (omega (arith, c.requires.small, c.requires.long.0)) (sym c.in-Ok.is ∙ c.place_of-place.ensures))

pub bounds-nwks-i : goal.bounds-nwks-i
bounds-nwks-i c = omega (arith, c.requires.small, c.requires.long.1.0, place-below c.args.keys.now c.args.count _ _ (omega (arith, c.requires.small, c.requires.long.0)) (sym c.in-Ok.is ∙ c.place_of-place.ensures))

pub returns-in-Ok : goal.returns-in-Ok
returns-in-Ok c = λ t w. nwk-held (with_nwks c.args.nwks.now (lent_keys c.args.keys.now c.args.count t)) w _ _ (place-within (with_nwks c.args.nwks.now (lent_keys c.args.keys.now c.args.count t)) w.formed _ _ (sym c.in-Ok.is ∙ c.place_of-place.ensures)) (found-row (with_nwks c.args.nwks.now (lent_keys c.args.keys.now c.args.count t)) w.formed _ _ (sym c.in-Ok.is ∙ c.place_of-place.ensures)) c.args.nwk

pub returns-in-Err : goal.returns-in-Err
returns-in-Err c = λ t w. unchanged-holds (with_nwks c.args.nwks.now (lent_keys c.args.keys.now c.args.count t)) w (applied (Address c.args.nwk)) _ (missing-row (with_nwks c.args.nwks.now (lent_keys c.args.keys.now c.args.count t)) w.formed _ _ (sym c.in-Err.is ∙ c.place_of-place.ensures))
