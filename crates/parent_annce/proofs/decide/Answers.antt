-- The word in the place of the address decides; where the address is missing there is nothing.
use native.Mathlib.Omega.{arith}
use mathlib.Core.Path.{sym, ap, ◌∙◌}
use Rattle.neighbor_changes_lent.proofs.Held.{place-below}
use Rattle.parent_annce.specs.Rules.{verdict_at}
use Rattle.parent_annce.proofs.decide.Goals as goal

pub place_of-place-requires : goal.place_of-place-requires
place_of-place-requires c =
    (omega (arith, c.requires.small, c.requires.long.0), c.requires.rising)

pub offset_bounds-links-i : goal.offset_bounds-links-i
offset_bounds-links-i c =
    omega (arith, c.requires.small, c.requires.long.1.0, place-below c.args.keys.now c.args.count _ _ (omega (arith, c.requires.small, c.requires.long.0)) (sym c.in-Ok.is ∙ c.place_of-place.ensures))

pub bounds-links-i : goal.bounds-links-i
bounds-links-i c =
    omega (arith, c.requires.small, c.requires.long.1.0, place-below c.args.keys.now c.args.count _ _ (omega (arith, c.requires.small, c.requires.long.0)) (sym c.in-Ok.is ∙ c.place_of-place.ensures))

pub returns-in-Ok : goal.returns-in-Ok
returns-in-Ok c =
    let a = c.args in
    c.judge.ensures ∙ ap (verdict_at a.confirm a.links.now) (sym c.in-Ok.is ∙ c.place_of-place.ensures)

pub returns-in-Err : goal.returns-in-Err
returns-in-Err c =
    let a = c.args in
    ap (verdict_at a.confirm a.links.now) (sym c.in-Err.is ∙ c.place_of-place.ensures)
