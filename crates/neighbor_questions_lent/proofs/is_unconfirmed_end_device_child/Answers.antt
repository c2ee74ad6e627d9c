-- The link word of the row says it.
use native.Mathlib.Omega.{arith}
use mathlib.Core.Path.{sym, ap, ◌∙◌}
use Rattle.neighbor_columns.specs.Codec.{neighbor_from}
use Rattle.neighbor_columns.specs.Lent.{lent_links}
use Rattle.neighbor_columns.proofs.Rows.{found-row, missing-row}
use Rattle.neighbor_questions_lent.proofs.Places.{found-in-use}
use Rattle.neighbor_queries.specs.Answers.{is_unconfirmed}
use Rattle.neighbor_queries.specs.Filter.{fits}
use Rattle.neighbor_questions_lent.proofs.is_unconfirmed_end_device_child.Goals as goal

pub place_of-place-requires : goal.place_of-place-requires
place_of-place-requires c =
    (omega (arith, c.requires.small, c.requires.long.0), c.requires.rising)

pub offset_bounds-links-i : goal.offset_bounds-links-i
offset_bounds-links-i c =
    omega (arith, c.requires.small, c.requires.long.1.0, found-in-use c.args.keys.now c.args.count c.args.eui64.0 c.in-Ok.i (omega (arith, c.requires.small, c.requires.long.0)) (sym c.in-Ok.is ∙ c.place_of-place.ensures))

pub bounds-links-i : goal.bounds-links-i
bounds-links-i c =
    omega (arith, c.requires.small, c.requires.long.1.0, found-in-use c.args.keys.now c.args.count c.args.eui64.0 c.in-Ok.i (omega (arith, c.requires.small, c.requires.long.0)) (sym c.in-Ok.is ∙ c.place_of-place.ensures))

pub offset_bounds-links-i-in-Ok : goal.offset_bounds-links-i-in-Ok
offset_bounds-links-i-in-Ok c =
    omega (arith, c.requires.small, c.requires.long.1.0, found-in-use c.args.keys.now c.args.count c.args.eui64.0 c.in-Ok.i (omega (arith, c.requires.small, c.requires.long.0)) (sym c.in-Ok.is ∙ c.place_of-place.ensures))

pub bounds-links-i-in-Ok : goal.bounds-links-i-in-Ok
bounds-links-i-in-Ok c =
    omega (arith, c.requires.small, c.requires.long.1.0, found-in-use c.args.keys.now c.args.count c.args.eui64.0 c.in-Ok.i (omega (arith, c.requires.small, c.requires.long.0)) (sym c.in-Ok.is ∙ c.place_of-place.ensures))

pub returns-in-Ok : goal.returns-in-Ok
unfolding neighbor_from fits
returns-in-Ok c =
    let on = lent_links c.args.keys.now c.args.links.now c.args.count in
    λ t f. rw (c.link_of-part.ensures, c.fits_word-child.ensures 0 0 0 0 0 0 0 0) (ap is_unconfirmed (sym (found-row (on t) f c.args.eui64.0 c.in-Ok.i (sym c.in-Ok.is ∙ c.place_of-place.ensures))))

pub returns-in-Err : goal.returns-in-Err
returns-in-Err c =
    let on = lent_links c.args.keys.now c.args.links.now c.args.count in
    λ t f. ap is_unconfirmed (sym (missing-row (on t) f c.args.eui64.0 c.in-Err.field-0 (sym c.in-Err.is ∙ c.place_of-place.ensures)))
