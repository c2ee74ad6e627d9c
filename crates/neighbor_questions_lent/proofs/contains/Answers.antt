-- The address is found where a row has it.
use native.Mathlib.Omega.{arith}
use mathlib.Core.Path.{sym, ap, ◌∙◌}
use Rattle.standard.specs.Query.{is_there}
use Rattle.neighbor_columns.specs.Lent.{lent_keys}
use Rattle.neighbor_columns.proofs.Rows.{found-row, missing-row}
use Rattle.neighbor_questions_lent.proofs.contains.Goals as goal

pub place_of-place-requires : goal.place_of-place-requires
place_of-place-requires c = (omega (arith, c.requires.small, c.requires.long.0), c.requires.rising)

pub returns-in-Ok : goal.returns-in-Ok
returns-in-Ok c =
    let on = lent_keys c.args.keys.now c.args.count in
    λ t f. ap is_there (sym (found-row (on t) f c.args.eui64.0 c.in-Ok.field-0 (sym c.in-Ok.is ∙ c.place_of-place.ensures)))

pub returns-in-Err : goal.returns-in-Err
returns-in-Err c =
    let on = lent_keys c.args.keys.now c.args.count in
    λ t f. ap is_there (sym (missing-row (on t) f c.args.eui64.0 c.in-Err.field-0 (sym c.in-Err.is ∙ c.place_of-place.ensures)))
