-- The place of the address says which samples stand under it, or that there are none.
use Rattle.std.specs.Prelude.{Some}
use mathlib.Core.Path.{sym, ap, ◌∙◌}
use Rattle.waiting_columns.specs.Table.{in_columns}
use Rattle.waiting_columns.proofs.Rows.{in-columns, place-within, found-row, missing-row}
use Rattle.waiting_columns.proofs.find.Goals as goal

pub entry_at-requires : goal.entry_at-requires
entry_at-requires c =
    let a = c.args in
    let t = in_columns a.keys.now a.samples.now a.count in
    in-columns t c.requires _ (place-within t c.requires _ _ (sym c.in-Ok.is ∙ c.place_of-place.ensures))

pub returns-in-Ok : goal.returns-in-Ok
returns-in-Ok c =
    let a = c.args in
    let t = in_columns a.keys.now a.samples.now a.count in
    ap Some c.entry_at.ensures ∙ sym (found-row t c.requires _ _ (sym c.in-Ok.is ∙ c.place_of-place.ensures))

pub returns-in-Err : goal.returns-in-Err
returns-in-Err c =
    let a = c.args in
    let t = in_columns a.keys.now a.samples.now a.count in
    sym (missing-row t c.requires _ _ (sym c.in-Err.is ∙ c.place_of-place.ensures))
