-- A destination that is found has the record at its place; one that is missing has none.
-- Assumes nothing.
use mathlib.Core.Path.{sym, ◌∙◌}
use Rattle.record_table.specs.Lent.{seen_table}
use Rattle.relay_store.proofs.Lent.{seen-together}
use Rattle.route_record.proofs.Looked.{missing-found, found-found}
use Rattle.route_record.proofs.find_record.Goals as goal

pub returns-in_default : goal.returns-in_default
returns-in_default c =
    let a = c.args in
    let t = seen_table a.records.now in
    missing-found t a.store.now (seen-together a.records.now a.store.now c.requires) a.destination _ (sym c.in_default.is ∙ c.place_of-place.ensures) _ c.no_relays.ensures

pub returns : goal.returns
returns c =
    let a = c.args in
    let t = seen_table a.records.now in
    found-found t a.store.now (seen-together a.records.now a.store.now c.requires) a.destination _ (sym c.in-Ok.is ∙ c.place_of-place.ensures) _ c.record_at.ensures
