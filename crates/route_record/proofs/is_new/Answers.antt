-- An address that has a record is not new; of one that has none, the relays before it decide.
-- Assumes nothing.
use mathlib.Core.Path.{sym, ◌∙◌}
use lib.ListN.{take}
use Rattle.record_table.specs.Lent.{seen_table}
use Rattle.record_table.proofs.Lent.{seen-formed}
use Rattle.record_table.proofs.Rows.{found-row, missing-row}
use Rattle.relay_store.specs.Store.{relays_of}
use Rattle.route_record.proofs.Room.{known-told, missing-told}
use Rattle.route_record.proofs.is_new.Goals as goal

pub returns-in-Ok : goal.returns-in-Ok
returns-in-Ok c =
    let a = c.args in
    let t = seen_table a.records.now in
    known-told t a.a (take a.before (relays_of a.relays)) (found-row t (seen-formed a.records.now) a.a.0 _ (sym c.in-Ok.is ∙ c.place_of-place.ensures))

pub returns-in-Err : goal.returns-in-Err
returns-in-Err c =
    let a = c.args in
    let t = seen_table a.records.now in
    rw c.is_among.ensures (missing-told t a.a (take a.before (relays_of a.relays)) (missing-row t (seen-formed a.records.now) a.a.0 _ (sym c.in-Err.is ∙ c.place_of-place.ensures)))
