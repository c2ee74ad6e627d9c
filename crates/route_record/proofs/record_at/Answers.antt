-- A place in use has the record of its entry and its row; from the count on there is none.
-- Assumes nothing.
use native.Mathlib.Omega.{arith}
use mathlib.Core.Path.{ap, ◌∙◌}
use mathlib.Core.List.{map}
use lib.ListN.{take}
use Rattle.standard.specs.declared.RecordEntry.{RecordEntry}
use Rattle.standard.specs.Route.{nwk}
use Rattle.record_table.specs.Lent.{seen_table}
use Rattle.relay_store.proofs.Lent.{seen-together}
use Rattle.relay_store.specs.Store.{row_at, relay_list}
use Rattle.route_record.proofs.Held.{use-within, use-few}
use Rattle.route_record.proofs.Looked.{past_row, there-row}
use Rattle.route_record.proofs.record_at.Goals as goal

pub returns-then-records-i : goal.returns-then-records-i
returns-then-records-i c =
    let a = c.args in
    let t = seen_table a.records.now in
    past_row t a.store.now (seen-together a.records.now a.store.now c.requires) a.i (omega arith) _ c.no_relays.ensures

pub entry_at-e-requires : goal.entry_at-e-requires
entry_at-e-requires c =
    let a = c.args in
    let t = seen_table a.records.now in
    use-within t a.store.now (seen-together a.records.now a.store.now c.requires) a.i (omega arith)

pub overflow_cast-e : goal.overflow_cast-e
overflow_cast-e c = omega (arith)

pub relays_at-relays-requires : goal.relays_at-relays-requires
relays_at-relays-requires c =
    let a = c.args in
    let t = seen_table a.records.now in
    let count = ap (λ (e : RecordEntry). e.relay_count) c.entry_at-e.ensures in
    (omega (arith, count, use-few t a.store.now (seen-together a.records.now a.store.now c.requires) a.i), use-within t a.store.now (seen-together a.records.now a.store.now c.requires) a.i (omega arith), c.requires.places)

pub returns : goal.returns
returns c =
    let a = c.args in
    let t = seen_table a.records.now in
    rw c.entry_at-e.ensures (there-row t a.store.now (seen-together a.records.now a.store.now c.requires) a.i (omega arith) _ (c.relays_at-relays.ensures ∙ ap (λ (e : RecordEntry). relay_list (map nwk (take e.relay_count (row_at a.i a.store.now)))) c.entry_at-e.ensures))
