-- A destination with no record has no way; of one that has a record, the number of relays decides.
-- Assumes nothing.
use native.Mathlib.Omega.{arith}
use mathlib.Core.Path.{sym, ◌∙◌}
use Rattle.record_table.specs.Lent.{seen_table}
use Rattle.relay_store.proofs.Lent.{seen-together}
use Rattle.route_record.proofs.Held.{within, use-few}
use Rattle.route_record.proofs.Looked.{missing-way, found-direct, found-source, found_none}
use Rattle.route_record.proofs.way_to.Goals as goal

pub returns-in_default : goal.returns-in_default
returns-in_default c =
    let a = c.args in
    let t = seen_table a.records.now in
    missing-way t a.store.now (seen-together a.records.now a.store.now c.requires) a.destination a.limit _ _ (sym c.in_default.is ∙ c.place_of-place.ensures) c.no_relays.ensures

pub bounds-records-i : goal.bounds-records-i
bounds-records-i c =
    let a = c.args in
    let t = seen_table a.records.now in
    omega (arith, within t a.store.now (seen-together a.records.now a.store.now c.requires) _ _ (sym c.in-Ok.is ∙ c.place_of-place.ensures), (seen-together a.records.now a.store.now c.requires).formed.ordered.long.1.0)

pub returns-then-n-eq0 : goal.returns-then-n-eq0
returns-then-n-eq0 c =
    let a = c.args in
    let t = seen_table a.records.now in
    found-direct t a.store.now (seen-together a.records.now a.store.now c.requires) a.destination a.limit _ _ (sym c.in-Ok.is ∙ c.place_of-place.ensures) c.if-n-eq0.true c.no_relays-then-n-eq0.ensures

pub relays_at-requires : goal.relays_at-requires
relays_at-requires c =
    let a = c.args in
    let t = seen_table a.records.now in
    (use-few t a.store.now (seen-together a.records.now a.store.now c.requires) _, within t a.store.now (seen-together a.records.now a.store.now c.requires) _ _ (sym c.in-Ok.is ∙ c.place_of-place.ensures), c.requires.places)

pub returns-then-n-limit : goal.returns-then-n-limit
returns-then-n-limit c =
    let a = c.args in
    let t = seen_table a.records.now in
    found-source t a.store.now (seen-together a.records.now a.store.now c.requires) a.destination a.limit _ _ (sym c.in-Ok.is ∙ c.place_of-place.ensures) c.if-n-eq0.false c.if-n-limit.true c.relays_at.ensures

pub returns : goal.returns
returns c =
    let a = c.args in
    let t = seen_table a.records.now in
    found_none t a.store.now (seen-together a.records.now a.store.now c.requires) a.destination a.limit _ _ (sym c.in-Ok.is ∙ c.place_of-place.ensures) c.if-n-eq0.false c.if-n-limit.false c.no_relays-2.ensures
