-- A place that is missing differs; of one that is found, the relays in its row are compared.
-- Assumes nothing.
use Rattle.std.specs.Prelude.{Result}
use Prim.Native.Nat.{ℕ, ◌<◌}
use native.Mathlib.Omega.{arith}
use mathlib.Core.Bool.{not}
use mathlib.Core.List.{List, map}
use mathlib.Core.Path.{◌≡◌, sym, ap, ◌∙◌, subst}
use lib.ListN.{length, take, get_or}
use Rattle.standard.specs.Records.{same_relays}
use Rattle.standard.specs.Route.{nwk}
use Rattle.record_table.specs.declared.RecordsSeen.{RecordsSeen}
use Rattle.record_table.proofs.Lent.{seen-formed}
use Rattle.relay_store.specs.Store.{relays_of, PlaceWithin}
use Rattle.relay_store.proofs.Rows.{part-row}
use Rattle.route_record.specs.Answer.{other_at_of}
use Rattle.route_record.proofs.differs.Goals as goal
use Rattle.route_record.proofs.differs.Goals.{In-Ok}

long : (r : RecordsSeen) → length r.lengths.now ≡ 64
long r = (seen-formed r).ordered.long.1.0

within : (c : In-Ok) → c.in-Ok.i < 64
within c = subst PlaceWithin c.in-Ok.is c.requires.1

pub overflow_mul-start : goal.overflow_mul-start
overflow_mul-start c = omega (arith, within (goal.at.overflow_mul-start c).In-Ok, long (c.args.records.now), c.requires.0)

pub overflow_add-start : goal.overflow_add-start
overflow_add-start c = omega (arith, within (goal.at.overflow_add-start c).In-Ok, long (c.args.records.now), c.requires.0)

pub offset_bounds-store-start : goal.offset_bounds-store-start
offset_bounds-store-start c = omega (arith, within (goal.at.offset_bounds-store-start c).In-Ok, long (c.args.records.now), c.requires.0)

pub slice_bounds-same_row-count : goal.slice_bounds-same_row-count
slice_bounds-same_row-count c = omega (arith, within (goal.at.slice_bounds-same_row-count c).In-Ok, long (c.args.records.now), c.requires.0)

pub slice_bounds-same_row-start : goal.slice_bounds-same_row-start
slice_bounds-same_row-start c = omega (arith, within (goal.at.slice_bounds-same_row-start c).In-Ok, long (c.args.records.now), c.requires.0)

pub slice_bounds-same_row-end : goal.slice_bounds-same_row-end
slice_bounds-same_row-end c = omega (arith, within (goal.at.slice_bounds-same_row-end c).In-Ok, long (c.args.records.now), c.requires.0)

pub bounds-records-i : goal.bounds-records-i
bounds-records-i c = omega (arith, within (goal.at.bounds-records-i c).In-Ok, long (c.args.records.now), c.requires.0)

pub overflow_cast-records : goal.overflow_cast-records
overflow_cast-records c = omega (arith, (seen-formed c.args.records.now).few c.in-Ok.i)

pub same_row-requires : goal.same_row-requires
same_row-requires c =
    let w = within (goal.at.same_row-requires c).In-Ok in
    (omega (arith, (seen-formed c.args.records.now).few c.in-Ok.i), omega (arith, w, c.requires.0), c.requires.2)

pub returns-in-Ok : goal.returns-in-Ok
returns-in-Ok c =
    let a = c.args in
    let i = c.in-Ok.i in
    ap not (c.same_row.ensures ∙ ap (λ (row : List ℕ). same_relays (map nwk (take (get_or a.records.now.lengths.now i 0) row)) (relays_of a.relays)) (part-row i a.store.now))
    ∙ ap (λ (p : Result ℕ ℕ). other_at_of p a.records.now.lengths.now a.store.now (relays_of a.relays)) (sym c.in-Ok.is)

pub returns-in-Err : goal.returns-in-Err
returns-in-Err c =
    let a = c.args in
    ap (λ (p : Result ℕ ℕ). other_at_of p a.records.now.lengths.now a.store.now (relays_of a.relays)) (sym c.in-Err.is)
