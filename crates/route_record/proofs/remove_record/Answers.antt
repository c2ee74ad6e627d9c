-- The rows are shifted at the place of the key, where its entry is taken out; a key that is missing leaves both.
-- Assumes nothing.
use Prim.Native.Nat.{ℕ}
use mathlib.Core.Path.{◌≡◌, refl, sym, ap, ◌∙◌}
use Rattle.record_table.specs.Table.{RecordTable}
use Rattle.record_table.specs.Lent.{table, place_in}
use Rattle.record_table.proofs.Lent.{holds}
use Rattle.relay_store.proofs.Lent.{together}
use Rattle.route_record.proofs.Held.{within}
use Rattle.route_record.proofs.Storing.{kept_in, removed-in}
use Rattle.route_record.proofs.remove_record.Goals as goal
use Rattle.route_record.proofs.remove_record.Goals.{After-place_of-place}

place : (c : After-place_of-place) → c.place_of-place.result ≡ place_in (table c.args.records.now) c.args.destination.0
place c = c.place_of-place.ensures ∙ ap (λ (t : RecordTable). place_in t c.args.destination.0) c.seen.ensures

pub returns-in_default : goal.returns-in_default
returns-in_default c =
    let a = c.args in
    let t = table a.records.now in
    record {
      memory = record { keys = refl; lengths = refl };
      removed = kept_in t a.store.now (together a.records.now a.store.now c.requires) a.destination _ (sym c.in_default.is ∙ place (goal.at.returns-in_default c).After-place_of-place);
    }

pub shift_rows_down-requires : goal.shift_rows_down-requires
shift_rows_down-requires c =
    let a = c.args in
    let t = table a.records.now in
    (within t a.store.now (together a.records.now a.store.now c.requires) _ _ (sym c.in-Ok.is ∙ place (goal.at.shift_rows_down-requires c).After-place_of-place), c.requires.places)

pub remove_at-requires : goal.remove_at-requires
remove_at-requires c = sym c.in-Ok.is ∙ place (goal.at.remove_at-requires c).After-place_of-place

pub returns : goal.returns
returns c =
    let a = c.args in
    let t = table a.records.now in
    record {
      memory = c.remove_at.ensures.same;
      removed =
          removed-in t a.store.now (together a.records.now a.store.now c.requires) a.destination _ (sym c.in-Ok.is ∙ place (goal.at.returns c).After-place_of-place) (table c.remove_at.new.self) _
          (holds c.remove_at.new.self _ c.remove_at.ensures.entries) c.shift_rows_down.ensures;
    }
