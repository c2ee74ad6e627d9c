-- A record put or removed, on the packed form: the table's step is the entry's, and the rows shift, or are written, at the same place;
-- and what is left still fits.
use Rattle.std.specs.Prelude.{Some, None, Result, Ok, Err}
use Prim.Native.Nat.{ℕ, ◌<◌, ◌≤◌}
use native.Mathlib.Omega.{arith}
use mathlib.Core.List.{List, map}
use mathlib.Core.Path.{◌≡◌, refl, sym, ap, ◌∙◌}
use lib.ListN.{length, get_or, length-map}
use Rattle.standard.specs.Ordered.{lookup, put, remove}
use Rattle.standard.specs.Record.{record_key}
use Rattle.standard.specs.Records.{RouteRecord, address_key, ShortWay}
use Rattle.flat_map.specs.Rows.{pad}
use Rattle.flat_map.specs.Seek.{place_of}
use Rattle.flat_map.specs.Shift.{shift_out}
use Rattle.flat_map.proofs.Each.{each-put, each-remove}
use Rattle.flat_map.proofs.Fits.{fit-put, fit-remove}
use Rattle.flat_map.proofs.Mapped.{map-set, map-put, map-remove}
use Rattle.flat_map.proofs.Ordered.{length-put, count-with-missing}
use Rattle.flat_map.proofs.Places.{placed_at}
use Rattle.flat_map.proofs.Rows.{set-pad, shift-in-pad, shift-out-pad, map-insert_at, map-remove_at}
use Rattle.flat_map.proofs.Table.{lookup-found, lookup-missing, put-found, put-missing, remove-found}
use Rattle.relay_store.specs.Store.{row_put, PlaceWithin, blank_row}
use Rattle.relay_store.specs.Packed.{entry_of, relay_row, rows_for, blank_route_record, Fits}

-- the table's entries follow the records
pub put_entries : (x : RouteRecord) (xs : List RouteRecord) → put record_key (entry_of x) (map entry_of xs) ≡ map entry_of (put address_key x xs)
put_entries x xs = map-put entry_of address_key record_key (λ y. refl) x xs

pub remove-entries : (k : ℕ) (xs : List RouteRecord) → remove record_key k (map entry_of xs) ≡ map entry_of (remove address_key k xs)
remove-entries k xs = map-remove entry_of address_key record_key (λ y. refl) k xs

module _ (xs : List RouteRecord) (f : Fits xs) where
  wide-keys : length (map address_key xs) ≡ length xs
  wide-keys = length-map xs address_key

  as_rows : length (map relay_row xs) ≡ length xs
  as_rows = length-map xs relay_row

  -- what a place among the keys says of the records
  pub found-record : (k i : ℕ) → Ok i ≡ place_of (map address_key xs) k → lookup address_key k xs ≡ Some (get_or xs i blank_route_record)
  found-record k i p = lookup-found address_key blank_route_record xs k i (placed_at (map address_key xs) k (Ok i) p)

  pub found_within : (k i : ℕ) → Ok i ≡ place_of (map address_key xs) k → i < length xs
  found_within k i p = omega (arith, (placed_at (map address_key xs) k (Ok i) p).0, wide-keys)

  pub missing-record : (k i : ℕ) → Err i ≡ place_of (map address_key xs) k → lookup address_key k xs ≡ None
  missing-record k i p = lookup-missing address_key blank_route_record xs k i f.fit.ascending (placed_at (map address_key xs) k (Err i) p)

  -- a record put
  module _ (x : RouteRecord) (room : length (put address_key x xs) ≤ 64) where
    free : lookup address_key (address_key x) xs ≡ None → length xs < 64
    free e = omega (arith, room, length-put address_key x xs f.fit.ascending, count-with-missing address_key (address_key x) xs e)

    pub put-within : (p : Result ℕ ℕ) → p ≡ place_of (map address_key xs) (address_key x) → PlaceWithin p
    put-within (Ok i) e = omega (arith, found_within (address_key x) i e, f.fit.small)
    put-within (Err i) e =
        omega (arith, (placed_at (map address_key xs) (address_key x) (Err i) e).0, wide-keys, free (missing-record (address_key x) i e))

    pub put-rows : (p : Result ℕ ℕ) → p ≡ place_of (map address_key xs) (address_key x) → row_put p (relay_row x) (rows_for xs) ≡ rows_for (put address_key x xs)
    put-rows (Ok i) e =
        set-pad 64 i (relay_row x) blank_row (map relay_row xs) (omega (arith, as_rows, found_within (address_key x) i e)) (omega (arith, as_rows, f.fit.small))
        ∙ ap (pad 64 blank_row) (sym (map-set relay_row xs i x) ∙ ap (map relay_row) (sym (put-found address_key blank_route_record x xs i (placed_at (map address_key xs) (address_key x) (Ok i) e))))
    put-rows (Err i) e =
        let at = placed_at (map address_key xs) (address_key x) (Err i) e in
        shift-in-pad 64 i (relay_row x) blank_row (map relay_row xs) (omega (arith, as_rows, at.0, wide-keys)) (omega (arith, as_rows, free (missing-record (address_key x) i e)))
        ∙ ap (pad 64 blank_row) (sym (map-insert_at relay_row i x xs) ∙ ap (map relay_row) (sym (put-missing address_key blank_route_record x xs i at)))

    pub fits-put : ShortWay x → Fits (put address_key x xs)
    fits-put short = record {
      fit = fit-put 64 address_key blank_route_record xs f.fit x (omega (arith, room, length-put address_key x xs f.fit.ascending));
      short = each-put ShortWay address_key x xs short f.short;
    }

  -- a record removed
  pub remove-rows : (k i : ℕ) → Ok i ≡ place_of (map address_key xs) k → shift_out i blank_row (rows_for xs) ≡ rows_for (remove address_key k xs)
  remove-rows k i e =
      shift-out-pad 64 i blank_row (map relay_row xs) (omega (arith, as_rows, found_within k i e)) (omega (arith, as_rows, f.fit.small))
      ∙ ap (pad 64 blank_row) (sym (map-remove_at relay_row i xs) ∙ ap (map relay_row) (sym (remove-found address_key blank_route_record k xs i (placed_at (map address_key xs) k (Ok i) e))))

  pub fits-remove : (k : ℕ) → Fits (remove address_key k xs)
  fits-remove k = record { fit = fit-remove 64 address_key blank_route_record xs f.fit k; short = each-remove ShortWay address_key k xs f.short }
