-- Each relay's record written in turn: the rest of the records, put now, gives them all, and table and store stay together.
-- Then the source's record makes the whole, and the comparison falls between the two.
use Rattle.std.specs.Prelude.{Ok, Err}
use Prim.Native.Nat.{ℕ, ◌+◌, ◌≤◌}
use native.Mathlib.Omega.{arith}
use mathlib.Core.Bool.{Bool, true, false, true≢false}
use mathlib.Core.List.{List, [], ◌∷◌, map}
use mathlib.Core.Path.{◌≡◌, refl, sym, ap, ◌∙◌}
use borrow.Author.Tests.{leb-true}
use lib.Dec.{leb}
use lib.ListN.{length, take, drop}
use Rattle.types.specs.declared.Nwk.{Nwk}
use Rattle.types.specs.declared.Refusal.TheVariants.{RecordTableFull}
use Rattle.standard.specs.Ordered.{lookup, put, remove}
use Rattle.standard.specs.Query.{is_there}
use Rattle.standard.specs.Record.{record_key}
use Rattle.standard.specs.Records.{RouteRecord, address_key, record_for, relays_stored, record_stored, other_relays, record_changed}
use Rattle.flat_map.specs.Seek.{place_of}
use Rattle.flat_map.specs.Shift.{shift_out}
use Rattle.flat_map.proofs.Mapped.{put-grows}
use Rattle.flat_map.proofs.Table.{remove_absent}
use Rattle.record_table.specs.Table.{RecordTable, rows_of, Holds}
use Rattle.relay_store.specs.Store.{on_rows, blank_row}
use Rattle.relay_store.specs.Packed.{records_of, blank_route_record, Fits, Together}
use Rattle.relay_store.proofs.Steps.{fits-put}
use Rattle.route_record.specs.Answer.{with_address, with_relays, stored_step, removed_step, HoldsRecords, StoredIn, RemovedIn}
use Rattle.route_record.proofs.Held as held
use Rattle.route_record.proofs.Held.{addresses}
use Rattle.route_record.proofs.Room.{stored-count}

pub stored_grows : (relays : List Nwk) (xs : List RouteRecord) → length xs ≤ length (relays_stored relays xs)
unfolding relays_stored
stored_grows [] xs = omega arith
stored_grows (r ∷ rs) xs = omega (arith, put-grows address_key (record_for r rs) xs, stored_grows rs (put address_key (record_for r rs) xs))

-- the relays before i have their records
pub record Storing (relays : List Nwk) (goal : List RouteRecord) (u : RecordTable) (s : List ℕ) (i : ℕ) : Type 0 where
  pub together : Together u s
  pub rest : relays_stored (drop i relays) (records_of u s) ≡ goal

module _ (relays : List Nwk) (goal : List RouteRecord) (small : length goal ≤ 64) (u : RecordTable) (s : List ℕ) (i : ℕ) (c : Storing relays goal u s i) where
  module _ (a : Nwk) (next : drop i relays ≡ a ∷ drop (i + 1) relays) where
    stored-rest : relays_stored (drop (i + 1) relays) (put address_key (record_for a (drop (i + 1) relays)) (records_of u s)) ≡ goal
    unfolding relays_stored
    stored-rest = ap (λ (rs : List Nwk). relays_stored rs (records_of u s)) (sym next) ∙ c.rest

    pub storing-room : length (put address_key (record_for a (drop (i + 1) relays)) (records_of u s)) ≤ 64
    storing-room =
        omega (arith, stored_grows (drop (i + 1) relays) (put address_key (record_for a (drop (i + 1) relays)) (records_of u s)), ap length stored-rest, small)

    pub storing-step : (v : RecordTable) (after : List ℕ) → HoldsRecords v after (put address_key (record_for a (drop (i + 1) relays)) (records_of u s)) → Storing relays goal v after (i + 1)
    storing-step v after h = record { together = h.together; rest = ap (relays_stored (drop (i + 1) relays)) h.records ∙ stored-rest }

  pub storing-end : drop i relays ≡ [] → records_of u s ≡ goal
  unfolding relays_stored
  storing-end e = ap (λ (rs : List Nwk). relays_stored rs (records_of u s)) (sym e) ∙ c.rest

-- records with those of the relays still fit
fits-relays : (relays : List Nwk) (xs : List RouteRecord) → length relays ≤ 32 → Fits xs → length (relays_stored relays xs) ≤ 64 → Fits (relays_stored relays xs)
unfolding relays_stored
fits-relays [] xs short f room = f
fits-relays (r ∷ rs) xs short f room =
    fits-relays rs (put address_key (record_for r rs) xs) (omega arith)
    (fits-put xs f (record_for r rs) (omega (arith, stored_grows rs (put address_key (record_for r rs) xs), room)) (omega arith))
    room

-- a route record whose records are few enough leaves records that fit
module _ (xs : List RouteRecord) (f : Fits xs) (source : Nwk) (relays : List Nwk) (short : length relays ≤ 32) (free : leb (length (record_stored source relays xs)) 64 ≡ true) where
  relays-small : length (relays_stored relays xs) ≤ 64
  unfolding record_stored
  relays-small = omega (arith, leb-true (length (record_stored source relays xs)) 64 free, put-grows address_key (record_for source relays) (relays_stored relays xs))

  pub whole-fit : Fits (record_stored source relays xs)
  unfolding record_stored
  whole-fit =
      fits-put (relays_stored relays xs) (fits-relays relays xs short f relays-small) (record_for source relays) (leb-true (length (record_stored source relays xs)) 64 free) short

-- the whole of a route record
module _ (t : RecordTable) (s : List ℕ) (g : Together t s) (source : Nwk) (relays : List Nwk) where
  -- the count of addresses decides
  pub room-is : leb (length (with_address source (with_relays relays (map record_key (rows_of t))))) 64 ≡ leb (length (record_stored source relays (records_of t s))) 64
  room-is =
      ap (λ (n : ℕ). leb n 64)
      (ap (λ (ks : List ℕ). length (with_address source (with_relays relays ks))) (addresses t s g) ∙ sym (stored-count source relays (records_of t s)))

  pub refused-in : leb (length (record_stored source relays (records_of t s))) 64 ≡ false → StoredIn t s (stored_step source relays (records_of t s)) (Err RecordTableFull) t s
  unfolding stored_step
  refused-in full = record {
    answers = rw full;
    holds = record { together = g; records = rw full };
    refused = λ n e. (refl, refl);
  }

  module _ (free : leb (length (record_stored source relays (records_of t s))) 64 ≡ true) where
    pub relays-room : length (relays_stored relays (records_of t s)) ≤ 64
    unfolding record_stored
    relays-room =
        omega (arith, leb-true (length (record_stored source relays (records_of t s))) 64 free, put-grows address_key (record_for source relays) (relays_stored relays (records_of t s)))

    module _ (u : RecordTable) (mid : List ℕ) (h : HoldsRecords u mid (relays_stored relays (records_of t s))) where
      whole : put address_key (record_for source relays) (records_of u mid) ≡ record_stored source relays (records_of t s)
      unfolding record_stored
      whole = ap (put address_key (record_for source relays)) h.records

      pub source-room : length (put address_key (record_for source relays) (records_of u mid)) ≤ 64
      source-room = rw whole (leb-true (length (record_stored source relays (records_of t s))) 64 free)

      pub stored-in : (changed : Bool) (v : RecordTable) (after : List ℕ) → changed ≡ other_relays relays (lookup address_key source.0 (records_of u mid))
          → HoldsRecords v after (put address_key (record_for source relays) (records_of u mid)) → StoredIn t s (stored_step source relays (records_of t s)) (Ok changed) v after
      unfolding stored_step record_changed
      stored-in changed v after e k = record {
        answers = ap Ok (e ∙ ap (λ (xs : List RouteRecord). other_relays relays (lookup address_key source.0 xs)) h.records) ∙ rw free;
        holds = record { together = k.together; records = k.records ∙ whole ∙ rw free };
        refused = λ n q. let z : ◌≡◌ {A = ℕ} 0 1 = cc in absurd (omega arith);
      }

-- a record removed, or none to remove
module _ (t : RecordTable) (s : List ℕ) (g : Together t s) (d : Nwk) (i : ℕ) where
  pub kept_in : Err i ≡ place_of (take t.count t.keys) d.0 → RemovedIn t s (removed_step d (records_of t s)) false t s
  unfolding removed_step
  kept_in p =
      let row = held.missing t s g d.0 i p in
      record {
        answers = ap is_there (sym row);
        holds = record { together = g; records = sym (remove_absent address_key blank_route_record d.0 (records_of t s) row) };
        kept = λ e. (refl, refl);
      }

  pub removed-in : Ok i ≡ place_of (take t.count t.keys) d.0 → (u : RecordTable) (after : List ℕ) → Holds u (remove record_key d.0 (rows_of t)) → after ≡ on_rows (shift_out i blank_row) s
      → RemovedIn t s (removed_step d (records_of t s)) true u after
  unfolding removed_step
  removed-in p u after h q = record {
    answers = ap is_there (sym (held.found t s g d.0 i p));
    holds = held.remove-holds t s g d.0 i p u after h q;
    kept = λ e. absurd (true≢false e);
  }
