-- A table and its store, seen as the records that they hold: what a look-up of a place says of them,
-- and that a step on the table and on the rows is the step on the records.
use Rattle.std.specs.Prelude.{Some, None, Result, Ok, Err}
use Prim.Native.Nat.{ℕ, ◌-◌, ◌<◌, ◌≤◌}
use native.Mathlib.Omega.{arith}
use mathlib.Core.List.{List, [], map}
use mathlib.Core.Path.{◌≡◌, sym, ap, ◌∙◌}
use lib.ListN.{length, take, drop, get_or, length-map, length-drop}
use lib.Seq.{length-take-le}
use Rattle.types.specs.declared.Nwk.{Nwk}
use Rattle.standard.specs.declared.RecordEntry.{RecordEntry}
use Rattle.standard.specs.declared.RelayList.{RelayList}
use Rattle.standard.specs.Ordered.{lookup, put, remove, count_with}
use Rattle.standard.specs.Query.{entry_at}
use Rattle.standard.specs.Record.{record_key}
use Rattle.standard.specs.Records.{RouteRecord, ShortWay, address_key, record_for}
use Rattle.flat_map.specs.Seek.{place_of}
use Rattle.flat_map.specs.Shift.{shift_out}
use Rattle.flat_map.proofs.Ordered.{length-put}
use Rattle.flat_map.proofs.Query.{entry-there, entry_past}
use Rattle.record_table.specs.Codec.{record_in}
use Rattle.record_table.specs.Table.{RecordTable, rows_of, table_of, Holds}
use Rattle.record_table.proofs.Rows as table
use Rattle.record_table.proofs.Rows.{table-fit}
use Rattle.relay_store.specs.Store.{row_at, flat, rows_in, on_rows, row_of, row_put, PlaceWithin, blank_row, relays_of}
use Rattle.relay_store.specs.Packed.{record_by, records_of, entry_of, table_for, rows_for, store_for, blank_route_record, Fits, Together}
use Rattle.relay_store.proofs.Packing as packing
use Rattle.relay_store.proofs.Rows.{count-rows, row_is}
use Rattle.relay_store.proofs.Steps as steps
use Rattle.route_record.specs.Answer.{HoldsRecords}

-- a list names as many relays as it counts
pub relays-count : (l : RelayList) → length l.addresses ≡ 32 → l.count ≤ 32 → length (relays_of l) ≡ l.count
relays-count l h few = length-take-le l.count l.addresses (omega arith)

-- the entry of a record that names a list's relays from a place on
pub entry-is : (d : Nwk) (l : RelayList) (from : ℕ) → length l.addresses ≡ 32 → l.count ≤ 32
    → ◌≡◌ {A = RecordEntry} (record { destination = d; relay_count = l.count - from }) (entry_of (record_for d (drop from (relays_of l))))
entry-is d l from h few =
    λ z. record { destination = d; relay_count = sym (length-drop from (relays_of l) ∙ ap (λ (n : ℕ). n - from) (relays-count l h few)) z }

-- and it names at most 32
pub fewer : (from : ℕ) (l : RelayList) → length l.addresses ≡ 32 → l.count ≤ 32 → length (drop from (relays_of l)) ≤ 32
fewer from l long few = omega (arith, length-drop from (relays_of l), relays-count l long few)

module _ (t : RecordTable) (s : List ℕ) (g : Together t s) where
  pub fits : Fits (records_of t s)
  fits = packing.view-fits t s g.formed g.agrees

  -- the place among the table's keys is the place among the records'
  pub place : (k : ℕ) → place_of (take t.count t.keys) k ≡ place_of (map address_key (records_of t s)) k
  place k = ap (λ (ks : List ℕ). place_of ks k) (packing.keys-back t s g.formed g.agrees)

  entries : map entry_of (records_of t s) ≡ rows_of t
  entries = packing.entries-back t s g.formed g.agrees

  -- the addresses that have a record
  pub addresses : map record_key (rows_of t) ≡ map address_key (records_of t s)
  addresses = ap (map record_key) (sym entries) ∙ packing.entry-keys (records_of t s)

  rows : rows_for (records_of t s) ≡ rows_in 64 s
  rows = packing.rows_back t s g.formed g.agrees

  -- a destination that is missing has no record
  pub missing : (k i : ℕ) → Err i ≡ place_of (take t.count t.keys) k → lookup address_key k (records_of t s) ≡ None
  missing k i p = steps.missing-record (records_of t s) fits k i (p ∙ place k)

  -- the entry in a place
  abbrev pub held : ℕ → RecordEntry
  held i = record_in (get_or t.keys i 0) (get_or t.lengths i 0)

  pub use-few : (i : ℕ) → get_or t.lengths i 0 ≤ 32
  use-few i = omega (arith, g.formed.few i)

  -- a place in use has the record of its entry and its row
  module _ (i : ℕ) (h : i < t.count) where
    pub use-within : i < 64
    use-within = omega (arith, h, g.formed.ordered.small)

    pub use-record : get_or (records_of t s) i blank_route_record ≡ record_by (held i) (row_at i s)
    unfolding records_of
    use-record =
        packing.record-at (rows_of t) (rows_in 64 s) i (omega (arith, table.many t g.formed, h)) (omega (arith, table.many t g.formed, count-rows 64 s, g.formed.ordered.small))
        ∙ (λ z. record_by (table.row-at t g.formed i h z) (row_is 64 i s [] use-within z))

  pub record-count : length (records_of t s) ≡ t.count
  record-count = sym (length-map (records_of t s) entry_of) ∙ ap length entries ∙ table.many t g.formed

  -- so the record at a place is that of its entry and its row, and there is none from the count on
  pub record-there : (i : ℕ) → i < t.count → entry_at i (records_of t s) ≡ Some (record_by (held i) (row_at i s))
  record-there i h = entry-there blank_route_record (records_of t s) i (omega (arith, record-count)) ∙ ap Some (use-record i h)

  pub record-past : (i : ℕ) → t.count ≤ i → entry_at i (records_of t s) ≡ None
  record-past i h = entry_past blank_route_record (records_of t s) i (omega (arith, record-count))

  -- and so has a destination that is found
  module _ (k i : ℕ) (p : Ok i ≡ place_of (take t.count t.keys) k) where
    pub in_use : i < t.count
    in_use = table.place-within t g.formed k i p

    pub within : i < 64
    within = use-within i in_use

    pub found : lookup address_key k (records_of t s) ≡ Some (record_by (held i) (row_at i s))
    found = steps.found-record (records_of t s) fits k i (p ∙ place k) ∙ ap Some (use-record i in_use)

    pub found-there : entry_at i (records_of t s) ≡ lookup address_key k (records_of t s)
    found-there = record-there i in_use ∙ sym found

  -- a table that holds the entries of records that fit, and the store that holds their rows, hold the records
  holding : (xs : List RouteRecord) → Fits xs → (u : RecordTable) (after : List ℕ) → Holds u (map entry_of xs) → after ≡ store_for xs → HoldsRecords u after xs
  holding xs f u after h q = record {
    together = rw (p, q) (packing.packed-together xs f);
    records = (λ z. records_of (p z) (q z)) ∙ packing.records-back xs f;
  } where
    p : u ≡ table_for xs
    p = table.table-view u h.formed ∙ ap table_of h.rows

  -- a record put
  module _ (x : RouteRecord) (room : length (put address_key x (records_of t s)) ≤ 64) where
    pub put-place : (p : Result ℕ ℕ) → p ≡ place_of (take t.count t.keys) (address_key x) → PlaceWithin p
    put-place p e = steps.put-within (records_of t s) fits x room p (e ∙ place (address_key x))

    put-store : (p : Result ℕ ℕ) → p ≡ place_of (take t.count t.keys) (address_key x)
        → on_rows (row_put p (row_of x.relays)) s ≡ store_for (put address_key x (records_of t s))
    put-store p e =
        ap (λ (r : List (List ℕ)). flat (row_put p (row_of x.relays) r)) (sym rows)
        ∙ ap flat (steps.put-rows (records_of t s) fits x room p (e ∙ place (address_key x)))

    put_entries : put record_key (entry_of x) (rows_of t) ≡ map entry_of (put address_key x (records_of t s))
    put_entries = ap (put record_key (entry_of x)) (sym entries) ∙ steps.put_entries x (records_of t s)

    pub put_count : count_with record_key (record_key (entry_of x)) (rows_of t) ≤ 64
    put_count =
        omega (arith, length-put record_key (entry_of x) (rows_of t) (table-fit t g.formed).fit.ascending, ap length put_entries, length-map (put address_key x (records_of t s)) entry_of, room)

    -- its row put at the place and its entry put: both hold the records with this one put
    pub put_holds : ShortWay x → (p : Result ℕ ℕ) → p ≡ place_of (take t.count t.keys) (address_key x) → (e : RecordEntry) → e ≡ entry_of x → (u : RecordTable) (after : List ℕ)
        → Holds u (put record_key e (rows_of t)) → after ≡ on_rows (row_put p (row_of x.relays)) s → HoldsRecords u after (put address_key x (records_of t s))
    put_holds short p o e is u after h q =
        holding (put address_key x (records_of t s)) (steps.fits-put (records_of t s) fits x room short) u after
        (record { formed = h.formed; rows = h.rows ∙ ap (λ (r : RecordEntry). put record_key r (rows_of t)) is ∙ put_entries })
        (q ∙ put-store p o)

  -- a record removed: its row and its entry taken out
  pub remove-holds : (k i : ℕ) → Ok i ≡ place_of (take t.count t.keys) k → (u : RecordTable) (after : List ℕ)
      → Holds u (remove record_key k (rows_of t)) → after ≡ on_rows (shift_out i blank_row) s → HoldsRecords u after (remove address_key k (records_of t s))
  remove-holds k i p u after h q =
      holding (remove address_key k (records_of t s)) (steps.fits-remove (records_of t s) fits k) u after
      (record { formed = h.formed; rows = h.rows ∙ ap (remove record_key k) (sym entries) ∙ steps.remove-entries k (records_of t s) })
      (q ∙ ap (λ (r : List (List ℕ)). flat (shift_out i blank_row r)) (sym rows) ∙ ap flat (steps.remove-rows (records_of t s) fits k i (p ∙ place k)))
