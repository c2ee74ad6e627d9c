-- Route records in lent columns and a lent store: what storing, removing and asking answer, and the records after it.
-- Document 01, "Refusal numbers": 3, "the call needs more new entries than are free in the .. record .. table".
-- Assumes nothing.
use Rattle.std.specs.Prelude.{ℕ, ◌+◌, Bool, true, false, cond, not, ◌||◌, List, [], ◌∷◌, map, ◌≡◌, eqb, leb, length, take, get_or, Option, Some, None, Result, Ok, Err}
use Rattle.types.specs.declared.Nwk.{Nwk}
use Rattle.types.specs.declared.Refusal.{Refusal}
use Rattle.types.specs.declared.Refusal.TheVariants.{RecordTableFull}
use Rattle.standard.specs.Ordered.{lookup, put, remove}
use Rattle.standard.specs.Query.{entry_at, is_there}
use Rattle.standard.specs.Records.{RouteRecord, Way, address_key, record_for, relays_stored, record_stored, record_changed, same_relays, way_by}
use Rattle.standard.specs.Route.{nwk}
use Rattle.record_table.specs.Table.{RecordTable}
use Rattle.relay_store.specs.Store.{row_at, relay_list}
use Rattle.relay_store.specs.Packed.{records_of, entry_of, Together}
use Rattle.route_record.specs.declared.RecordWay.{RecordWay}
use Rattle.route_record.specs.declared.RecordRow.{RecordRow}

-- the records of a table and a store with one more, and with those of the relays
abbrev pub record_put : Nwk → List Nwk → RecordTable → List ℕ → List RouteRecord
record_put destination relays t store = put address_key (record_for destination relays) (records_of t store)

abbrev pub relays_put : List Nwk → RecordTable → List ℕ → List RouteRecord
relays_put relays t store = relays_stored relays (records_of t store)

-- the record of a destination
abbrev pub record_of : Nwk → RecordTable → List ℕ → Option RouteRecord
record_of destination t store = lookup address_key destination.0 (records_of t store)

-- an ordered list of addresses with one more
abbrev pub with_address : Nwk → List ℕ → List ℕ
with_address a addresses = put (λ n. n) a.0 addresses

-- the addresses that have a record once each relay has one
unfoldable pub with_relays : List Nwk → List ℕ → List ℕ
with_relays [] addresses = addresses
with_relays (r ∷ rs) addresses = with_relays rs (with_address r addresses)

-- how many of some addresses have no record yet, each counted once
abbrev pub one_more : Option ℕ → ℕ
one_more None = 1
one_more (Some k) = 0

unfoldable pub new_addresses : List Nwk → List ℕ → ℕ
new_addresses [] addresses = 0
new_addresses (a ∷ rest) addresses = one_more (lookup (λ n. n) a.0 addresses) + new_addresses rest (with_address a addresses)

-- an address is one of the relays
abbrev pub among : ℕ → List Nwk → Bool
among k [] = false
among k (r ∷ rs) = eqb r.0 k || among k rs

-- what storing a route record answers, and the records after it
pub record RecordStep : Type 0 where
  pub answer : Result Bool Refusal
  pub records : List RouteRecord

-- a route record of a source stored: refused, with the records as they were, where there would be more than 64
unfoldable pub stored_step : Nwk → List Nwk → List RouteRecord → RecordStep
stored_step source relays xs =
    cond (leb (length (record_stored source relays xs)) 64)
    (record { answer = Ok (record_changed source relays xs); records = record_stored source relays xs })
    (record { answer = Err RecordTableFull; records = xs })

-- whether there was a record that is removed, and the records after it
pub record RemovedStep : Type 0 where
  pub removed : Bool
  pub records : List RouteRecord

unfoldable pub removed_step : Nwk → List RouteRecord → RemovedStep
removed_step destination xs = record {
  removed = is_there (lookup address_key destination.0 xs);
  records = remove address_key destination.0 xs;
}

-- a table and its store that hold records
pub record HoldsRecords (t : RecordTable) (store : List ℕ) (xs : List RouteRecord) : Type 0 where
  pub together : Together t store
  pub records : records_of t store ≡ xs

-- what storing leaves of a table and its store: the step's answer and records, and both as they came where it is refused
pub record StoredIn (t : RecordTable) (store : List ℕ) (step : RecordStep) (answer : Result Bool Refusal) (u : RecordTable) (after : List ℕ) : Type 0 where
  pub answers : answer ≡ step.answer
  pub holds : HoldsRecords u after step.records
  pub refused : (n : Refusal) → answer ≡ Err n → (u ≡ t) × (after ≡ store)

-- what removing leaves: both as they came where there is no record
pub record RemovedIn (t : RecordTable) (store : List ℕ) (step : RemovedStep) (removed : Bool) (u : RecordTable) (after : List ℕ) : Type 0 where
  pub answers : removed ≡ step.removed
  pub holds : HoldsRecords u after step.records
  pub kept : removed ≡ false → (u ≡ t) × (after ≡ store)

-- whether the record at the place of an address names other relays, or there is none
abbrev pub other_at_of : Result ℕ ℕ → List ℕ → List ℕ → List Nwk → Bool
other_at_of (Ok i) lengths store relays = not (same_relays (map nwk (take (get_or lengths i 0) (row_at i store))) relays)
other_at_of (Err i) lengths store relays = true

abbrev pub listed : Way → RecordWay
listed w = record { route = w.route; relays = relay_list w.relays }

-- the way that a destination's record names
unfoldable pub way_to : Nwk → ℕ → RecordTable → List ℕ → RecordWay
way_to destination limit t store = listed (way_by limit (record_of destination t store))

-- the record at a place with its relays, and nothing from the count on
abbrev pub row_for : Option RouteRecord → RecordRow
row_for None = record { entry = None; relays = relay_list [] }
row_for (Some x) = record { entry = Some (entry_of x); relays = relay_list x.relays }

unfoldable pub record_held : ℕ → RecordTable → List ℕ → RecordRow
record_held i t store = row_for (entry_at i (records_of t store))

-- the record of a destination with its relays
unfoldable pub record_found : Nwk → RecordTable → List ℕ → RecordRow
record_found destination t store = row_for (record_of destination t store)
