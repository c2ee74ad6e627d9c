-- Storing and removing leave records that fit, so that a well-formed table and an agreeing store hold them and nothing else:
-- what is left of both is known from the records.
use Prim.Native.Nat.{ℕ, ◌≤◌}
use mathlib.Core.Bool.{Bool, true, false}
use mathlib.Core.List.{List}
use mathlib.Core.Path.{◌≡◌, refl, sym, ap, ◌∙◌, subst}
use lib.Dec.{leb}
use lib.ListN.{length}
use Rattle.types.specs.declared.Nwk.{Nwk}
use Rattle.standard.specs.Ordered.{remove}
use Rattle.standard.specs.Records.{RouteRecord, address_key, record_stored}
use Rattle.record_table.specs.Table.{RecordTable}
use Rattle.relay_store.specs.Packed.{records_of, table_for, store_for, Fits, Together}
use Rattle.relay_store.proofs.Packing.{packed-together, records-back, together-view}
use Rattle.relay_store.proofs.Steps.{fits-remove}
use Rattle.route_record.specs.Answer.{stored_step, removed_step, HoldsRecords}
use Rattle.route_record.proofs.Held.{fits}
use Rattle.route_record.proofs.Storing.{whole-fit}

-- a table and a store that hold records are those of the records
pub holds-view : (t : RecordTable) (s : List ℕ) (xs : List RouteRecord) → HoldsRecords t s xs → (t ≡ table_for xs) × (s ≡ store_for xs)
holds-view t s xs h =
    let v = together-view t s h.together in
    (v.0 ∙ ap table_for h.records, v.1 ∙ ap store_for h.records)

-- and hold them by any name
pub held-as : (t u : RecordTable) → t ≡ u → (s : List ℕ) (xs : List RouteRecord) → HoldsRecords t s xs → HoldsRecords u s xs
held-as t u p s xs h = subst (λ (v : RecordTable). HoldsRecords v s xs) p h

-- so two that hold the same records are the same
pub holds_same : (t u : RecordTable) (s v : List ℕ) (xs : List RouteRecord) → HoldsRecords t s xs → HoldsRecords u v xs → (t ≡ u) × (s ≡ v)
holds_same t u s v xs h k = let p = holds-view t s xs h in let q = holds-view u v xs k in (p.0 ∙ sym q.0, p.1 ∙ sym q.1)

module _ (xs : List RouteRecord) (f : Fits xs) where
  module _ (source : Nwk) (relays : List Nwk) (short : length relays ≤ 32) where
    pub stored-fits : Fits (stored_step source relays xs).records
    unfolding stored_step
    stored-fits = go (leb (length (record_stored source relays xs)) 64) refl where
      go : (b : Bool) → leb (length (record_stored source relays xs)) 64 ≡ b → Fits (stored_step source relays xs).records
      go true e = rw e (whole-fit xs f source relays short e)
      go false e = rw e f

  pub removed-fits : (destination : Nwk) → Fits (removed_step destination xs).records
  unfolding removed_step
  removed-fits destination = fits-remove xs f destination.0

-- what a table and a store hold after each step, and that it is kept
module _ (t : RecordTable) (s : List ℕ) (g : Together t s) where
  module _ (source : Nwk) (relays : List Nwk) (short : length relays ≤ 32) where
    pub stored-kept : Together (table_for (stored_step source relays (records_of t s)).records) (store_for (stored_step source relays (records_of t s)).records)
    stored-kept = packed-together (stored_step source relays (records_of t s)).records (stored-fits (records_of t s) (fits t s g) source relays short)

    pub stored-records : leb (length (record_stored source relays (records_of t s))) 64 ≡ true
        → records_of (table_for (stored_step source relays (records_of t s)).records) (store_for (stored_step source relays (records_of t s)).records) ≡ record_stored source relays (records_of t s)
    unfolding stored_step
    stored-records e = rw e (records-back (record_stored source relays (records_of t s)) (whole-fit (records_of t s) (fits t s g) source relays short e))

  module _ (destination : Nwk) where
    pub removed-kept : Together (table_for (removed_step destination (records_of t s)).records) (store_for (removed_step destination (records_of t s)).records)
    removed-kept = packed-together (removed_step destination (records_of t s)).records (removed-fits (records_of t s) (fits t s g) destination)

    pub removed-records : records_of (table_for (removed_step destination (records_of t s)).records) (store_for (removed_step destination (records_of t s)).records) ≡ remove address_key destination.0 (records_of t s)
    unfolding removed_step
    removed-records = records-back (remove address_key destination.0 (records_of t s)) (fits-remove (records_of t s) (fits t s g) destination.0)
