-- What the place of a key tells of the room for a row under it, and the state of columns that hold rows: that of the rows.
-- The room for a route is told by `place-room` of the calls on routes, and its state by `held-routes` of the routing state.
use Rattle.std.specs.Prelude.{Result}
use Prim.Native.Nat.{ℕ}
use mathlib.Core.List.{List, [], ◌∷◌}
use mathlib.Core.Path.{◌≡◌, sym, ap, ◌∙◌}
use lib.Dec.{leb}
use lib.ListN.{length, take, length-map}
use Rattle.standard.specs.declared.DiscoveryEntry.{DiscoveryEntry}
use Rattle.standard.specs.declared.RecordEntry.{RecordEntry}
use Rattle.standard.specs.Discovery.{discovery_key}
use Rattle.standard.specs.Ordered.{put, count_with}
use Rattle.standard.specs.Record.{record_key}
use Rattle.standard.specs.Records.{RouteRecord, address_key}
use Rattle.flat_map.specs.Seek.{place_of}
use Rattle.flat_map.proofs.Ordered.{length-put}
use Rattle.columns.specs.Room.{room_for}
use Rattle.columns.proofs.Rows.{room-told}
use Rattle.discovery_table.specs.Codec as discovery-codec
use Rattle.discovery_table.specs.Table as discoveries
use Rattle.discovery_table.proofs.Codec as discovery-law
use Rattle.discovery_table.proofs.Rows as discovery-rows
use Rattle.record_table.specs.Codec as record-codec
use Rattle.record_table.specs.Table as records
use Rattle.record_table.proofs.Codec as record-law
use Rattle.record_table.proofs.Rows as record-rows
use Rattle.relay_store.specs.Packed.{records_of, entry_of, table_for, store_for, Together}
use Rattle.relay_store.proofs.Packing.{entries-back, together-view}
use Rattle.relay_store.proofs.Steps.{put_entries}
use Rattle.route_record.specs.Answer.{HoldsRecords}
use Rattle.routing.specs.declared.Routing.{Routing}
use Rattle.routing.specs.Records.{with_records}
use Rattle.route_loads.specs.Loads.{with_discovery_table, with_record_table}

-- a discovery
pub discovery-room : (t : discoveries.DiscoveryTable) → discoveries.WellFormed t → (k : ℕ) (p : Result ℕ ℕ) → p ≡ place_of (take t.count t.keys) k
    → leb (count_with discovery_key k (discoveries.rows_of t)) 32 ≡ room_for p t.count 32
discovery-room t w k p q =
    room-told 32 3 discovery_key discoveries.blank_discovery discovery-codec.discovery_of discovery-codec.discovery_numbers discovery-codec.Clean discovery-codec.InRange discovery-law.codec
    t.keys (t.words ∷ t.ends ∷ []) t.count (discovery-rows.table-sound t w) k p q

pub held-discoveries : (s : Routing) (t : discoveries.DiscoveryTable) (xs : List DiscoveryEntry) → discoveries.Holds t xs → with_discovery_table s t ≡ with_discovery_table s (discoveries.table_of xs)
held-discoveries s t xs h = ap (λ (u : discoveries.DiscoveryTable). with_discovery_table s u) (discovery-rows.table-view t h.formed ∙ ap discoveries.table_of h.rows)

-- a record: as many records as entries
module _ (t : records.RecordTable) (store : List ℕ) (g : Together t store) (x : RouteRecord) where
  many : length (put address_key x (records_of t store)) ≡ count_with record_key (address_key x) (records.rows_of t)
  many =
      sym (length-map (put address_key x (records_of t store)) entry_of)
      ∙ ap length (sym (put_entries x (records_of t store)))
      ∙ ap (λ (es : List RecordEntry). length (put record_key (entry_of x) es)) (entries-back t store g.formed g.agrees)
      ∙ length-put record_key (entry_of x) (records.rows_of t) (record-rows.table-fit t g.formed).fit.ascending

  pub record-room : (p : Result ℕ ℕ) → p ≡ place_of (take t.count t.keys) (address_key x) → leb (length (put address_key x (records_of t store))) 64 ≡ room_for p t.count 64
  record-room p q =
      ap (λ (n : ℕ). leb n 64) many
      ∙ room-told 64 2 record_key records.blank_record record-codec.record_of record-codec.record_numbers record-codec.Clean record-codec.InRange record-law.codec
      t.keys (t.lengths ∷ []) t.count (record-rows.table-sound t g.formed) (address_key x) p q

module _ (t : records.RecordTable) (store : List ℕ) (xs : List RouteRecord) (h : HoldsRecords t store xs) where
  pub held-records : (s : Routing) → with_record_table s t ≡ with_records s xs
  held-records s = ap (λ (u : records.RecordTable). with_record_table s u) ((together-view t store h.together).0 ∙ ap table_for h.records)

  pub held-store : store ≡ store_for xs
  held-store = (together-view t store h.together).1 ∙ ap store_for h.records
