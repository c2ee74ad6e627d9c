-- The route discovery table: 32 places in three columns of numbers, keys, words and ends, ordered by source and request id, read as the
-- discoveries that it holds. Document 01, "Capacities and clock": "discoveries 32"; "Well formed".
-- Assumes nothing.
use Rattle.std.specs.Prelude.{ℕ, Bool, ◌&&◌, List, [], ◌∷◌, map, ◌≡◌, length, Option, Some, None}
use Rattle.standard.specs.declared.DiscoveryEntry.{DiscoveryEntry}
use Rattle.standard.specs.Discovery.{discovery_key}
use Rattle.standard.specs.Route.{nwk}
use Rattle.flat_map.specs.Rows.{pad}
use Rattle.flat_map.specs.Table.{Each, Fit}
use Rattle.columns.specs.Columns.{Ordered, ordered, Under, are_under}
use Rattle.columns.specs.Table.{rows_in}
use Rattle.discovery_table.specs.Codec.{discovery_of, discovery_word, word_end, key_end, InRange}

pub record DiscoveryTable : Type 0 where
  pub keys : List ℕ
  pub words : List ℕ
  pub ends : List ℕ
  pub count : ℕ

-- the table in columns that are lent
abbrev pub in_columns : List ℕ → List ℕ → List ℕ → ℕ → DiscoveryTable
in_columns keys words ends count = record { keys = keys; words = words; ends = ends; count = count }

-- what stands in a place that is not in use: all zeros
abbrev pub blank_discovery : DiscoveryEntry
blank_discovery = record {
  route_request_id = 0;
  source_address = nwk 0;
  sender_address = nwk 0;
  forward_cost = 0;
  residual_cost = 0;
  expiration_time = 0;
  destination_address = nwk 0;
}

pub record WellFormed (t : DiscoveryTable) : Type 0 where
  pub ordered : Ordered 32 t.keys (t.words ∷ t.ends ∷ []) t.count
  pub pairs : Under key_end t.keys
  pub fields : Under word_end t.words

-- `WellFormed`, computed
abbrev pub well_formed : DiscoveryTable → Bool
well_formed t = ordered 32 t.keys (t.words ∷ t.ends ∷ []) t.count && (are_under key_end t.keys && are_under word_end t.words)

-- the discoveries that a table holds
abbrev pub rows_of : DiscoveryTable → List DiscoveryEntry
rows_of t = rows_in discovery_of 32 (t.keys ∷ t.words ∷ t.ends ∷ []) t.count

-- the table that holds the discoveries xs
unfoldable pub table_of : List DiscoveryEntry → DiscoveryTable
table_of xs = record {
  keys = pad 32 0 (map discovery_key xs);
  words = pad 32 0 (map discovery_word xs);
  ends = pad 32 0 (map (λ (d : DiscoveryEntry). d.expiration_time) xs);
  count = length xs;
}

-- discoveries that a table can hold
pub record Fits (xs : List DiscoveryEntry) : Type 0 where
  pub fit : Fit 32 discovery_key blank_discovery xs
  pub ranged : Each InRange xs

-- a table that is well formed and holds the discoveries xs
pub record Holds (t : DiscoveryTable) (xs : List DiscoveryEntry) : Type 0 where
  pub formed : WellFormed t
  pub rows : rows_of t ≡ xs

-- when the discovery found is over
abbrev pub deadline_of : Option DiscoveryEntry → Option ℕ
deadline_of None = None
deadline_of (Some e) = Some e.expiration_time
