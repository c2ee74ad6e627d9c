-- The route table: 64 places in three columns of numbers, keys, words and usage counts, ordered by destination, read as the routes that it holds.
-- Document 01, "Capacities and clock": "Routes 64"; "Well formed".
-- Assumes nothing.
use Rattle.std.specs.Prelude.{ℕ, Bool, false, ◌&&◌, List, [], ◌∷◌, map, ◌≡◌, length}
use Rattle.standard.specs.declared.RouteEntry.{RouteEntry}
use Rattle.standard.specs.declared.Status.TheVariants.{Active}
use Rattle.standard.specs.Route.{nwk, route_key}
use Rattle.flat_map.specs.Rows.{pad}
use Rattle.flat_map.specs.Table.{Each, Fit}
use Rattle.columns.specs.Columns.{Ordered, ordered, Under, are_under}
use Rattle.columns.specs.Table.{rows_in}
use Rattle.route_table.specs.Codec.{route_of, route_word, word_end, InRange}

pub record RouteTable : Type 0 where
  pub keys : List ℕ
  pub words : List ℕ
  pub usage : List ℕ
  pub count : ℕ

-- the table in columns that are lent
abbrev pub in_columns : List ℕ → List ℕ → List ℕ → ℕ → RouteTable
in_columns keys words usage count = record { keys = keys; words = words; usage = usage; count = count }

-- what stands in a place that is not in use: all zeros
abbrev pub blank_route : RouteEntry
blank_route = record {
  destination = nwk 0;
  status = Active;
  no_route_cache = false;
  many_to_one = false;
  route_record_required = false;
  expired = false;
  next_hop_address = nwk 0;
  path_cost = 0;
  total_usage_count = 0;
  recent_activity = 0;
}

pub record WellFormed (t : RouteTable) : Type 0 where
  pub ordered : Ordered 64 t.keys (t.words ∷ t.usage ∷ []) t.count
  pub fields : Under word_end t.words

-- `WellFormed`, computed
abbrev pub well_formed : RouteTable → Bool
well_formed t = ordered 64 t.keys (t.words ∷ t.usage ∷ []) t.count && are_under word_end t.words

-- the routes that a table holds
abbrev pub rows_of : RouteTable → List RouteEntry
rows_of t = rows_in route_of 64 (t.keys ∷ t.words ∷ t.usage ∷ []) t.count

-- the table that holds the routes xs
unfoldable pub table_of : List RouteEntry → RouteTable
table_of xs = record {
  keys = pad 64 0 (map route_key xs);
  words = pad 64 0 (map route_word xs);
  usage = pad 64 0 (map (λ (e : RouteEntry). e.total_usage_count) xs);
  count = length xs;
}

-- routes that a table can hold
pub record Fits (xs : List RouteEntry) : Type 0 where
  pub fit : Fit 64 route_key blank_route xs
  pub ranged : Each InRange xs

-- a table that is well formed and holds the routes xs
pub record Holds (t : RouteTable) (xs : List RouteEntry) : Type 0 where
  pub formed : WellFormed t
  pub rows : rows_of t ≡ xs
