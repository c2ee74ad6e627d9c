-- The neighbour table: 64 places in ten columns of numbers, ordered by extended address, read as the neighbours that it holds.
-- Document 01, "Capacities and clock": "neighbours 64"; "Well formed". That a key is the entry's own field holds by construction.
-- Assumes nothing.
use Rattle.std.specs.Prelude.{ℕ, ◌+◌, ◌-◌, ◌/◌, ◌%◌, ◌<◌, Bool, true, ◌&&◌, List, [], ◌∷◌, ◌≡◌, ltb, length, get_or, set}
use Rattle.flat_map.specs.Shift.{shift_in, shift_out}
use Rattle.flat_map.specs.Table.{Each, Fit, every}
use Rattle.columns.specs.Columns.{Ordered, ordered}
use Rattle.columns.specs.Table.{rows_in, column}
use Rattle.neighbor_table.specs.declared.NeighborEntry.{NeighborEntry}
use Rattle.neighbor_table.specs.Entry.{neighbor_key, blank_neighbor, is_sound}
use Rattle.neighbor_columns.specs.Codec.{part_sound}
use Rattle.neighbor_columns.specs.Codec.{link_of, link_part, counts_part, link_word, counts_word, beacon_word, bytes_word, neighbor_in, neighbor_of, neighbor_numbers, CleanLink, InRange}

pub record NeighborTable : Type 0 where
  pub keys : List ℕ
  pub nwks : List ℕ
  pub links : List ℕ
  pub counts : List ℕ
  pub deadlines : List ℕ
  pub periods : List ℕ
  pub heard : List ℕ
  pub added : List ℕ
  pub beacons : List ℕ
  pub bytes : List ℕ
  pub count : ℕ

-- the table in columns that are lent
abbrev pub in_columns : List ℕ → List ℕ → List ℕ → List ℕ → List ℕ → List ℕ → List ℕ → List ℕ → List ℕ → List ℕ → ℕ → NeighborTable
in_columns keys nwks links counts deadlines periods heard added beacons bytes count = record {
  keys = keys;
  nwks = nwks;
  links = links;
  counts = counts;
  deadlines = deadlines;
  periods = periods;
  heard = heard;
  added = added;
  beacons = beacons;
  bytes = bytes;
  count = count;
}

-- the columns after the keys
abbrev pub others : NeighborTable → List (List ℕ)
others t =
    t.nwks ∷ t.links ∷ t.counts ∷ t.deadlines ∷ t.periods ∷ t.heard ∷ t.added ∷ t.beacons ∷ t.bytes ∷ []

-- the neighbours that a table holds
abbrev pub rows_of : NeighborTable → List NeighborEntry
rows_of t = rows_in neighbor_of 64 (t.keys ∷ others t) t.count

-- the neighbour in a place
abbrev pub row_at : NeighborTable → ℕ → NeighborEntry
row_at t i =
    neighbor_in (get_or t.keys i 0) (get_or t.nwks i 0) (get_or t.links i 0) (get_or t.counts i 0) (get_or t.deadlines i 0) (get_or t.periods i 0)
    (get_or t.heard i 0) (get_or t.added i 0) (get_or t.beacons i 0) (get_or t.bytes i 0)

-- number m of each of the neighbours xs, a column
abbrev pub column_of : List NeighborEntry → ℕ → List ℕ
column_of xs m = column neighbor_numbers 64 xs m

-- a place in every column
abbrev pub InPlaces : ℕ → NeighborTable → Type 0
InPlaces i t =
    (i < length t.keys) × (i < length t.nwks) × (i < length t.links) × (i < length t.counts) × (i < length t.deadlines) × (i < length t.periods)
    × (i < length t.heard) × (i < length t.added) × (i < length t.beacons) × (i < length t.bytes)

-- the table that holds the neighbours xs
unfoldable pub table_of : List NeighborEntry → NeighborTable
table_of xs =
    in_columns (column_of xs 0) (column_of xs 1) (column_of xs 2) (column_of xs 3) (column_of xs 4) (column_of xs 5) (column_of xs 6) (column_of xs 7) (column_of xs 8)
    (column_of xs 9) (length xs)

-- every link word is clean
abbrev pub CleanLinks : List ℕ → Type 0
CleanLinks links = (i : ℕ) → CleanLink (get_or links i 0)

abbrev pub clean_link : ℕ → Bool
clean_link w = ltb ((w / 1125899906842624) % 4) 3 && ltb (w / 4503599627370496) 10

-- a link word that is clean, and whose cost and samples are sound; every one in use
abbrev pub SoundLink : ℕ → Type 0
SoundLink w = CleanLink w × (part_sound (link_of w) ≡ true)

abbrev pub SoundLinks : List ℕ → ℕ → Type 0
SoundLinks links count = (i : ℕ) → i < count → SoundLink (get_or links i 0)

-- the columns and the count make a table, whatever the entries say
pub record Formed64 (t : NeighborTable) : Type 0 where
  pub ordered : Ordered 64 t.keys (others t) t.count
  pub clean : CleanLinks t.links

-- `Formed64`, computed
unfoldable pub formed64 : NeighborTable → Bool
formed64 t = ordered 64 t.keys (others t) t.count && every clean_link t.links

-- a table whose entries in use are sound
pub record WellFormed (t : NeighborTable) : Type 0 where
  pub formed : Formed64 t
  pub sound : every is_sound (rows_of t) ≡ true

-- `WellFormed`, computed
abbrev pub well_formed : NeighborTable → Bool
well_formed t = formed64 t && every is_sound (rows_of t)

-- rows of which a table can be made, whatever they say, and of which a well-formed one
pub record Fits (xs : List NeighborEntry) : Type 0 where
  pub fit : Fit 64 neighbor_key blank_neighbor xs
  pub ranged : Each InRange xs

pub record FitRows (xs : List NeighborEntry) : Type 0 where
  pub fits : Fits xs
  pub sound : every is_sound xs ≡ true

-- a table that holds the rows xs, whatever they say, and one that is well formed
pub record Keeps (t : NeighborTable) (xs : List NeighborEntry) : Type 0 where
  pub formed : Formed64 t
  pub rows : rows_of t ≡ xs

pub record Holds (t : NeighborTable) (xs : List NeighborEntry) : Type 0 where
  pub formed : WellFormed t
  pub rows : rows_of t ≡ xs

-- the steps on the columns: a row stored over the one in a place, put in, taken out
abbrev pub replaced : NeighborTable → ℕ → NeighborEntry → NeighborTable
replaced t i e =
    in_columns t.keys (set t.nwks i e.network_address.0) (set t.links i (link_word (link_part e))) (set t.counts i (counts_word (counts_part e)))
    (set t.deadlines i e.timeout_at) (set t.periods i e.device_timeout) (set t.heard i e.last_link_status_timestamp)
    (set t.added i e.router_added_timestamp) (set t.beacons i (beacon_word e)) (set t.bytes i (bytes_word e)) t.count

abbrev pub inserted : NeighborTable → ℕ → NeighborEntry → NeighborTable
inserted t i e =
    in_columns (shift_in i (neighbor_key e) t.keys) (shift_in i e.network_address.0 t.nwks) (shift_in i (link_word (link_part e)) t.links)
    (shift_in i (counts_word (counts_part e)) t.counts) (shift_in i e.timeout_at t.deadlines) (shift_in i e.device_timeout t.periods)
    (shift_in i e.last_link_status_timestamp t.heard) (shift_in i e.router_added_timestamp t.added) (shift_in i (beacon_word e) t.beacons)
    (shift_in i (bytes_word e) t.bytes) (t.count + 1)

abbrev pub removed : NeighborTable → ℕ → NeighborTable
removed t i =
    in_columns (shift_out i 0 t.keys) (shift_out i 0 t.nwks) (shift_out i 0 t.links) (shift_out i 0 t.counts) (shift_out i 0 t.deadlines)
    (shift_out i 0 t.periods) (shift_out i 0 t.heard) (shift_out i 0 t.added) (shift_out i 0 t.beacons) (shift_out i 0 t.bytes) (t.count - 1)
