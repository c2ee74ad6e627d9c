-- The waiting table: 64 places in two columns of numbers, keys and words of samples, ordered by network address, read as the senders that it holds.
-- Document 01, "Capacities and clock": "waiting samples 64"; "Well formed". That a key is the entry's own field holds by construction.
-- Assumes nothing.
use Rattle.std.specs.Prelude.{ℕ, ◌<◌, Bool, true, ◌&&◌, List, [], ◌∷◌, map, ◌≡◌, length, get_or}
use Rattle.flat_map.specs.Rows.{pad}
use Rattle.flat_map.specs.Table.{Each, Fit, every}
use Rattle.columns.specs.Columns.{Ordered, ordered, Under, are_under}
use Rattle.columns.specs.Table.{rows_in}
use Rattle.ring_buffer.specs.Ring as ring
use Rattle.ring_buffer.specs.Word.{ring_of, ring_word, word_end}
use Rattle.waiting_table.specs.declared.WaitingEntry.{WaitingEntry}
use Rattle.waiting_table.specs.Entry.{waiting_key, blank_waiting, is_sound}
use Rattle.waiting_columns.specs.Codec.{waiting_of, InRange}

pub record WaitingTable : Type 0 where
  pub keys : List ℕ
  pub samples : List ℕ
  pub count : ℕ

-- the table in columns that are lent
abbrev pub in_columns : List ℕ → List ℕ → ℕ → WaitingTable
in_columns keys samples count = record { keys = keys; samples = samples; count = count }

-- the senders that a table holds
abbrev pub rows_of : WaitingTable → List WaitingEntry
rows_of t = rows_in waiting_of 64 (t.keys ∷ t.samples ∷ []) t.count

-- the table that holds the senders xs
unfoldable pub table_of : List WaitingEntry → WaitingTable
table_of xs = record {
  keys = pad 64 0 (map waiting_key xs);
  samples = pad 64 0 (map (λ (e : WaitingEntry). ring_word e.lqas) xs);
  count = length xs;
}

-- the columns and the count make a table, whatever the entries say
pub record Formed64 (t : WaitingTable) : Type 0 where
  pub ordered : Ordered 64 t.keys (t.samples ∷ []) t.count
  pub fields : Under word_end t.samples

-- `Formed64`, computed
abbrev pub formed64 : WaitingTable → Bool
formed64 t = ordered 64 t.keys (t.samples ∷ []) t.count && are_under word_end t.samples

-- the first words of samples hold rings that are well formed
abbrev pub RingsSound : List ℕ → ℕ → Type 0
RingsSound samples count = (i : ℕ) → i < count → ring.well_formed (ring_of (get_or samples i 0)) ≡ true

-- a table whose entries in use are sound
pub record WellFormed (t : WaitingTable) : Type 0 where
  pub formed : Formed64 t
  pub sound : every is_sound (rows_of t) ≡ true

-- `WellFormed`, computed
abbrev pub well_formed : WaitingTable → Bool
well_formed t = formed64 t && every is_sound (rows_of t)

-- rows of which a table can be made, whatever they say, and of which a well-formed one
pub record Fits (xs : List WaitingEntry) : Type 0 where
  pub fit : Fit 64 waiting_key blank_waiting xs
  pub ranged : Each InRange xs

pub record FitRows (xs : List WaitingEntry) : Type 0 where
  pub fits : Fits xs
  pub sound : every is_sound xs ≡ true

-- a table that holds the rows xs, whatever they say, and one that is well formed
pub record Keeps (t : WaitingTable) (xs : List WaitingEntry) : Type 0 where
  pub formed : Formed64 t
  pub rows : rows_of t ≡ xs

pub record Holds (t : WaitingTable) (xs : List WaitingEntry) : Type 0 where
  pub formed : WellFormed t
  pub rows : rows_of t ≡ xs
