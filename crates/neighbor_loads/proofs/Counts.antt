-- How many lines each table has, and which line stands at a place in use.
-- Only the number of places counts: a table is read to its count or its last place, whatever its columns hold.
-- Assumes nothing.
use Prim.Native.Nat.{ℕ, ◌<◌, min}
use native.Mathlib.Omega.{arith}
use mathlib.Core.List.{List, [], ◌∷◌}
use mathlib.Core.Path.{◌≡◌, ap, ◌∙◌}
use lib.ListN.{length, get_or}
use Rattle.numbers.specs.Said.{ok}
use Rattle.lines.specs.Lines.{line_said}
use Rattle.lines.proofs.Lines.{many-lines, line-here}
use Rattle.columns.specs.Columns.{entries}
use Rattle.columns.proofs.Places.{entries-length, entry_at}
use Rattle.neighbor_table.specs.Entry.{blank_neighbor}
use Rattle.neighbor_columns.specs.Codec.{neighbor_of}
use Rattle.neighbor_columns.specs.Table as neighbours
use Rattle.waiting_table.specs.Entry.{blank_waiting}
use Rattle.waiting_columns.specs.Codec.{waiting_of, waiting_in}
use Rattle.waiting_columns.specs.Table as senders
use Rattle.neighbor_loads.specs.Prints.{neighbor_line, waiting_line, neighbor_rows, waiting_rows}

-- the neighbours
module _ (t : neighbours.NeighborTable) where
  abbrev columns : List (List ℕ)
  columns = t.keys ∷ neighbours.others t

  pub neighbor-count : length (neighbor_rows t) ≡ min t.count 64
  unfolding neighbor_rows
  neighbor-count = many-lines neighbor_line t.count (entries neighbor_of 64 columns) ∙ ap (min t.count) (entries-length neighbor_of 64 columns)

  pub neighbor-here : (i : ℕ) → i < min t.count 64 → line_said (neighbor_rows t) i ≡ ok (neighbor_line (neighbours.row_at t i))
  unfolding neighbor_rows
  neighbor-here i h =
      line-here blank_neighbor neighbor_line t.count (entries neighbor_of 64 columns) i (rw (entries-length neighbor_of 64 columns) h)
      ∙ ap (λ e. ok (neighbor_line e)) (entry_at neighbor_of 64 columns i blank_neighbor (omega arith))

-- the senders
module _ (t : senders.WaitingTable) where
  pub waiting-count : length (waiting_rows t) ≡ min t.count 64
  unfolding waiting_rows
  waiting-count = many-lines waiting_line t.count (entries waiting_of 64 (t.keys ∷ t.samples ∷ [])) ∙ ap (min t.count) (entries-length waiting_of 64 (t.keys ∷ t.samples ∷ []))

  pub waiting-here : (i : ℕ) → i < min t.count 64 → line_said (waiting_rows t) i ≡ ok (waiting_line (waiting_in (get_or t.keys i 0) (get_or t.samples i 0)))
  unfolding waiting_rows
  waiting-here i h =
      line-here blank_waiting waiting_line t.count (entries waiting_of 64 (t.keys ∷ t.samples ∷ [])) i (rw (entries-length waiting_of 64 (t.keys ∷ t.samples ∷ [])) h)
      ∙ ap (λ e. ok (waiting_line e)) (entry_at waiting_of 64 (t.keys ∷ t.samples ∷ []) i blank_waiting (omega arith))
