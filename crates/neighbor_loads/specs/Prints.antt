-- The lines that print the neighbours, each a word's number and its arguments: neighbours 7, senders whose samples wait 8.
-- The columns are read as they are, up to the count or the last place; no well-formed state is asked.
-- Assumes nothing.
use Rattle.std.specs.Prelude.{ℕ, List, ◌∷◌, ◌++◌, map}
use Rattle.neighbor_table.specs.declared.NeighborEntry.{NeighborEntry}
use Rattle.neighbor_columns.specs.Table as neighbours
use Rattle.waiting_table.specs.declared.WaitingEntry.{WaitingEntry}
use Rattle.waiting_columns.specs.Table as senders
use Rattle.neighbor_values.specs.Values.{neighbor_numbers, waiting_numbers}
use Rattle.neighbors.specs.declared.Neighbors.{Neighbors}
use Rattle.neighbors.specs.State.{table_in, waiting_in}

abbrev pub neighbor_line : NeighborEntry → List ℕ
neighbor_line e = 7 ∷ neighbor_numbers e

abbrev pub waiting_line : WaitingEntry → List ℕ
waiting_line e = 8 ∷ waiting_numbers e

unfoldable pub neighbor_rows : neighbours.NeighborTable → List (List ℕ)
neighbor_rows t = map neighbor_line (neighbours.rows_of t)

unfoldable pub waiting_rows : senders.WaitingTable → List (List ℕ)
waiting_rows t = map waiting_line (senders.rows_of t)

unfoldable pub neighbor_lines : Neighbors → List (List ℕ)
neighbor_lines s = neighbor_rows (table_in s) ++ waiting_rows (waiting_in s)
