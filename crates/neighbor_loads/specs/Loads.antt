-- The lines that set the neighbours up, and those that damage them: the answer and the state after each.
-- A line is done, or no call on a state whose table has no room or is not formed. Document 01, "Capacities and clock".
-- Assumes nothing.
use Rattle.std.specs.Prelude.{ℕ, cond, ◌||◌, List, [], leb, ltb, set}
use Rattle.numbers.specs.Said.{Said, ok, bad, spoken}
use Rattle.numbers.specs.Read.{number_at}
use Rattle.standard.specs.Ordered.{put, count_with}
use Rattle.neighbor_table.specs.declared.NeighborEntry.{NeighborEntry}
use Rattle.neighbor_table.specs.Entry.{neighbor_key}
use Rattle.neighbor_columns.specs.Table as neighbours
use Rattle.neighbor_columns.specs.Lent.{with_keys, with_count}
use Rattle.waiting_table.specs.declared.WaitingEntry.{WaitingEntry}
use Rattle.waiting_table.specs.Entry.{waiting_key}
use Rattle.waiting_columns.specs.Table as senders
use Rattle.neighbor_values.specs.Reading.{neighbor_at, waiting_entry_at}
use Rattle.neighbors.specs.declared.Neighbors.{Neighbors}
use Rattle.neighbors.specs.State.{table_in, waiting_in, rows, waits, state_in, with_rows, with_waits}
use Rattle.neighbor_loads.specs.declared.NeighborsReply.{NeighborsReply}

-- what is answered, and the state after it
abbrev pub replied : Neighbors → Said → NeighborsReply
replied s said = record { answer = spoken said; state = s }

-- done; no call
abbrev pub loaded : Neighbors → NeighborsReply
loaded s = replied s (ok [])

abbrev pub no_call : Neighbors → NeighborsReply
no_call s = replied s bad

-- the state with one of its tables replaced
abbrev pub with_neighbors : Neighbors → neighbours.NeighborTable → Neighbors
with_neighbors s t = state_in t (waiting_in s)

abbrev pub with_waiting : Neighbors → senders.WaitingTable → Neighbors
with_waiting s t = state_in (table_in s) t

-- an entry under its key, over the one that is there or in a free place
unfoldable pub neighbor_put : NeighborEntry → Neighbors → NeighborsReply
neighbor_put e s =
    cond (neighbours.formed64 (table_in s))
    (cond (leb (count_with neighbor_key (neighbor_key e) (rows s)) 64) (loaded (with_rows s (put neighbor_key e (rows s)))) (no_call s))
    (no_call s)

unfoldable pub put_neighbor : Neighbors → List ℕ → NeighborsReply
put_neighbor s args = neighbor_put (neighbor_at args 0) s

-- damage: the table's count, and the key at a place within the table
unfoldable pub set_neighbor_count : Neighbors → List ℕ → NeighborsReply
set_neighbor_count s args = loaded (with_neighbors s (with_count (number_at args 0) (table_in s)))

unfoldable pub set_neighbor_key : Neighbors → List ℕ → NeighborsReply
set_neighbor_key s args =
    cond (leb 64 (number_at args 0))
    (no_call s)
    (loaded (with_neighbors s (with_keys (set s.keys (number_at args 0) (number_at args 1)) (table_in s))))

-- an entry under its key, over the one that is there or in a free place
unfoldable pub waiting_put : WaitingEntry → Neighbors → NeighborsReply
waiting_put e s =
    cond (senders.formed64 (waiting_in s))
    (cond (leb (count_with waiting_key (waiting_key e) (waits s)) 64) (loaded (with_waits s (put waiting_key e (waits s)))) (no_call s))
    (no_call s)

unfoldable pub put_waiting : Neighbors → List ℕ → NeighborsReply
put_waiting s args = waiting_put (waiting_entry_at args 0) s

-- damage: the table's count, and the key at a place within the table, a number that its column holds
unfoldable pub set_waiting_count : Neighbors → List ℕ → NeighborsReply
set_waiting_count s args = loaded (with_waiting s (senders.in_columns s.senders s.samples (number_at args 0)))

unfoldable pub set_waiting_key : Neighbors → List ℕ → NeighborsReply
set_waiting_key s args =
    cond (leb 64 (number_at args 0) || ltb 65535 (number_at args 1))
    (no_call s)
    (loaded (with_waiting s (senders.in_columns (set s.senders (number_at args 0) (number_at args 1)) s.samples s.waiting)))
