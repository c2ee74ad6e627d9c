-- The neighbours by value: the columns of two tables, each read as its rows.
-- Document 01, "Added by this port": "a fresh state with empty tables"; "Refusal numbers": "Well formed".
-- Assumes nothing.
use Rattle.std.specs.Prelude.{ℕ, Bool, ◌&&◌, List, [], Ok}
use Rattle.neighbor_table.specs.declared.NeighborEntry.{NeighborEntry}
use Rattle.neighbor_columns.specs.Table as neighbours
use Rattle.waiting_table.specs.declared.WaitingEntry.{WaitingEntry}
use Rattle.waiting_columns.specs.Table as waiting
use Rattle.neighbors.specs.declared.Neighbors.{Neighbors}
use Rattle.neighbors.specs.declared.Outcome.{Outcome}

-- the two tables of a state
abbrev pub table_in : Neighbors → neighbours.NeighborTable
table_in s =
    neighbours.in_columns s.keys s.nwks s.links s.counts s.deadlines s.periods s.heard s.added s.beacons s.bytes s.count

abbrev pub waiting_in : Neighbors → waiting.WaitingTable
waiting_in s = waiting.in_columns s.senders s.samples s.waiting

pub record WellFormed (s : Neighbors) : Type 0 where
  pub table : neighbours.WellFormed (table_in s)
  pub pending : waiting.WellFormed (waiting_in s)

-- `WellFormed`, computed
abbrev pub formed_in : neighbours.NeighborTable → waiting.WaitingTable → Bool
formed_in t w = neighbours.well_formed t && waiting.well_formed w

unfoldable pub well_formed : Neighbors → Bool
well_formed s = formed_in (table_in s) (waiting_in s)

-- the neighbours, in order of extended address
abbrev pub rows : Neighbors → List NeighborEntry
rows s = neighbours.rows_of (table_in s)

-- the senders whose samples wait, in order of network address
abbrev pub waits : Neighbors → List WaitingEntry
waits s = waiting.rows_of (waiting_in s)

-- the state of two tables
abbrev pub state_in : neighbours.NeighborTable → waiting.WaitingTable → Neighbors
state_in t w = record {
  keys = t.keys;
  nwks = t.nwks;
  links = t.links;
  counts = t.counts;
  deadlines = t.deadlines;
  periods = t.periods;
  heard = t.heard;
  added = t.added;
  beacons = t.beacons;
  bytes = t.bytes;
  count = t.count;
  senders = w.keys;
  samples = w.samples;
  waiting = w.count;
}

-- the state of neighbours and waiting samples
abbrev pub state_of : List NeighborEntry → List WaitingEntry → Neighbors
state_of xs ws = state_in (neighbours.table_of xs) (waiting.table_of ws)

abbrev pub fresh : Neighbors
fresh = state_of [] []

-- the state with other neighbours, and with other waiting samples
abbrev pub with_rows : Neighbors → List NeighborEntry → Neighbors
with_rows s xs = state_in (neighbours.table_of xs) (waiting_in s)

abbrev pub with_waits : Neighbors → List WaitingEntry → Neighbors
with_waits s ws = state_in (table_in s) (waiting.table_of ws)

-- done, with other neighbours
abbrev pub done_with : Neighbors → List NeighborEntry → Outcome
done_with s xs = record { answer = Ok tt; state = with_rows s xs }
