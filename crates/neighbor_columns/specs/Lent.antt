-- A call is lent only the columns that it touches. What it says holds of every table that has these columns, whatever stands in the others:
-- a table is given by a table t, in which the lent columns take the place of t's own.
-- Assumes nothing.
use Rattle.std.specs.Prelude.{ℕ, List}
use Rattle.neighbor_table.specs.declared.NeighborEntry.{NeighborEntry}
use Rattle.neighbor_columns.specs.Table.{NeighborTable, in_columns, rows_of, Formed64, WellFormed, Holds}

-- t with another column or count
abbrev pub with_keys : List ℕ → NeighborTable → NeighborTable
with_keys c t = in_columns c t.nwks t.links t.counts t.deadlines t.periods t.heard t.added t.beacons t.bytes t.count

abbrev pub with_nwks : List ℕ → NeighborTable → NeighborTable
with_nwks c t = in_columns t.keys c t.links t.counts t.deadlines t.periods t.heard t.added t.beacons t.bytes t.count

abbrev pub with_links : List ℕ → NeighborTable → NeighborTable
with_links c t = in_columns t.keys t.nwks c t.counts t.deadlines t.periods t.heard t.added t.beacons t.bytes t.count

abbrev pub with_counts : List ℕ → NeighborTable → NeighborTable
with_counts c t = in_columns t.keys t.nwks t.links c t.deadlines t.periods t.heard t.added t.beacons t.bytes t.count

abbrev pub with_deadlines : List ℕ → NeighborTable → NeighborTable
with_deadlines c t = in_columns t.keys t.nwks t.links t.counts c t.periods t.heard t.added t.beacons t.bytes t.count

abbrev pub with_periods : List ℕ → NeighborTable → NeighborTable
with_periods c t = in_columns t.keys t.nwks t.links t.counts t.deadlines c t.heard t.added t.beacons t.bytes t.count

abbrev pub with_heard : List ℕ → NeighborTable → NeighborTable
with_heard c t = in_columns t.keys t.nwks t.links t.counts t.deadlines t.periods c t.added t.beacons t.bytes t.count

abbrev pub with_added : List ℕ → NeighborTable → NeighborTable
with_added c t = in_columns t.keys t.nwks t.links t.counts t.deadlines t.periods t.heard c t.beacons t.bytes t.count

abbrev pub with_beacons : List ℕ → NeighborTable → NeighborTable
with_beacons c t = in_columns t.keys t.nwks t.links t.counts t.deadlines t.periods t.heard t.added c t.bytes t.count

abbrev pub with_bytes : List ℕ → NeighborTable → NeighborTable
with_bytes c t = in_columns t.keys t.nwks t.links t.counts t.deadlines t.periods t.heard t.added t.beacons c t.count

abbrev pub with_count : ℕ → NeighborTable → NeighborTable
with_count n t = in_columns t.keys t.nwks t.links t.counts t.deadlines t.periods t.heard t.added t.beacons t.bytes n

-- the keys and the count lent, and besides them columns that many calls read
abbrev pub lent_keys : List ℕ → ℕ → NeighborTable → NeighborTable
lent_keys keys n t = with_keys keys (with_count n t)

abbrev pub lent_links : List ℕ → List ℕ → ℕ → NeighborTable → NeighborTable
lent_links keys links n t = with_links links (lent_keys keys n t)

abbrev pub lent_counts : List ℕ → List ℕ → ℕ → NeighborTable → NeighborTable
lent_counts keys counts n t = with_counts counts (lent_keys keys n t)

abbrev pub seen : List ℕ → List ℕ → List ℕ → ℕ → NeighborTable → NeighborTable
seen keys nwks links n t = with_nwks nwks (lent_links keys links n t)

-- an answer from some columns is P of the rows of every table that has them
abbrev pub Asked : (NeighborTable → NeighborTable) → (List NeighborEntry → Type 0) → Type 0
Asked table P = (t : NeighborTable) → Formed64 (table t) → P (rows_of (table t))

-- the same where the answer needs rows that are sound
abbrev pub AskedSound : (NeighborTable → NeighborTable) → (List NeighborEntry → Type 0) → Type 0
AskedSound table P = (t : NeighborTable) → WellFormed (table t) → P (rows_of (table t))

-- some columns were changed: in every table that has them, this is `rule` on the rows
abbrev pub Changed : (NeighborTable → NeighborTable) → (NeighborTable → NeighborTable) → (List NeighborEntry → List NeighborEntry) → Type 0
Changed before after rule = (t : NeighborTable) → WellFormed (before t) → Holds (after t) (rule (rows_of (before t)))
