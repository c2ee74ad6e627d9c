-- The state's test tells its well-formedness, table by table; columns that hold rows, put back, are the rows put back; so a well-formed state is its rows.
use mathlib.Core.Bool.{Bool}
use mathlib.Core.List.{List}
use mathlib.Core.Path.{◌≡◌, refl, ap}
use Rattle.standard.specs.Tells.{Tells}
use Rattle.standard.proofs.Tells.{tells_both, tells-so}
use Rattle.neighbor_table.specs.declared.NeighborEntry.{NeighborEntry}
use Rattle.neighbor_columns.specs.Table as neighbours
use Rattle.neighbor_columns.proofs.Rows as neighbour-rows
use Rattle.waiting_table.specs.declared.WaitingEntry.{WaitingEntry}
use Rattle.waiting_columns.specs.Table as waiting
use Rattle.waiting_columns.proofs.Rows as waiting-rows
use Rattle.neighbors.specs.declared.Neighbors.{Neighbors}
use Rattle.neighbors.specs.State.{WellFormed, well_formed, formed_in, table_in, waiting_in, state_in, rows, waits, with_rows, with_waits}

pub state-told : (s : Neighbors) → Tells (WellFormed s) (well_formed s)
unfolding well_formed
state-told s =
    tells-so (λ p. record { table = p.0; pending = p.1 }) (λ w. (w.table, w.pending))
    (tells_both (neighbour-rows.well-formed-told (table_in s)) (waiting-rows.well-formed-told (waiting_in s)))

-- the test of the columns is that of the state
pub columns-told : (s : Neighbors) {r : Bool} → r ≡ formed_in (table_in s) (waiting_in s) → r ≡ well_formed s
unfolding well_formed
columns-told s e = e

-- columns that hold rows, put back, are the rows put back
pub held : (s : Neighbors) (t : neighbours.NeighborTable) (xs : List NeighborEntry) → neighbours.Holds t xs → state_in t (waiting_in s) ≡ with_rows s xs
held s t xs h = ap (λ (u : neighbours.NeighborTable). state_in u (waiting_in s)) (neighbour-rows.holds-table t xs h)

pub held-waiting : (s : Neighbors) (t : waiting.WaitingTable) (ws : List WaitingEntry) → waiting.Holds t ws → state_in (table_in s) t ≡ with_waits s ws
held-waiting s t ws h = ap (state_in (table_in s)) (waiting-rows.holds-table t ws h)

pub held_both : (t : neighbours.NeighborTable) (xs : List NeighborEntry) (u : waiting.WaitingTable) (ws : List WaitingEntry) → neighbours.Holds t xs → waiting.Holds u ws
    → state_in t u ≡ state_in (neighbours.table_of xs) (waiting.table_of ws)
held_both t xs u ws h k = λ z. state_in (neighbour-rows.holds-table t xs h z) (waiting-rows.holds-table u ws k z)

-- a well-formed state is its rows, and so a call that leaves the rows leaves the state
pub rows-kept : (s : Neighbors) → WellFormed s → s ≡ with_rows s (rows s)
rows-kept s w = held s (table_in s) (rows s) (record { formed = w.table; rows = refl })

pub waits_kept : (s : Neighbors) → WellFormed s → s ≡ with_waits s (waits s)
waits_kept s w = held-waiting s (waiting_in s) (waits s) (record { formed = w.pending; rows = refl })
