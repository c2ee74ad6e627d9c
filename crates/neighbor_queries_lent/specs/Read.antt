-- What is read of a neighbour from some of its numbers, whatever the others are, and the columns that a question is lent.
-- Assumes nothing.
use Rattle.std.specs.Prelude.{ℕ, ◌≤◌, ◌<◌, ◌≡◌, Bool, List, [], length, map}
use Rattle.standard.specs.Ordered.{keep}
use Rattle.flat_map.specs.Rows.{pad}
use Rattle.columns.specs.Columns.{Long}
use Rattle.neighbor_table.specs.declared.NeighborEntry.{NeighborEntry}
use Rattle.neighbor_columns.specs.Codec.{neighbor_in}
use Rattle.neighbor_columns.specs.Lent.{with_nwks, with_links, with_deadlines, with_count, seen}
use Rattle.neighbor_columns.specs.Table.{NeighborTable, Formed64, rows_of, row_at}
use Rattle.neighbor_queries.specs.declared.Filter.{Filter}
use Rattle.neighbor_queries.specs.declared.Filter.TheVariants.{Address, EndDeviceChild, EndDeviceChildAt, SleepyChild, SleepyChildAt, LiveRouter, LiveLinkAt, SampledRouter, TimedOut}

-- P of every neighbour with this network address and link word
abbrev pub InRow : ℕ → ℕ → (NeighborEntry → Type 0) → Type 0
InRow nwk word P =
    (key counts deadline period late new beacon bytes : ℕ) → P (neighbor_in key nwk word counts deadline period late new beacon bytes)

-- P of every neighbour with this link word and deadline
abbrev pub InTime : ℕ → ℕ → (NeighborEntry → Type 0) → Type 0
InTime word deadline P =
    (key nwk counts period late new beacon bytes : ℕ) → P (neighbor_in key nwk word counts deadline period late new beacon bytes)

-- a filter that reads no deadline
abbrev pub Untimed : Filter → Type 0
Untimed (Address nwk) = Unit {0}
Untimed EndDeviceChild = Unit {0}
Untimed (EndDeviceChildAt nwk) = Unit {0}
Untimed SleepyChild = Unit {0}
Untimed (SleepyChildAt nwk) = Unit {0}
Untimed LiveRouter = Unit {0}
Untimed (LiveLinkAt nwk) = Unit {0}
Untimed SampledRouter = Unit {0}
Untimed (TimedOut now) = ⊥

-- columns of 64 places, of which n are in use
abbrev pub InUse : ℕ → List (List ℕ) → Type 0
InUse n columns = (n ≤ 64) × Long 64 columns

-- the table t with the columns that are lent
abbrev pub lent_nwks : List ℕ → ℕ → NeighborTable → NeighborTable
lent_nwks nwks n t = with_nwks nwks (with_count n t)

abbrev pub lent_words : List ℕ → List ℕ → ℕ → NeighborTable → NeighborTable
lent_words nwks links n t = with_links links (lent_nwks nwks n t)

abbrev pub lent_deadlines : List ℕ → List ℕ → List ℕ → ℕ → NeighborTable → NeighborTable
lent_deadlines nwks links deadlines n t = with_deadlines deadlines (lent_words nwks links n t)

abbrev pub lent_times : List ℕ → List ℕ → ℕ → NeighborTable → NeighborTable
lent_times links deadlines n t = with_deadlines deadlines (with_links links (with_count n t))

abbrev pub lent_expiry : List ℕ → List ℕ → List ℕ → List ℕ → ℕ → NeighborTable → NeighborTable
lent_expiry keys nwks links deadlines n t = with_deadlines deadlines (seen keys nwks links n t)

-- Of any table with so many rows, and whatever is asked and read of a row: where the tests tell whether each row fits and the readings are
-- what is read off it, n is how many rows fit, and an array that was blank has what is read off them, in their order.
abbrev pub Gathered : {A : Type 0} → (ℕ → Bool → Type 0) → (ℕ → A → Type 0) → ℕ → List A → List A → ℕ → Type 0
Gathered {A} tests reads count old new n =
    (t : NeighborTable) (fit : NeighborEntry → Bool) (g : NeighborEntry → A) (blank : A) → Formed64 t → t.count ≡ count → old ≡ pad 64 blank []
    → ((i : ℕ) (b : Bool) → i < count → tests i b → b ≡ fit (row_at t i)) → ((i : ℕ) (x : A) → i < count → reads i x → x ≡ g (row_at t i))
    → (n ≡ length (map g (keep fit (rows_of t)))) × (new ≡ pad 64 blank (map g (keep fit (rows_of t))))
