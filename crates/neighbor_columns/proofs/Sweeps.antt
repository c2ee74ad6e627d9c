-- Loops over a table: one that takes out what fails a test, and one that changes every row in its place. The laws of columns, for ten.
use Prim.Native.Nat.{ℕ, ◌+◌, ◌<◌, ◌≤◌}
use mathlib.Core.Bool.{Bool, true, false}
use mathlib.Core.List.{List, ◌∷◌, map}
use mathlib.Core.Path.{◌≡◌, subst, ◌∙◌}
use lib.ListN.{get_or, set}
use Rattle.standard.specs.Ordered.{keep}
use Rattle.columns.proofs.Rows as rows
use Rattle.columns.proofs.Sweep as sweep
use Rattle.neighbor_table.specs.declared.NeighborEntry.{NeighborEntry}
use Rattle.neighbor_table.specs.Entry.{neighbor_key, blank_neighbor}
use Rattle.neighbor_columns.specs.Codec.{neighbor_numbers, neighbor_of, neighbor_in, Clean, InRange}
use Rattle.neighbor_columns.specs.Lent.{with_counts}
use Rattle.neighbor_columns.specs.Table.{NeighborTable, in_columns, others, rows_of, row_at, Formed64, Keeps, replaced, removed}
use Rattle.neighbor_columns.proofs.Codec.{codec, read-in-range}
use Rattle.neighbor_columns.proofs.Rows.{table-sound, sound-formed}
use Rattle.neighbor_columns.proofs.Stored.{stored-numbers}

-- i rows are passed, and the rest of the sweep leaves the rows `goal`
abbrev pub Sweeping : (NeighborEntry → Bool) → List NeighborEntry → NeighborTable → ℕ → Type 0
Sweeping p goal t i = sweep.Sweeping 64 10 neighbor_key blank_neighbor neighbor_of neighbor_numbers Clean InRange codec p goal t.keys (others t) t.count i

module _ (p : NeighborEntry → Bool) (t : NeighborTable) where
  pub sweep-begins : Formed64 t → Sweeping p (keep p (rows_of t)) t 0
  sweep-begins f = sweep.sweep-begins 64 10 neighbor_key blank_neighbor neighbor_of neighbor_numbers Clean InRange codec p t.keys (others t) t.count (table-sound t f)

  module _ (goal : List NeighborEntry) (i : ℕ) (s : Sweeping p goal t i) where
    pub sweep-formed : Formed64 t
    sweep-formed = sound-formed t s.sound

    pub sweep-passes : i < t.count → p (row_at t i) ≡ true → Sweeping p goal t (i + 1)
    sweep-passes = sweep.sweep-passes 64 10 neighbor_key blank_neighbor neighbor_of neighbor_numbers Clean InRange codec p t.keys (others t) t.count goal i s

    pub sweep-takes : i < t.count → p (row_at t i) ≡ false → Sweeping p goal (removed t i) i
    sweep-takes = sweep.sweep-takes 64 10 neighbor_key blank_neighbor neighbor_of neighbor_numbers Clean InRange codec p t.keys (others t) t.count goal i s

    pub sweep-ends : t.count ≤ i → Keeps t goal
    sweep-ends h = record { formed = sweep-formed; rows = sweep.sweep-ends 64 10 neighbor_key blank_neighbor neighbor_of neighbor_numbers Clean InRange codec p t.keys (others t) t.count goal i s h }

-- the rows of t₀ before i are changed by g, those from i on are as they were
abbrev pub Mapping : (NeighborEntry → NeighborEntry) → NeighborTable → NeighborTable → ℕ → Type 0
Mapping g t₀ t i = sweep.Mapping 64 10 neighbor_key blank_neighbor neighbor_of neighbor_numbers Clean InRange codec g t₀.keys (others t₀) (others t) t₀.count i

module _ (g : NeighborEntry → NeighborEntry) (same : (x : NeighborEntry) → neighbor_key (g x) ≡ neighbor_key x) (t₀ : NeighborTable) (f₀ : Formed64 t₀) where
  pub map-begins : Mapping g t₀ t₀ 0
  map-begins = sweep.map-begins 64 10 neighbor_key blank_neighbor neighbor_of neighbor_numbers Clean InRange codec g same t₀.keys (others t₀) t₀.count (table-sound t₀ f₀)

  -- a table with the keys and the count of t₀
  abbrev whole : NeighborTable → NeighborTable
  whole t = in_columns t₀.keys t.nwks t.links t.counts t.deadlines t.periods t.heard t.added t.beacons t.bytes t₀.count

  module _ (t : NeighborTable) (i : ℕ) (m : Mapping g t₀ t i) where
    pub map-formed : Formed64 (whole t)
    map-formed = sound-formed (whole t) m.sound

    pub map-turns : i < t₀.count → (e : NeighborEntry) → InRange e → e ≡ g (row_at (whole t) i) → Mapping g t₀ (replaced t i e) (i + 1)
    map-turns l e r q = sweep.map-turns 64 10 neighbor_key blank_neighbor neighbor_of neighbor_numbers Clean InRange codec g same t₀.keys (others t₀) t₀.count (table-sound t₀ f₀) (others t) i m l e r q

    -- a change of the counts word alone
    pub map-counts : i < t₀.count → (v : ℕ)
        → neighbor_in (get_or t₀.keys i 0) (get_or t.nwks i 0) (get_or t.links i 0) v (get_or t.deadlines i 0) (get_or t.periods i 0) (get_or t.heard i 0) (get_or t.added i 0) (get_or t.beacons i 0) (get_or t.bytes i 0)
        ≡ g (row_at (whole t) i) → Mapping g t₀ (with_counts (set t.counts i v) t) (i + 1)
    map-counts l v q =
        subst (λ (u : NeighborTable). Mapping g t₀ u (i + 1))
        (stored-numbers t i _ _ _ v _ _ _ _ _ _ (map-formed.clean i)
        ∙ (λ z. in_columns t.keys (rows.set_same t.nwks i z) (rows.set_same t.links i z) (set t.counts i v) (rows.set_same t.deadlines i z) (rows.set_same t.periods i z) (rows.set_same t.heard i z) (rows.set_same t.added i z) (rows.set_same t.beacons i z) (rows.set_same t.bytes i z) t.count))
        (map-turns l _ (read-in-range _ _ _ _ _ _ _ _ _ _) q)

    pub map-ends : t₀.count ≤ i → Keeps (whole t) (map g (rows_of t₀))
    map-ends h = record { formed = map-formed; rows = sweep.map-ends 64 10 neighbor_key blank_neighbor neighbor_of neighbor_numbers Clean InRange codec g same t₀.keys (others t₀) t₀.count (table-sound t₀ f₀) (others t) i m h }
