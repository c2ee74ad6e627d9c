-- The rows that stay of a well-formed table are sound; and where no child goes, all rows stay.
use Prim.Native.Nat.{ℕ}
use native.Mathlib.Omega.{arith}
use mathlib.Core.Bool.{Bool, true, false, cond, not}
use mathlib.Core.List.{List, [], ◌∷◌, map}
use mathlib.Core.Path.{◌≡◌, refl, sym, ap, ◌∙◌}
use lib.ListN.{length}
use Rattle.standard.specs.Ordered.{keep}
use Rattle.flat_map.proofs.Every.{every-keep}
use Rattle.neighbor_table.specs.declared.NeighborEntry.{NeighborEntry}
use Rattle.neighbor_table.specs.Entry.{is_sound}
use Rattle.neighbor_columns.specs.Table.{NeighborTable, rows_of, WellFormed, Keeps, Holds}
use Rattle.neighbor_columns.proofs.Rows.{keeps-holds}
use Rattle.neighbor_queries.specs.declared.ChildList.{ChildList}
use Rattle.neighbor_queries.specs.declared.Filter.TheVariants.{TimedOut}
use Rattle.neighbor_queries.specs.Filter.{fits}
use Rattle.neighbor_queries.specs.Lists.{child_of, child_list}
use Rattle.neighbor_changes.specs.Change.{misses}
use Rattle.children_evict_lent.specs.Rules.{evicted, evict_timed_out_children}

-- where none fits, all miss
all_stay : (p : NeighborEntry → Bool) (xs : List NeighborEntry) → length (map child_of (keep p xs)) ≡ 0 → keep (λ e. not (p e)) xs ≡ xs
all_stay p [] h = refl
all_stay p (x ∷ xs) h = go (p x) h (all_stay p xs) where
  go : (b : Bool) → length (map child_of (cond b (x ∷ keep p xs) (keep p xs))) ≡ 0 → (length (map child_of (keep p xs)) ≡ 0 → keep (λ e. not (p e)) xs ≡ xs)
      → cond (not b) (x ∷ keep (λ e. not (p e)) xs) (keep (λ e. not (p e)) xs) ≡ x ∷ xs
  go true h rest = absurd (omega (arith, h))
  go false h rest = ap (λ (l : List NeighborEntry). x ∷ l) (rest h)

module _ (t : NeighborTable) (w : WellFormed t) (now : ℕ) where
  pub none-goes : (l : ChildList) → l ≡ evicted now (rows_of t) → l.count ≡ 0 → Holds t (evict_timed_out_children now (rows_of t))
  unfolding child_list
  none-goes l e h = record { formed = w; rows = sym (all_stay (fits (TimedOut now)) (rows_of t) (sym (ap (λ (x : ChildList). x.count) e) ∙ h)) }

  pub swept-holds : (u : NeighborTable) → Keeps u (evict_timed_out_children now (rows_of t)) → Holds u (evict_timed_out_children now (rows_of t))
  swept-holds u k = keeps-holds u (evict_timed_out_children now (rows_of t)) k (every-keep is_sound (misses (TimedOut now)) (rows_of t) w.sound)
