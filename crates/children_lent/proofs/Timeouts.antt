-- A row that was found, after a keepalive: what is stored is the row with its new deadline.
use Rattle.std.specs.Prelude.{Option, Some, None}
use Prim.Native.Nat.{ℕ, ◌<◌}
use mathlib.Core.List.{List}
use mathlib.Core.Path.{◌≡◌, refl, sym, ap, ◌∙◌, subst}
use lib.ListN.{get_or, set}
use Rattle.types.specs.Clock.{time_sum}
use Rattle.types.specs.declared.Nwk.{Nwk}
use Rattle.standard.specs.Ordered.{put}
use Rattle.standard.specs.Query.{first}
use Rattle.neighbor_table.specs.declared.NeighborEntry.{NeighborEntry}
use Rattle.neighbor_table.specs.Entry.{neighbor_key}
use Rattle.neighbor_queries.specs.declared.Filter.TheVariants.{EndDeviceChildAt}
use Rattle.neighbor_queries.specs.Filter.{fits}
use Rattle.neighbor_changes.specs.declared.Change.TheVariants.{Keepalive, Timeout}
use Rattle.neighbor_changes.specs.Change.{applied}
use Rattle.neighbor_columns.specs.declared.LinkPart.{LinkPart}
use Rattle.neighbor_columns.specs.declared.CountsPart.{CountsPart}
use Rattle.neighbor_columns.specs.Codec.{link_of, counts_of, neighbor_from, neighbor_in, part_sound, CleanLink}
use Rattle.neighbor_columns.specs.Table.{NeighborTable, rows_of, row_at, WellFormed, Holds}
use Rattle.neighbor_columns.specs.Lent.{with_links, with_counts, with_deadlines, with_periods}
use Rattle.neighbor_columns.proofs.Rows.{sound-part, sound-row, changed-holds, unchanged-holds}
use Rattle.neighbor_columns.proofs.Stored.{link-deadline-words-stored, timeout-words-stored}
use Rattle.children_lent.specs.Parts.{kept_link, configured}
use Rattle.children_lent.specs.Rules.{timed, kept_by, refresh_answer, refreshed, set_answer, retimed}

period-read : (t : NeighborTable) (i : ℕ) → (row_at t i).device_timeout ≡ get_or t.periods i 0
unfolding neighbor_from
period-read t i = refl

as-sound : (p : LinkPart) → part_sound (kept_link p) ≡ part_sound p
unfolding part_sound
as-sound p = refl

row_kept : (key nwk : ℕ) (l : LinkPart) (p : CountsPart) (at deadline period heard added beacon bytes : ℕ)
    → neighbor_from key nwk (kept_link l) p at period heard added beacon bytes ≡ applied (Keepalive at) (neighbor_from key nwk l p deadline period heard added beacon bytes)
unfolding neighbor_from applied
row_kept key nwk l p at deadline period heard added beacon bytes = refl

-- what a deadline answers and leaves of a neighbour that is known
module _ (t : NeighborTable) (o : Option NeighborEntry) (i now : ℕ) (s : Option ℕ) (q : o ≡ Some (row_at t i)) (e : s ≡ time_sum now (get_or t.periods i 0)) where
  sum_is : time_sum now (row_at t i).device_timeout ≡ s
  sum_is = ap (time_sum now) (period-read t i) ∙ sym e

  pub refresh-told : timed s ≡ refresh_answer now o
  refresh-told = sym (ap (refresh_answer now) q ∙ ap timed sum_is)

  pub refresh-rows : (xs : List NeighborEntry) → kept_by (row_at t i) s xs ≡ refreshed now o xs
  refresh-rows xs = sym (ap (λ (x : Option NeighborEntry). refreshed now x xs) q ∙ ap (λ (x : Option ℕ). kept_by (row_at t i) x xs) sum_is)

-- the link word of a keepalive and its deadline, stored
pub kept-held : (t : NeighborTable) → WellFormed t → (i : ℕ) → i < t.count → (v at : ℕ) → link_of v ≡ kept_link (link_of (get_or t.links i 0)) → CleanLink v
    → Holds (with_links (set t.links i v) (with_deadlines (set t.deadlines i at) t)) (put neighbor_key (applied (Keepalive at) (row_at t i)) (rows_of t))
kept-held t w i h v at e c =
    changed-holds t w (applied (Keepalive at)) (Some (row_at t i)) _ i (neighbor_in (get_or t.keys i 0) (get_or t.nwks i 0) v (get_or t.counts i 0) at (get_or t.periods i 0) (get_or t.heard i 0) (get_or t.added i 0) (get_or t.beacons i 0) (get_or t.bytes i 0)) refl
    ((λ z. neighbor_from (get_or t.keys i 0) (get_or t.nwks i 0) (e z) (counts_of (get_or t.counts i 0)) at (get_or t.periods i 0) (get_or t.heard i 0) (get_or t.added i 0) (get_or t.beacons i 0) (get_or t.bytes i 0))
    ∙ row_kept _ _ _ _ _ _ _ _ _ _ _)
    (sound-part _ _ _ _ _ _ _ _ _ _ ∙ ap part_sound e ∙ as-sound _ ∙ sym (sound-part _ _ _ _ _ _ _ _ _ _) ∙ sound-row t w.formed w.sound i h)
    (link-deadline-words-stored t w.formed i h v at c)

-- the same, as the rule on the rows says it
pub refresh-held : (t : NeighborTable) → WellFormed t → (i : ℕ) → i < t.count → (v at : ℕ) → link_of v ≡ kept_link (link_of (get_or t.links i 0)) → CleanLink v
    → (o : Option NeighborEntry) (now : ℕ) → o ≡ Some (row_at t i) → Some at ≡ time_sum now (get_or t.periods i 0)
    → Holds (with_links (set t.links i v) (with_deadlines (set t.deadlines i at) t)) (refreshed now o (rows_of t))
refresh-held t w i h v at e c o now q s =
    subst (Holds (with_links (set t.links i v) (with_deadlines (set t.deadlines i at) t))) (refresh-rows t o i now (Some at) q s (rows_of t)) (kept-held t w i h v at e c)

-- a table that is left as it is
pub same-holds : (t : NeighborTable) → WellFormed t → (xs : List NeighborEntry) → rows_of t ≡ xs → Holds t xs
same-holds t w xs q = record { formed = w; rows = q }

-- another period: what it answers, what is left where there is no such child, and what is stored
pub set_told : (o : Option NeighborEntry) (e : NeighborEntry) → o ≡ Some e → (due s : Option ℕ) → s ≡ due → timed s ≡ set_answer due o
set_told o e q due s p = ap timed p ∙ sym (ap (set_answer due) q)

row-retimed : (key nwk : ℕ) (l : LinkPart) (p : CountsPart) (at deadline timeout period configuration heard added beacon bytes : ℕ)
    → neighbor_from key nwk (kept_link l) (configured configuration p) at timeout heard added beacon bytes ≡ applied (Timeout timeout configuration at) (neighbor_from key nwk l p deadline period heard added beacon bytes)
unfolding neighbor_from applied
row-retimed key nwk l p at deadline timeout period configuration heard added beacon bytes = refl

module _ (t : NeighborTable) (w : WellFormed t) where
  pub set-unknown : (nwk : Nwk) (timeout configuration : ℕ) → first (fits (EndDeviceChildAt nwk)) (rows_of t) ≡ None → (due : Option ℕ) → Holds t (retimed nwk timeout configuration due (rows_of t))
  set-unknown nwk timeout configuration q (Some at) = unchanged-holds t w (applied (Timeout timeout configuration at)) _ q
  set-unknown nwk timeout configuration q None = same-holds t w _ refl

  pub set-held : (i : ℕ) → i < t.count → (nwk : Nwk) (timeout configuration : ℕ) → first (fits (EndDeviceChildAt nwk)) (rows_of t) ≡ Some (row_at t i)
      → (v u at : ℕ) → link_of v ≡ kept_link (link_of (get_or t.links i 0)) → CleanLink v → counts_of u ≡ configured configuration (counts_of (get_or t.counts i 0))
      → (due : Option ℕ) → Some at ≡ due
      → Holds (with_links (set t.links i v) (with_counts (set t.counts i u) (with_deadlines (set t.deadlines i at) (with_periods (set t.periods i timeout) t)))) (retimed nwk timeout configuration due (rows_of t))
  set-held i h nwk timeout configuration q v u at e c g due s =
      subst (λ (x : Option ℕ). Holds (with_links (set t.links i v) (with_counts (set t.counts i u) (with_deadlines (set t.deadlines i at) (with_periods (set t.periods i timeout) t)))) (retimed nwk timeout configuration x (rows_of t))) s
      (changed-holds t w (applied (Timeout timeout configuration at)) _ _ i (neighbor_in (get_or t.keys i 0) (get_or t.nwks i 0) v u at timeout (get_or t.heard i 0) (get_or t.added i 0) (get_or t.beacons i 0) (get_or t.bytes i 0)) q
      ((λ z. neighbor_from (get_or t.keys i 0) (get_or t.nwks i 0) (e z) (g z) at timeout (get_or t.heard i 0) (get_or t.added i 0) (get_or t.beacons i 0) (get_or t.bytes i 0))
      ∙ row-retimed _ _ _ _ _ _ _ _ _ _ _ _ _)
      (sound-part _ _ _ _ _ _ _ _ _ _ ∙ ap part_sound e ∙ as-sound _ ∙ sym (sound-part _ _ _ _ _ _ _ _ _ _) ∙ sound-row t w.formed w.sound i h)
      (timeout-words-stored t w.formed i h v u at timeout c))
