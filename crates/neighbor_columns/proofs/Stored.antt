-- Numbers stored in some columns at a place in use are `put` of the row that these numbers give: in all columns, and in those that calls change.
-- Where a word is that of a part, the row has the part.
use Rattle.std.specs.Prelude.{Ok}
use Prim.Native.Nat.{ℕ, ◌+◌, ◌<◌}
use mathlib.Core.Path.{◌≡◌, sym, ap, ◌∙◌, subst}
use lib.ListN.{take, get_or, set}
use Rattle.standard.specs.Ordered.{put}
use Rattle.flat_map.specs.Seek.{place_of}
use Rattle.flat_map.specs.Shift.{shift_in}
use Rattle.columns.proofs.Rows as rows
use Rattle.neighbor_columns.specs.declared.LinkPart.{LinkPart}
use Rattle.neighbor_columns.specs.declared.CountsPart.{CountsPart}
use Rattle.neighbor_columns.specs.declared.Words.{Words}
use Rattle.neighbor_table.specs.declared.NeighborEntry.{NeighborEntry}
use Rattle.neighbor_table.specs.Entry.{neighbor_key}
use Rattle.neighbor_columns.specs.Codec.{link_of, link_word, counts_of, counts_word, neighbor_numbers, numbers_in, neighbor_from, neighbor_in, CleanLink, LinkRange, CountsRange}
use Rattle.neighbor_columns.specs.Lent.{with_nwks, with_links, with_counts, with_deadlines, with_periods}
use Rattle.neighbor_columns.specs.Table.{NeighborTable, in_columns, rows_of, Formed64, Keeps, replaced, inserted}
use Rattle.neighbor_columns.proofs.Codec.{link-back, link-clean, counts-back, key-read, read-in-range, numbers-read}
use Rattle.neighbor_columns.proofs.Rows.{own-place, stored-over}

-- what is stored of a row that is read from numbers are these numbers
pub stored-numbers : (t : NeighborTable) (i : ℕ) (key nwk link counts deadline period late new beacon bytes : ℕ) → CleanLink link
    → replaced t i (neighbor_in key nwk link counts deadline period late new beacon bytes) ≡ in_columns t.keys (set t.nwks i nwk) (set t.links i link) (set t.counts i counts) (set t.deadlines i deadline) (set t.periods i period) (set t.heard i late) (set t.added i new) (set t.beacons i beacon) (set t.bytes i bytes) t.count
stored-numbers t i key nwk link counts deadline period late new beacon bytes c =
    let q = numbers-read key nwk link counts deadline period late new beacon bytes c in
    λ z. in_columns t.keys (set t.nwks i (get_or (q z) 1 0)) (set t.links i (get_or (q z) 2 0)) (set t.counts i (get_or (q z) 3 0)) (set t.deadlines i (get_or (q z) 4 0)) (set t.periods i (get_or (q z) 5 0)) (set t.heard i (get_or (q z) 6 0)) (set t.added i (get_or (q z) 7 0)) (set t.beacons i (get_or (q z) 8 0)) (set t.bytes i (get_or (q z) 9 0)) t.count

-- what is stored of a row, or put in, are its numbers
pub words-replaced : (t : NeighborTable) (i : ℕ) (e : NeighborEntry) (w : Words) → numbers_in w ≡ neighbor_numbers e
    → in_columns t.keys (set t.nwks i w.nwk) (set t.links i w.link) (set t.counts i w.counts) (set t.deadlines i w.deadline) (set t.periods i w.period) (set t.heard i w.heard) (set t.added i w.added) (set t.beacons i w.beacon) (set t.bytes i w.bytes) t.count ≡ replaced t i e
words-replaced t i e w q = λ z. in_columns t.keys (set t.nwks i (get_or (q z) 1 0)) (set t.links i (get_or (q z) 2 0)) (set t.counts i (get_or (q z) 3 0)) (set t.deadlines i (get_or (q z) 4 0)) (set t.periods i (get_or (q z) 5 0)) (set t.heard i (get_or (q z) 6 0)) (set t.added i (get_or (q z) 7 0)) (set t.beacons i (get_or (q z) 8 0)) (set t.bytes i (get_or (q z) 9 0)) t.count

pub words-inserted : (t : NeighborTable) (i : ℕ) (e : NeighborEntry) (w : Words) → numbers_in w ≡ neighbor_numbers e
    → in_columns (shift_in i w.key t.keys) (shift_in i w.nwk t.nwks) (shift_in i w.link t.links) (shift_in i w.counts t.counts) (shift_in i w.deadline t.deadlines) (shift_in i w.period t.periods) (shift_in i w.heard t.heard) (shift_in i w.added t.added) (shift_in i w.beacon t.beacons) (shift_in i w.bytes t.bytes) (t.count + 1) ≡ inserted t i e
words-inserted t i e w q = λ z. in_columns (shift_in i (get_or (q z) 0 0) t.keys) (shift_in i (get_or (q z) 1 0) t.nwks) (shift_in i (get_or (q z) 2 0) t.links) (shift_in i (get_or (q z) 3 0) t.counts) (shift_in i (get_or (q z) 4 0) t.deadlines) (shift_in i (get_or (q z) 5 0) t.periods) (shift_in i (get_or (q z) 6 0) t.heard) (shift_in i (get_or (q z) 7 0) t.added) (shift_in i (get_or (q z) 8 0) t.beacons) (shift_in i (get_or (q z) 9 0) t.bytes) (t.count + 1)

module _ (t : NeighborTable) (f : Formed64 t) (i : ℕ) (h : i < t.count) where
  -- in all columns
  pub stored_at : (nwk link counts deadline period late new beacon bytes : ℕ) → CleanLink link
      → Keeps (in_columns t.keys (set t.nwks i nwk) (set t.links i link) (set t.counts i counts) (set t.deadlines i deadline) (set t.periods i period) (set t.heard i late) (set t.added i new) (set t.beacons i beacon) (set t.bytes i bytes) t.count) (put neighbor_key (neighbor_in (get_or t.keys i 0) nwk link counts deadline period late new beacon bytes) (rows_of t))
  stored_at nwk link counts deadline period late new beacon bytes c =
      subst (λ (u : NeighborTable). Keeps u (put neighbor_key e (rows_of t))) (stored-numbers t i (get_or t.keys i 0) nwk link counts deadline period late new beacon bytes c)
      (stored-over t f e (read-in-range _ _ _ _ _ _ _ _ _ _) i place) where
        e : NeighborEntry
        e = neighbor_in (get_or t.keys i 0) nwk link counts deadline period late new beacon bytes

        place : Ok i ≡ place_of (take t.count t.keys) (neighbor_key e)
        place = own-place t f i h ∙ ap (place_of (take t.count t.keys)) (sym (key-read (get_or t.keys i 0) nwk link counts deadline period late new beacon bytes))

  -- another network address
  pub nwk-stored : (nwk : ℕ) → Keeps (with_nwks (set t.nwks i nwk) t) (put neighbor_key (neighbor_in (get_or t.keys i 0) nwk (get_or t.links i 0) (get_or t.counts i 0) (get_or t.deadlines i 0) (get_or t.periods i 0) (get_or t.heard i 0) (get_or t.added i 0) (get_or t.beacons i 0) (get_or t.bytes i 0)) (rows_of t))
  nwk-stored nwk =
      subst (λ (u : NeighborTable). Keeps u (put neighbor_key (neighbor_in (get_or t.keys i 0) nwk (get_or t.links i 0) (get_or t.counts i 0) (get_or t.deadlines i 0) (get_or t.periods i 0) (get_or t.heard i 0) (get_or t.added i 0) (get_or t.beacons i 0) (get_or t.bytes i 0)) (rows_of t)))
      (λ z. in_columns t.keys (set t.nwks i nwk) (rows.set_same t.links i z) (rows.set_same t.counts i z) (rows.set_same t.deadlines i z) (rows.set_same t.periods i z) (rows.set_same t.heard i z) (rows.set_same t.added i z) (rows.set_same t.beacons i z) (rows.set_same t.bytes i z) t.count)
      (stored_at nwk _ _ _ _ _ _ _ _ (f.clean i))

  -- another link word, and one of a part
  pub link-word-stored : (w : ℕ) → CleanLink w → Keeps (with_links (set t.links i w) t) (put neighbor_key (neighbor_in (get_or t.keys i 0) (get_or t.nwks i 0) w (get_or t.counts i 0) (get_or t.deadlines i 0) (get_or t.periods i 0) (get_or t.heard i 0) (get_or t.added i 0) (get_or t.beacons i 0) (get_or t.bytes i 0)) (rows_of t))
  link-word-stored w c =
      subst (λ (u : NeighborTable). Keeps u (put neighbor_key (neighbor_in (get_or t.keys i 0) (get_or t.nwks i 0) w (get_or t.counts i 0) (get_or t.deadlines i 0) (get_or t.periods i 0) (get_or t.heard i 0) (get_or t.added i 0) (get_or t.beacons i 0) (get_or t.bytes i 0)) (rows_of t)))
      (λ z. in_columns t.keys (rows.set_same t.nwks i z) (set t.links i w) (rows.set_same t.counts i z) (rows.set_same t.deadlines i z) (rows.set_same t.periods i z) (rows.set_same t.heard i z) (rows.set_same t.added i z) (rows.set_same t.beacons i z) (rows.set_same t.bytes i z) t.count)
      (stored_at _ w _ _ _ _ _ _ _ c)

  pub link-stored : (p : LinkPart) → LinkRange p → Keeps (with_links (set t.links i (link_word p)) t) (put neighbor_key (neighbor_from (get_or t.keys i 0) (get_or t.nwks i 0) p (counts_of (get_or t.counts i 0)) (get_or t.deadlines i 0) (get_or t.periods i 0) (get_or t.heard i 0) (get_or t.added i 0) (get_or t.beacons i 0) (get_or t.bytes i 0)) (rows_of t))
  link-stored p r =
      subst (λ (e : NeighborEntry). Keeps (with_links (set t.links i (link_word p)) t) (put neighbor_key e (rows_of t)))
      (λ z. neighbor_from (get_or t.keys i 0) (get_or t.nwks i 0) (link-back p r z) (counts_of (get_or t.counts i 0)) (get_or t.deadlines i 0) (get_or t.periods i 0) (get_or t.heard i 0) (get_or t.added i 0) (get_or t.beacons i 0) (get_or t.bytes i 0))
      (link-word-stored (link_word p) (link-clean p r))

  -- another counts word, and one of a part
  pub counts-word-stored : (w : ℕ) → Keeps (with_counts (set t.counts i w) t) (put neighbor_key (neighbor_in (get_or t.keys i 0) (get_or t.nwks i 0) (get_or t.links i 0) w (get_or t.deadlines i 0) (get_or t.periods i 0) (get_or t.heard i 0) (get_or t.added i 0) (get_or t.beacons i 0) (get_or t.bytes i 0)) (rows_of t))
  counts-word-stored w =
      subst (λ (u : NeighborTable). Keeps u (put neighbor_key (neighbor_in (get_or t.keys i 0) (get_or t.nwks i 0) (get_or t.links i 0) w (get_or t.deadlines i 0) (get_or t.periods i 0) (get_or t.heard i 0) (get_or t.added i 0) (get_or t.beacons i 0) (get_or t.bytes i 0)) (rows_of t)))
      (λ z. in_columns t.keys (rows.set_same t.nwks i z) (rows.set_same t.links i z) (set t.counts i w) (rows.set_same t.deadlines i z) (rows.set_same t.periods i z) (rows.set_same t.heard i z) (rows.set_same t.added i z) (rows.set_same t.beacons i z) (rows.set_same t.bytes i z) t.count)
      (stored_at _ _ w _ _ _ _ _ _ (f.clean i))

  pub counts-stored : (q : CountsPart) → CountsRange q → Keeps (with_counts (set t.counts i (counts_word q)) t) (put neighbor_key (neighbor_from (get_or t.keys i 0) (get_or t.nwks i 0) (link_of (get_or t.links i 0)) q (get_or t.deadlines i 0) (get_or t.periods i 0) (get_or t.heard i 0) (get_or t.added i 0) (get_or t.beacons i 0) (get_or t.bytes i 0)) (rows_of t))
  counts-stored q s =
      subst (λ (e : NeighborEntry). Keeps (with_counts (set t.counts i (counts_word q)) t) (put neighbor_key e (rows_of t)))
      (λ z. neighbor_from (get_or t.keys i 0) (get_or t.nwks i 0) (link_of (get_or t.links i 0)) (counts-back q s z) (get_or t.deadlines i 0) (get_or t.periods i 0) (get_or t.heard i 0) (get_or t.added i 0) (get_or t.beacons i 0) (get_or t.bytes i 0))
      (counts-word-stored (counts_word q))

  -- another link and deadline, as a keepalive gives
  pub link-deadline-words-stored : (w deadline : ℕ) → CleanLink w → Keeps (with_links (set t.links i w) (with_deadlines (set t.deadlines i deadline) t)) (put neighbor_key (neighbor_in (get_or t.keys i 0) (get_or t.nwks i 0) w (get_or t.counts i 0) deadline (get_or t.periods i 0) (get_or t.heard i 0) (get_or t.added i 0) (get_or t.beacons i 0) (get_or t.bytes i 0)) (rows_of t))
  link-deadline-words-stored w deadline c =
      subst (λ (u : NeighborTable). Keeps u (put neighbor_key (neighbor_in (get_or t.keys i 0) (get_or t.nwks i 0) w (get_or t.counts i 0) deadline (get_or t.periods i 0) (get_or t.heard i 0) (get_or t.added i 0) (get_or t.beacons i 0) (get_or t.bytes i 0)) (rows_of t)))
      (λ z. in_columns t.keys (rows.set_same t.nwks i z) (set t.links i w) (rows.set_same t.counts i z) (set t.deadlines i deadline) (rows.set_same t.periods i z) (rows.set_same t.heard i z) (rows.set_same t.added i z) (rows.set_same t.beacons i z) (rows.set_same t.bytes i z) t.count)
      (stored_at _ w _ deadline _ _ _ _ _ c)

  pub link-deadline-stored : (p : LinkPart) (deadline : ℕ) → LinkRange p → Keeps (with_links (set t.links i (link_word p)) (with_deadlines (set t.deadlines i deadline) t)) (put neighbor_key (neighbor_from (get_or t.keys i 0) (get_or t.nwks i 0) p (counts_of (get_or t.counts i 0)) deadline (get_or t.periods i 0) (get_or t.heard i 0) (get_or t.added i 0) (get_or t.beacons i 0) (get_or t.bytes i 0)) (rows_of t))
  link-deadline-stored p deadline r =
      subst (λ (e : NeighborEntry). Keeps (with_links (set t.links i (link_word p)) (with_deadlines (set t.deadlines i deadline) t)) (put neighbor_key e (rows_of t)))
      (λ z. neighbor_from (get_or t.keys i 0) (get_or t.nwks i 0) (link-back p r z) (counts_of (get_or t.counts i 0)) deadline (get_or t.periods i 0) (get_or t.heard i 0) (get_or t.added i 0) (get_or t.beacons i 0) (get_or t.bytes i 0))
      (link-deadline-words-stored (link_word p) deadline (link-clean p r))

  -- another link, configuration, deadline and period, as another timeout gives
  pub timeout-words-stored : (w v deadline period : ℕ) → CleanLink w → Keeps (with_links (set t.links i w) (with_counts (set t.counts i v) (with_deadlines (set t.deadlines i deadline) (with_periods (set t.periods i period) t)))) (put neighbor_key (neighbor_in (get_or t.keys i 0) (get_or t.nwks i 0) w v deadline period (get_or t.heard i 0) (get_or t.added i 0) (get_or t.beacons i 0) (get_or t.bytes i 0)) (rows_of t))
  timeout-words-stored w v deadline period c =
      subst (λ (u : NeighborTable). Keeps u (put neighbor_key (neighbor_in (get_or t.keys i 0) (get_or t.nwks i 0) w v deadline period (get_or t.heard i 0) (get_or t.added i 0) (get_or t.beacons i 0) (get_or t.bytes i 0)) (rows_of t)))
      (λ z. in_columns t.keys (rows.set_same t.nwks i z) (set t.links i w) (set t.counts i v) (set t.deadlines i deadline) (set t.periods i period) (rows.set_same t.heard i z) (rows.set_same t.added i z) (rows.set_same t.beacons i z) (rows.set_same t.bytes i z) t.count)
      (stored_at _ w v deadline period _ _ _ _ c)

  pub timeout-stored : (p : LinkPart) (q : CountsPart) (deadline period : ℕ) → LinkRange p → CountsRange q → Keeps (with_links (set t.links i (link_word p)) (with_counts (set t.counts i (counts_word q)) (with_deadlines (set t.deadlines i deadline) (with_periods (set t.periods i period) t)))) (put neighbor_key (neighbor_from (get_or t.keys i 0) (get_or t.nwks i 0) p q deadline period (get_or t.heard i 0) (get_or t.added i 0) (get_or t.beacons i 0) (get_or t.bytes i 0)) (rows_of t))
  timeout-stored p q deadline period r s =
      subst (λ (e : NeighborEntry). Keeps (with_links (set t.links i (link_word p)) (with_counts (set t.counts i (counts_word q)) (with_deadlines (set t.deadlines i deadline) (with_periods (set t.periods i period) t)))) (put neighbor_key e (rows_of t)))
      (λ z. neighbor_from (get_or t.keys i 0) (get_or t.nwks i 0) (link-back p r z) (counts-back q s z) deadline period (get_or t.heard i 0) (get_or t.added i 0) (get_or t.beacons i 0) (get_or t.bytes i 0))
      (timeout-words-stored (link_word p) (counts_word q) deadline period (link-clean p r))
