-- A row that was found, with another counts word or network address: what is stored is the changed row put back.
use Rattle.std.specs.Prelude.{Option, Some, None, Ok}
use Prim.Native.Nat.{ℕ, ◌<◌, ◌≤◌}
use native.Mathlib.Omega.{arith}
use mathlib.Core.Bool.{true}
use mathlib.Core.List.{List}
use mathlib.Core.Path.{◌≡◌, refl, sym, ◌∙◌}
use lib.ListN.{length, take, get_or, set}
use lib.Seq.{length-take-le}
use Rattle.types.specs.declared.Nwk.{Nwk}
use Rattle.standard.specs.Query.{first}
use Rattle.standard.specs.Rows.{put_back}
use Rattle.flat_map.specs.Seek.{place_of}
use Rattle.flat_map.proofs.Places.{placed_at}
use Rattle.columns.specs.Columns.{FirstAt}
use Rattle.columns.proofs.First.{first-before, first-there, first-nowhere}
use Rattle.neighbor_table.specs.declared.NeighborEntry.{NeighborEntry}
use Rattle.neighbor_table.specs.Entry.{neighbor_key, is_sound}
use Rattle.neighbor_queries.specs.declared.Filter.TheVariants.{Address}
use Rattle.neighbor_queries.specs.Filter.{fits}
use Rattle.neighbor_changes.specs.declared.Change.TheVariants as changes
use Rattle.neighbor_changes.specs.Change.{applied}
use Rattle.neighbor_columns.specs.declared.LinkPart.{LinkPart}
use Rattle.neighbor_columns.specs.declared.CountsPart.{CountsPart}
use Rattle.neighbor_columns.specs.Codec.{link_of, counts_of, neighbor_from, neighbor_in}
use Rattle.neighbor_columns.specs.Table.{NeighborTable, rows_of, row_at, Formed64, WellFormed, Holds}
use Rattle.neighbor_columns.specs.Lent.{with_counts, with_nwks}
use Rattle.neighbor_columns.proofs.Rows.{sound-part, sound-row, changed-holds, first-row, first-no-row}
use Rattle.neighbor_columns.proofs.Stored.{counts-word-stored, nwk-stored}
use Rattle.neighbor_changes_lent.specs.declared.Counter.{Counter}
use Rattle.neighbor_changes_lent.specs.declared.Counter.TheVariants.{Sent, Received, Failed}
use Rattle.neighbor_changes_lent.specs.Counts.{change_of, counted}

-- the place of an address that was found is in use
pub place-below : (keys : List ℕ) (n k i : ℕ) → n ≤ length keys → Ok i ≡ place_of (take n keys) k → i < n
place-below keys n k i l p = omega (arith, (placed_at (take n keys) k (Ok i) p).0, length-take-le n keys l)

-- the first place with a network address is the first row that has it
module _ (t : NeighborTable) (f : Formed64 t) (nwk : Nwk) (r : ℕ) (p : FirstAt t.nwks t.count nwk.0 r) where
  pub address-row : r < t.count → first (fits (Address nwk)) (rows_of t) ≡ Some (row_at t r)
  unfolding fits neighbor_from
  address-row h =
      first-row t f (fits (Address nwk)) r h (first-before t.nwks t.count nwk.0 r p)
      (first-there t.nwks t.count nwk.0 r p h)

  pub no-address-row : t.count ≤ r → first (fits (Address nwk)) (rows_of t) ≡ None
  unfolding fits neighbor_from
  no-address-row h = first-no-row t f (fits (Address nwk)) (first-nowhere t.nwks t.count nwk.0 r p h)

-- a row with one more on a counter
row-counted : (c : Counter) (key nwk : ℕ) (l : LinkPart) (p : CountsPart) (deadline period heard added beacon bytes : ℕ)
    → neighbor_from key nwk l (counted c p) deadline period heard added beacon bytes ≡ applied (change_of c) (neighbor_from key nwk l p deadline period heard added beacon bytes)
unfolding neighbor_from applied
row-counted Sent key nwk l p deadline period heard added beacon bytes = refl
row-counted Received key nwk l p deadline period heard added beacon bytes = refl
row-counted Failed key nwk l p deadline period heard added beacon bytes = refl

row_moved : (to : Nwk) (key nwk : ℕ) (l : LinkPart) (p : CountsPart) (deadline period heard added beacon bytes : ℕ)
    → neighbor_from key to.0 l p deadline period heard added beacon bytes ≡ applied (changes.Address to) (neighbor_from key nwk l p deadline period heard added beacon bytes)
unfolding neighbor_from applied
row_moved to key nwk l p deadline period heard added beacon bytes = refl

module _ (t : NeighborTable) (w : WellFormed t) (o : Option NeighborEntry) (i : ℕ) (h : i < t.count) (q : o ≡ Some (row_at t i)) where
  -- a row is as sound as the one whose link it has
  same-link : (nwk v deadline period heard added beacon bytes : ℕ)
      → is_sound (neighbor_in (get_or t.keys i 0) nwk (get_or t.links i 0) v deadline period heard added beacon bytes) ≡ true
  same-link nwk v deadline period heard added beacon bytes = sound-part _ _ _ _ _ _ _ _ _ _ ∙ sym (sound-part _ _ _ _ _ _ _ _ _ _) ∙ sound-row t w.formed w.sound i h

  pub counts-held : (c : Counter) (v : ℕ) → counts_of v ≡ counted c (counts_of (get_or t.counts i 0))
      → Holds (with_counts (set t.counts i v) t) (put_back neighbor_key (applied (change_of c)) o (rows_of t))
  counts-held c v e =
      changed-holds t w (applied (change_of c)) o (with_counts (set t.counts i v) t) i _ q
      ((λ z. neighbor_from (get_or t.keys i 0) (get_or t.nwks i 0) (link_of (get_or t.links i 0)) (e z) (get_or t.deadlines i 0) (get_or t.periods i 0) (get_or t.heard i 0) (get_or t.added i 0) (get_or t.beacons i 0) (get_or t.bytes i 0))
      ∙ row-counted c _ _ _ _ _ _ _ _ _ _)
      (same-link _ _ _ _ _ _ _ _) (counts-word-stored t w.formed i h v)

  -- another network address
  pub nwk-held : (nwk : Nwk) → Holds (with_nwks (set t.nwks i nwk.0) t) (put_back neighbor_key (applied (changes.Address nwk)) o (rows_of t))
  nwk-held nwk =
      changed-holds t w (applied (changes.Address nwk)) o (with_nwks (set t.nwks i nwk.0) t) i _ q (row_moved nwk _ _ _ _ _ _ _ _ _ _)
      (same-link _ _ _ _ _ _ _ _) (nwk-stored t w.formed i h nwk.0)
