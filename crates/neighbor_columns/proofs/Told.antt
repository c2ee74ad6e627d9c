-- The tests of the columns, together: what each tells of one column tells of a table.
use Prim.Native.Nat.{ℕ, ◌/◌, ◌%◌, ◌≤◌}
use native.Mathlib.Omega.{arith}
use mathlib.Core.Bool.{Bool, true, false, not, ◌&&◌}
use mathlib.Core.List.{List, ◌∷◌}
use mathlib.Core.Logic.{⊎_elim}
use mathlib.Core.Path.{◌≡◌, refl, sym, ap, ◌∙◌, subst}
use lib.Dec.{leb}
use lib.ListN.{length, get_or}
use Rattle.standard.specs.Tells.{Tells}
use Rattle.standard.proofs.Tells.{tells-one, tells-true, tells_both, tells-so}
use Rattle.flat_map.specs.Table.{Rising, ZeroFrom}
use Rattle.flat_map.proofs.Compare.{below_or_not}
use Rattle.flat_map.proofs.Each.{each-told, each_placed}
use Rattle.columns.specs.Columns.{Ordered, entries}
use Rattle.columns.proofs.Places.{entries-length}
use Rattle.ring_buffer.specs.Ring as ring
use Rattle.ring_buffer.specs.Word as word
use Rattle.neighbor_table.specs.declared.NeighborEntry.{NeighborEntry}
use Rattle.neighbor_table.specs.Entry.{blank_neighbor, is_sound}
use Rattle.neighbor_columns.specs.Codec.{part_sound}
use Rattle.neighbor_columns.specs.Codec.{link_of, counts_of, neighbor_of, CleanLink}
use Rattle.neighbor_columns.specs.Table.{NeighborTable, others, rows_of, clean_link, CleanLinks, SoundLink, SoundLinks, Formed64, formed64, WellFormed, well_formed}
use Rattle.neighbor_columns.proofs.Codec.{zero-clean}
use Rattle.neighbor_columns.proofs.Rows.{clean-told, formed-told, well-formed-told, row_reads, sound-part, sound-row}

pub not_yes : (b : Bool) → not b ≡ true → b ≡ false
not_yes true e = sym e
not_yes false e = refl

pub not-no : (b : Bool) → not b ≡ false → b ≡ true
not-no true e = refl
not-no false e = sym e

-- ten tests
chain : {P0 P1 P2 P3 P4 P5 P6 P7 P8 P9 : Type 0} {a0 a1 a2 a3 a4 a5 a6 a7 a8 a9 : Bool} → Tells P0 a0 → Tells P1 a1 → Tells P2 a2 → Tells P3 a3 → Tells P4 a4 → Tells P5 a5 → Tells P6 a6 → Tells P7 a7 → Tells P8 a8 → Tells P9 a9
    → Tells (P0 × (P1 × (P2 × (P3 × (P4 × (P5 × (P6 × (P7 × (P8 × (P9)))))))))) (((((((((a0 && a1) && a2) && a3) && a4) && a5) && a6) && a7) && a8) && a9)
chain t0 t1 t2 t3 t4 t5 t6 t7 t8 t9 =
    tells-so (λ q. (q.0.0.0.0.0.0.0.0.0, (q.0.0.0.0.0.0.0.0.1, (q.0.0.0.0.0.0.0.1, (q.0.0.0.0.0.0.1, (q.0.0.0.0.0.1, (q.0.0.0.0.1, (q.0.0.0.1, (q.0.0.1, (q.0.1, q.1)))))))))) (λ q. (((((((((q.0, q.1.0), q.1.1.0), q.1.1.1.0), q.1.1.1.1.0), q.1.1.1.1.1.0), q.1.1.1.1.1.1.0), q.1.1.1.1.1.1.1.0), q.1.1.1.1.1.1.1.1.0), q.1.1.1.1.1.1.1.1.1))
    (tells_both (tells_both (tells_both (tells_both (tells_both (tells_both (tells_both (tells_both (tells_both t0 t1) t2) t3) t4) t5) t6) t7) t8) t9)

-- a column of 64 places that is 0 from n on
abbrev pub Ends : List ℕ → ℕ → Type 0
Ends c n = (length c ≡ 64) × ZeroFrom c n

module _ (t : NeighborTable) where
  abbrev pub AllEnd : Type 0
  AllEnd = Ends t.keys t.count × (Ends t.nwks t.count × (Ends t.links t.count × (Ends t.counts t.count × (Ends t.deadlines t.count × (Ends t.periods t.count × (Ends t.heard t.count × (Ends t.added t.count × (Ends t.beacons t.count × (Ends t.bytes t.count)))))))))

  pub all-end-told : {a0 a1 a2 a3 a4 a5 a6 a7 a8 a9 : Bool} → Tells (Ends t.keys t.count) a0 → Tells (Ends t.nwks t.count) a1 → Tells (Ends t.links t.count) a2 → Tells (Ends t.counts t.count) a3 → Tells (Ends t.deadlines t.count) a4 → Tells (Ends t.periods t.count) a5 → Tells (Ends t.heard t.count) a6 → Tells (Ends t.added t.count) a7 → Tells (Ends t.beacons t.count) a8 → Tells (Ends t.bytes t.count) a9
      → Tells AllEnd (((((((((a0 && a1) && a2) && a3) && a4) && a5) && a6) && a7) && a8) && a9)
  all-end-told = chain

  pub order-ends : Ordered 64 t.keys (others t) t.count → AllEnd
  order-ends o = ((o.long.0, o.zeros.0), ((o.long.1.0, o.zeros.1.0), ((o.long.1.1.0, o.zeros.1.1.0), ((o.long.1.1.1.0, o.zeros.1.1.1.0), ((o.long.1.1.1.1.0, o.zeros.1.1.1.1.0), ((o.long.1.1.1.1.1.0, o.zeros.1.1.1.1.1.0), ((o.long.1.1.1.1.1.1.0, o.zeros.1.1.1.1.1.1.0), ((o.long.1.1.1.1.1.1.1.0, o.zeros.1.1.1.1.1.1.1.0), ((o.long.1.1.1.1.1.1.1.1.0, o.zeros.1.1.1.1.1.1.1.1.0), (o.long.1.1.1.1.1.1.1.1.1.0, o.zeros.1.1.1.1.1.1.1.1.1.0))))))))))

  pub order-told : AllEnd → t.count ≤ 64 → {r : Bool} → Tells (Rising t.keys t.count) r → Tells (Ordered 64 t.keys (others t) t.count) r
  order-told e m = tells-so (λ up. record {
    long = (e.0.0, (e.1.0.0, (e.1.1.0.0, (e.1.1.1.0.0, (e.1.1.1.1.0.0, (e.1.1.1.1.1.0.0, (e.1.1.1.1.1.1.0.0, (e.1.1.1.1.1.1.1.0.0, (e.1.1.1.1.1.1.1.1.0.0, (e.1.1.1.1.1.1.1.1.1.0, tt))))))))));
    small = m;
    rising = up;
    zeros = (e.0.1, (e.1.0.1, (e.1.1.0.1, (e.1.1.1.0.1, (e.1.1.1.1.0.1, (e.1.1.1.1.1.0.1, (e.1.1.1.1.1.1.0.1, (e.1.1.1.1.1.1.1.0.1, (e.1.1.1.1.1.1.1.1.0.1, (e.1.1.1.1.1.1.1.1.1.1, tt))))))))));
  }) (λ o. o.rising)

  -- an answer that tells it is the computed test
  pub formed-is : {r : Bool} → Tells (Formed64 t) r → r ≡ formed64 t
  formed-is told = tells-one told (formed-told t)

  pub well-formed-is : {r : Bool} → Tells (WellFormed t) r → r ≡ well_formed t
  well-formed-is told = tells-one told (well-formed-told t)

  module _ (o : Ordered 64 t.keys (others t) t.count) where
    pub clean-table : {r : Bool} → Tells (CleanLinks t.links) r → Tells (Formed64 t) r
    clean-table = tells-so (λ c. record { ordered = o; clean = c }) (λ f. f.clean)

    formed-of : SoundLinks t.links t.count → Formed64 t
    formed-of s = record {
      ordered = o;
      clean = λ i. ⊎_elim (λ h. (s i h).0) (λ h. subst CleanLink (sym (o.zeros.1.1.0 i h)) zero-clean) (below_or_not i t.count);
    }

    there : SoundLinks t.links t.count → WellFormed t
    there s = record {
      formed = formed-of s;
      sound =
          (each-told (λ (x : NeighborEntry). is_sound x ≡ true) is_sound (λ x. tells-true (is_sound x)) (rows_of t)).flag
          (each_placed (λ (x : NeighborEntry). is_sound x ≡ true) blank_neighbor (entries neighbor_of 64 (t.keys ∷ others t)) t.count
          (omega (arith, o.small, entries-length neighbor_of 64 (t.keys ∷ others t)))
          (λ i h. ap is_sound (row_reads t (formed-of s) i) ∙ sound-part _ _ _ _ _ _ _ _ _ _ ∙ (s i h).1));
    }

    back : WellFormed t → SoundLinks t.links t.count
    back w i h = (w.formed.clean i, sym (sound-part _ _ _ (counts_of (get_or t.counts i 0)) _ _ _ _ _ _) ∙ sound-row t w.formed w.sound i h)

    pub sound-table : {r : Bool} → Tells (SoundLinks t.links t.count) r → Tells (WellFormed t) r
    sound-table = tells-so there back

-- a link word by its cost, its samples and its kinds
pub link-told : (w : ℕ) → Tells (SoundLink w) ((leb ((w / 1099511627776) % 256) 7 && ring.well_formed (word.ring_of w)) && clean_link w)
unfolding part_sound link_of
link-told w = tells-so (λ p. (p.1, p.0)) (λ q. (q.1, q.0)) (tells_both (tells-true _) (clean-told w))
