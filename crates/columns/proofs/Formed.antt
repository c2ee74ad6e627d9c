-- Sound columns as a table of flat_map, whose laws then apply: the rows that they hold are a well-formed table, and back.
use Prim.Native.Nat.{ℕ, zero, suc, ◌≤◌}
use native.Mathlib.Omega.{arith}
use mathlib.Core.List.{List, [], ◌∷◌}
use mathlib.Core.Logic.{⊎_elim}
use mathlib.Core.Path.{◌≡◌, refl, sym, ap, ◌∙◌}
use lib.ListN.{length, get_or, drop, get_or-eq_default}
use Rattle.flat_map.specs.Table.{Formed}
use Rattle.flat_map.proofs.Compare.{below_or_not}
use Rattle.columns.specs.Columns.{at, entries, Long, noughts, ZerosFrom}
use Rattle.columns.specs.Codec.{Codec}
use Rattle.columns.specs.Table.{Sound}
use Rattle.columns.proofs.Places.{entries-length, entry_at}

pub at_length : (i : ℕ) (cs : List (List ℕ)) → length (at i cs) ≡ length cs
at_length i [] = refl
at_length i (c ∷ cs) = ap suc (at_length i cs)

pub noughts-length : (n : ℕ) → length (noughts n) ≡ n
noughts-length zero = refl
noughts-length (suc n) = ap suc (noughts-length n)

at-zeros : (m : ℕ) (cs : List (List ℕ)) → ZerosFrom m cs → (i : ℕ) → m ≤ i → at i cs ≡ noughts (length cs)
at-zeros m [] w i h = refl
at-zeros m (c ∷ cs) w i h = λ z. w.0 i h z ∷ at-zeros m cs w.1 i h z

pub at-past : (n : ℕ) (cs : List (List ℕ)) → Long n cs → (i : ℕ) → n ≤ i → at i cs ≡ noughts (length cs)
at-past n [] l i h = refl
at-past n (c ∷ cs) l i h = λ z. get_or-eq_default c 0 {n = i} (omega (arith, h, l.0)) z ∷ at-past n cs l.1 i h z

pub zeros-at : (m : ℕ) (cs : List (List ℕ)) → ((i : ℕ) → m ≤ i → at i cs ≡ noughts (length cs)) → ZerosFrom m cs
zeros-at m [] w = tt
zeros-at m (c ∷ cs) w = ((λ i h. ap (λ (v : List ℕ). get_or v 0 0) (w i h)), zeros-at m cs (λ i h. ap (λ (v : List ℕ). drop 1 v) (w i h)))

module _
    {E : Type 0}
    (cap width : ℕ)
    (key_of : E → ℕ)
    (blank : E)
    (read : List ℕ → E)
    (write : E → List ℕ)
    (Clean : List ℕ → Type 0)
    (InRange : E → Type 0)
    (c : Codec width key_of blank read write Clean InRange)
    (ks : List ℕ)
    (cs : List (List ℕ))
    (n : ℕ)
  where
    -- what stands in a place, also past the end
    pub reads : length (ks ∷ cs) ≡ width → Long cap (ks ∷ cs) → (i : ℕ) → get_or (entries read cap (ks ∷ cs)) i blank ≡ read (at i (ks ∷ cs))
    reads w l i =
        ⊎_elim (λ h. entry_at read cap (ks ∷ cs) i blank h)
        (λ h. get_or-eq_default (entries read cap (ks ∷ cs)) blank (omega (arith, h, entries-length read cap (ks ∷ cs)))
        ∙ sym c.zero
        ∙ ap read (sym (at-past cap (ks ∷ cs) l i h ∙ ap noughts w)))
        (below_or_not i cap)

    -- sound columns hold a well-formed table
    pub formed : Sound cap width Clean ks cs n → Formed cap key_of blank ks (entries read cap (ks ∷ cs)) n
    formed s = record {
      key-places = s.ordered.long.0;
      entry-places = entries-length read cap (ks ∷ cs);
      small = s.ordered.small;
      rising = s.ordered.rising;
      own = λ i h. sym (ap key_of (reads s.wide s.ordered.long i) ∙ c.own_key (at i (ks ∷ cs)) (s.clean i));
      zeros = s.ordered.zeros.0;
      blanks = λ i h. reads s.wide s.ordered.long i ∙ ap read (at-zeros n (ks ∷ cs) s.ordered.zeros i h ∙ ap noughts s.wide) ∙ c.zero;
    }

    -- and clean columns that hold one are sound: only zeros are read as the blank entry
    pub sound : length (ks ∷ cs) ≡ width → Long cap (ks ∷ cs) → ((i : ℕ) → Clean (at i (ks ∷ cs))) → Formed cap key_of blank ks (entries read cap (ks ∷ cs)) n
        → Sound cap width Clean ks cs n
    sound w l clean f = record {
      wide = w;
      ordered = record { long = l; small = f.small; rising = f.rising; zeros = zeros-at n (ks ∷ cs) (λ i h. only i (sym (reads w l i) ∙ f.blanks i h)) };
      clean = clean;
    } where
      only : (i : ℕ) → read (at i (ks ∷ cs)) ≡ blank → at i (ks ∷ cs) ≡ noughts (length (ks ∷ cs))
      only i e =
          sym (c.forth (at i (ks ∷ cs)) (at_length i (ks ∷ cs) ∙ w) (clean i))
          ∙ ap write (e ∙ sym c.zero)
          ∙ c.forth (noughts width) (noughts-length width) c.clean-zero
          ∙ ap noughts (sym w)
