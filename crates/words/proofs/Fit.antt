-- One turn of the comparison of numbers with a shape. Cases of the definition at the next number.
-- Assumes nothing.
use Prim.Native.Nat.{ℕ, zero, suc, ◌+◌, ◌-◌, ◌<◌, ◌≤◌}
use mathlib.Core.Bool.{Bool, true, false, not, ◌&&◌}
use mathlib.Core.List.{List, [], ◌∷◌}
use mathlib.Core.Logic.{⊎_elim}
use mathlib.Core.Path.{◌≡◌, refl, sym, ◌∙◌}
use lib.Dec.{eqb, leb}
use lib.ListN.{length, drop, get_or, drop_of_length-le, length-drop}
use lib.Seq.{drop-cons, drop-nil, drop-length}
use native.Mathlib.Nat.{zero-add, suc-add}
use native.Mathlib.Omega.{arith}
use borrow.Author.Tests.{lt-ltb, le-ltb, leb-true}
use Rattle.flat_map.proofs.Compare.{below_or_not}
use Rattle.flat_map.proofs.Every.{left_so, right_so}
use Rattle.words.specs.declared.Want.{Want}
use Rattle.words.specs.Shape.{most, most_of_others, within, passes, items, item, is_end, fit, fits_shape}
use Rattle.words.specs.Fitting.{fit_from, ahead}

and_assoc : (a b c : Bool) → (a && b) && c ≡ a && (b && c)
and_assoc true b c = refl
and_assoc false b c = refl

and_no : (a : Bool) → a && false ≡ false
and_no true = refl
and_no false = refl

one_less : (p : ℕ) → suc p - 1 ≡ p
one_less p = omega arith

fit-item : (s : List ℕ) (k p x : ℕ) (xs : List ℕ) → 0 < p → fit s k p (x ∷ xs) ≡ within (item k p) x && fit s k (p - 1) xs
unfolding fit
fit-item s k zero x xs h = absurd (omega arith)
fit-item s k (suc p) x xs h = rw (one_less p)

-- a value of a list
pub item-taken :
    (s : List ℕ) (w r : Want) (x : ℕ) (xs : List ℕ)
    → 0 < w.pending → r ≡ record { good = w.good && within (item w.kind w.pending) x; at = w.at; kind = w.kind; pending = w.pending - 1 }
    → fit_from s r xs ≡ fit_from s w (x ∷ xs)
unfolding fit_from
item-taken s w r x xs h e =
    rw (e, fit-item (drop w.at s) w.kind w.pending x xs h)
    (and_assoc w.good (within (item w.kind w.pending) x) (fit (drop w.at s) w.kind (w.pending - 1) xs))

-- a value past the end of the shape
pub past-taken : (s : List ℕ) (w r : Want) (x : ℕ) (xs : List ℕ) → w.pending ≡ 0 → length s ≤ w.at → r.good ≡ false → fit_from s r xs ≡ fit_from s w (x ∷ xs)
unfolding fit_from fit
past-taken s w r x xs z h e = rw (e, z, drop_of_length-le s {i = w.at} h) (sym (and_no w.good))

-- a value that the letter does not allow
pub wrong-taken :
    (s : List ℕ) (w r : Want) (x : ℕ) (xs : List ℕ)
    → w.pending ≡ 0 → w.at < length s → within (get_or s w.at 0) x ≡ false → r.good ≡ false → fit_from s r xs ≡ fit_from s w (x ∷ xs)
unfolding fit_from fit
wrong-taken s w r x xs z h n e = rw (e, z, drop-cons s w.at 0, n) (sym (and_no w.good))

further : (s : List ℕ) (i by : ℕ) → drop (i + by) s ≡ drop by (drop i s)
further s zero by = rw (zero-add by)
further [] (suc i) by = drop-nil (suc i + by) ∙ sym (drop-nil by)
further (x ∷ s) (suc i) by = rw (suc-add i by) (further s i by)

pub ahead-drop : (s : List ℕ) (i by : ℕ) → i < length s → drop (ahead i by (length s)) s ≡ drop by (drop i s)
unfolding ahead
ahead-drop s i by h =
    ⊎_elim
    (λ l. rw (lt-ltb (length s - i) by l, drop-length s, drop_of_length-le (drop i s) {i = by} (omega (arith, length-drop i s))))
    (λ g. rw (le-ltb (length s - i) by g) (further s i by))
    (below_or_not (length s - i) by)

-- a value that the letter allows
pub right-taken :
    (s : List ℕ) (w r : Want) (x : ℕ) (xs : List ℕ)
    → w.pending ≡ 0 → w.at < length s → within (get_or s w.at 0) x ≡ true
    → r ≡ record { good = w.good; at = ahead w.at (passes (get_or s w.at 0) x) (length s); kind = get_or s w.at 0; pending = items (get_or s w.at 0) x }
    → fit_from s r xs ≡ fit_from s w (x ∷ xs)
unfolding fit_from fit
right-taken s w r x xs z h y e = rw (e, ahead-drop s w.at (passes (get_or s w.at 0) x) h, z, drop-cons s w.at 0, y)

pub numbers-end : (s args : List ℕ) (w : Want) (i : ℕ) → length args ≤ i → fit_from s w (drop i args) ≡ w.good && (eqb w.pending 0 && is_end (drop w.at s))
unfolding fit_from fit
numbers-end s args w i h = rw (drop_of_length-le args {i = i} h)

pub whole : (s args : List ℕ) (i : ℕ) → fit_from s (record { good = true; at = i; kind = 0; pending = 0 }) args ≡ fits_shape (drop i s) args
unfolding fit_from
whole s args i = refl

pub end-here : (s : List ℕ) (i : ℕ) → i < length s → is_end (drop i s) ≡ eqb (get_or s i 0) 46
end-here s i h = rw (drop-cons s i 0)

pub end_none : (s : List ℕ) (i : ℕ) → length s ≤ i → is_end (drop i s) ≡ false
end_none s i h = rw (drop_of_length-le s {i = i} h)

-- a list of triples has at most 80
pub few : (l x : ℕ) → l ≡ 108 → within l x ≡ true → x ≤ 80
unfolding within most most_of_others
few l x e t =
    let h : leb x (most l) ≡ true = left_so (leb x (most l)) (not (eqb l 102 && eqb x 2)) (right_so (not (eqb l 46)) _ t) in
    leb-true x 80 (rw e at h)
