-- A loop over the rows has still to do the rest, `drop i rows`: one law takes the next row off the rest, one ends it,
-- and so each question's answer over the rest is followed down to the last row.
use Rattle.std.specs.Prelude.{Some, None}
use Prim.Native.Nat.{ℕ, zero, suc, ◌+◌, ◌<◌, ◌≤◌}
use native.Mathlib.Numerals.{add-one}
use native.Mathlib.Nat.{le_of_suc-le-suc, not-suc-le-zero}
use native.Mathlib.Omega.{arith}
use mathlib.Core.Bool.{Bool, true, false, cond}
use mathlib.Core.List.{List, [], ◌∷◌, ◌++◌}
use mathlib.Core.Path.{◌≡◌, refl, sym, ap, ◌∙◌}
use lib.ListN.{length, get_or, take, drop, set, drop_of_length-le}
use lib.Seq.{drop-cons, length-take-le, get_or-take}
use Rattle.standard.specs.Ordered.{keep}
use Rattle.standard.specs.Query.{first, some_fits, count_fits, change_first, entry_at}
use Rattle.flat_map.specs.Rows.{pad}
use Rattle.flat_map.specs.Table.{Formed}
use Rattle.flat_map.proofs.Rows.{cons}
use Rattle.flat_map.proofs.Table.{rows-length, row-at}

-- the rest of a list, one element shorter, and at its end
module _ {A : Type 0} (xs : List A) (i : ℕ) where
  pub rest-step : (d : A) → i < length xs → drop i xs ≡ get_or xs i d ∷ drop (i + 1) xs
  rest-step d h = drop-cons xs i d h ∙ ap (λ (n : ℕ). get_or xs i d ∷ drop n xs) (sym (add-one i))

  pub rest-done : length xs ≤ i → drop i xs ≡ []
  rest-done h = drop_of_length-le xs {i = i} h

-- the first n elements of a list, whatever they are, gone through one after the other
module _ {E : Type 0} (xs : List E) (n i : ℕ) (fits : n ≤ length xs) where
  pub given-long : length (take n xs) ≡ n
  given-long = length-take-le n xs fits

  pub next-given : (d : E) → i < n → drop i (take n xs) ≡ get_or xs i d ∷ drop (i + 1) (take n xs)
  next-given d h =
      rest-step (take n xs) i d (omega (arith, given-long))
      ∙ ap (λ (a : E). a ∷ drop (i + 1) (take n xs)) (get_or-take n xs i d h)

  pub none-given : n ≤ i → drop i (take n xs) ≡ []
  none-given h = rest-done (take n xs) i (omega (arith, given-long))

-- the same of a well-formed table's rows, by what stands in its array
module _ {E : Type 0} (cap : ℕ) (key_of : E → ℕ) (blank : E) (keys : List ℕ) (entries : List E) (count : ℕ) (f : Formed cap key_of blank keys entries count) (i : ℕ) where
  room : count ≤ length entries
  room = omega (arith, f.small, f.entry-places)

  pub next_row : i < count → drop i (take count entries) ≡ get_or entries i blank ∷ drop (i + 1) (take count entries)
  next_row h = next-given entries count i room blank h

  pub no_row : count ≤ i → drop i (take count entries) ≡ []
  no_row h = none-given entries count i room h

-- the entry at a place: the row there, or nothing from the count on
module _ {E : Type 0} (d : E) where
  pub entry-there : (xs : List E) (i : ℕ) → i < length xs → entry_at i xs ≡ Some (get_or xs i d)
  unfolding entry_at
  entry-there [] i h = absurd (not-suc-le-zero h)
  entry-there (x ∷ xs) zero h = refl
  entry-there (x ∷ xs) (suc i) h = entry-there xs i (le_of_suc-le-suc h)

  pub entry_past : (xs : List E) (i : ℕ) → length xs ≤ i → entry_at i xs ≡ None
  unfolding entry_at
  entry_past [] i h = refl
  entry_past (x ∷ xs) zero h = absurd (not-suc-le-zero h)
  entry_past (x ∷ xs) (suc i) h = entry_past xs i (le_of_suc-le-suc h)

module _ {E : Type 0} (cap : ℕ) (key_of : E → ℕ) (blank : E) (keys : List ℕ) (entries : List E) (count : ℕ) (f : Formed cap key_of blank keys entries count) (i : ℕ) where
  pub entry-in-use : i < count → entry_at i (take count entries) ≡ Some (get_or entries i blank)
  entry-in-use h =
      entry-there blank (take count entries) i (omega (arith, rows-length cap key_of blank keys entries count f))
      ∙ ap Some (sym (row-at cap key_of blank keys entries count f i h))

  pub entry-not-in-use : count ≤ i → entry_at i (take count entries) ≡ None
  entry-not-in-use h = entry_past blank (take count entries) i (omega (arith, rows-length cap key_of blank keys entries count f))

-- each question over a list whose first row fits, or does not, or that is at its end
module _ {E : Type 0} (fits : E → Bool) where
  pub first-here : {xs rest : List E} {x : E} → xs ≡ x ∷ rest → fits x ≡ true → first fits xs ≡ Some x
  unfolding first
  first-here e t = rw (e, t, first)

  pub first_past : {xs rest : List E} {x : E} → xs ≡ x ∷ rest → fits x ≡ false → first fits xs ≡ first fits rest
  unfolding first
  first_past e t = rw (e, t, first)

  pub first_done : {xs : List E} → xs ≡ [] → first fits xs ≡ None
  unfolding first
  first_done e = rw e

  pub some-here : {xs rest : List E} {x : E} → xs ≡ x ∷ rest → fits x ≡ true → some_fits fits xs ≡ true
  unfolding some_fits
  some-here e t = rw (e, t, some_fits)

  pub some-past : {xs rest : List E} {x : E} → xs ≡ x ∷ rest → fits x ≡ false → some_fits fits xs ≡ some_fits fits rest
  unfolding some_fits
  some-past e t = rw (e, t, some_fits)

  pub some-done : {xs : List E} → xs ≡ [] → some_fits fits xs ≡ false
  unfolding some_fits
  some-done e = rw e

  pub count-here : {xs rest : List E} {x : E} → xs ≡ x ∷ rest → fits x ≡ true → count_fits fits xs ≡ suc (count_fits fits rest)
  unfolding count_fits
  count-here e t = rw (e, t, count_fits)

  pub count_past : {xs rest : List E} {x : E} → xs ≡ x ∷ rest → fits x ≡ false → count_fits fits xs ≡ count_fits fits rest
  unfolding count_fits
  count_past e t = rw (e, t, count_fits)

  pub count-done : {xs : List E} → xs ≡ [] → count_fits fits xs ≡ 0
  unfolding count_fits
  count-done e = rw e

  pub keep-here : {xs rest : List E} {x : E} → xs ≡ x ∷ rest → fits x ≡ true → keep fits xs ≡ x ∷ keep fits rest
  keep-here e t = rw (e, t)

  pub keep-past : {xs rest : List E} {x : E} → xs ≡ x ∷ rest → fits x ≡ false → keep fits xs ≡ keep fits rest
  keep-past e t = rw (e, t)

  -- the count is the number of rows that a filter keeps, and none fits where the count is 0
  pub count_kept : (xs : List E) → count_fits fits xs ≡ length (keep fits xs)
  unfolding count_fits
  count_kept [] = refl
  count_kept (x ∷ xs) = go (fits x) (count_kept xs) where
    go : (b : Bool) → count_fits fits xs ≡ length (keep fits xs) → cond b (suc (count_fits fits xs)) (count_fits fits xs) ≡ length (cond b (x ∷ keep fits xs) (keep fits xs))
    go true h = ap suc h
    go false h = h

  -- where the first i rows do not fit and the next does, the first that fits stands at i
  module _ (d : E) where
    abbrev pub NoneBefore : List E → ℕ → Type 0
    NoneBefore xs i = (n : ℕ) → n < i → fits (get_or xs n d) ≡ false

    tail_none : (x : E) (xs : List E) (i : ℕ) → NoneBefore (x ∷ xs) (suc i) → NoneBefore xs i
    tail_none x xs i b n h = b (suc n) (omega arith)

    pub change-at : (f : E → E) (xs : List E) (i : ℕ) → i < length xs → NoneBefore xs i → fits (get_or xs i d) ≡ true → change_first fits f xs ≡ set xs i (f (get_or xs i d))
    unfolding change_first
    change-at f [] i h b t = absurd (not-suc-le-zero h)
    change-at f (x ∷ xs) zero h b t = rw (t, change_first)
    change-at f (x ∷ xs) (suc i) h b t = rw (b 0 (omega arith), change_first) (cons x (change-at f xs i (le_of_suc-le-suc h) (tail_none x xs i b) t))

    pub change-none : (f : E → E) (xs : List E) → NoneBefore xs (length xs) → change_first fits f xs ≡ xs
    unfolding change_first
    change-none f [] b = refl
    change-none f (x ∷ xs) b = rw (b 0 (omega arith), change_first) (cons x (change-none f xs (tail_none x xs (length xs) b)))

    pub first-at : (xs : List E) (i : ℕ) → i < length xs → NoneBefore xs i → fits (get_or xs i d) ≡ true → first fits xs ≡ Some (get_or xs i d)
    unfolding first
    first-at [] i h b t = absurd (not-suc-le-zero h)
    first-at (x ∷ xs) zero h b t = rw (t, first)
    first-at (x ∷ xs) (suc i) h b t = rw (b 0 (omega arith), first) (first-at xs i (le_of_suc-le-suc h) (tail_none x xs i b) t)

    pub first-none : (xs : List E) → NoneBefore xs (length xs) → first fits xs ≡ None
    unfolding first
    first-none [] b = refl
    first-none (x ∷ xs) b = rw (b 0 (omega arith), first) (first-none xs (tail_none x xs (length xs) b))

-- an answer list that grows in its array
pub push-pad : {A : Type 0} (n : ℕ) (b y : A) (ys : List A) → length ys < n → set (pad n b ys) (length ys) y ≡ pad n b (ys ++ (y ∷ []))
push-pad zero b y ys h = absurd (not-suc-le-zero h)
push-pad (suc n) b y [] h = refl
push-pad (suc n) b y (x ∷ ys) h = cons x (push-pad n b y ys (le_of_suc-le-suc h))
