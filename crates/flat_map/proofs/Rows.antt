-- Rows in an array padded with blanks: what a shift, a store, a sweep and a map of the array do to the rows.
-- Each law is an induction over the places.
use Prim.Native.Nat.{ℕ, zero, suc, ◌+◌, ◌<◌, ◌≤◌, zero-le, suc-le-suc}
use native.Mathlib.Nat.{le_of_suc-le-suc, not-suc-le-zero}
use native.Mathlib.Numerals.{add-one}
use mathlib.Core.Bool.{Bool, true, false}
use mathlib.Core.List.{List, [], ◌∷◌, ◌++◌, map}
use mathlib.Core.Path.{◌≡◌, refl, ap}
use lib.ListN.{length, get_or, take, set}
use Rattle.flat_map.specs.Shift.{shift_in, shift_out}
use Rattle.flat_map.specs.Rows.{pad, insert_at, remove_at, keep_from, map_first, map_from}

module _ {ℓ} {A : Type ℓ} where
  pub cons : (x : A) {r s : List A} → r ≡ s → x ∷ r ≡ x ∷ s
  cons x e = ap {B = List A} (λ r. x ∷ r) e

  pub length-pad : (n : ℕ) (b : A) (xs : List A) → length (pad n b xs) ≡ n
  length-pad zero b xs = refl
  length-pad (suc n) b [] = ap suc (length-pad n b [])
  length-pad (suc n) b (x ∷ xs) = ap suc (length-pad n b xs)

  shift-in-blank : (n : ℕ) (b : A) → shift_in zero b (pad n b []) ≡ pad n b []
  shift-in-blank zero b = refl
  shift-in-blank (suc n) b = cons b (shift-in-blank n b)

  pub shift-in-pad : (n i : ℕ) (a b : A) (xs : List A) → i ≤ length xs → length xs < n → shift_in i a (pad n b xs) ≡ pad n b (insert_at i a xs)
  shift-in-pad zero i a b xs h l = absurd (not-suc-le-zero l)
  shift-in-pad (suc n) zero a b [] h l = cons a (shift-in-blank n b)
  shift-in-pad (suc n) zero a b (x ∷ xs) h l = cons a (shift-in-pad n zero x b xs zero-le (le_of_suc-le-suc l))
  shift-in-pad (suc n) (suc i) a b [] h l = absurd (not-suc-le-zero h)
  shift-in-pad (suc n) (suc i) a b (x ∷ xs) h l = cons x (shift-in-pad n i a b xs (le_of_suc-le-suc h) (le_of_suc-le-suc l))

  pad-more : (n : ℕ) (b : A) (xs : List A) → length xs ≤ n → pad n b xs ++ (b ∷ []) ≡ pad (suc n) b xs
  pad-more zero b [] h = refl
  pad-more zero b (x ∷ xs) h = absurd (not-suc-le-zero h)
  pad-more (suc n) b [] h = cons b (pad-more n b [] zero-le)
  pad-more (suc n) b (x ∷ xs) h = cons x (pad-more n b xs (le_of_suc-le-suc h))

  pub shift-out-pad : (n i : ℕ) (b : A) (xs : List A) → i < length xs → length xs ≤ n → shift_out i b (pad n b xs) ≡ pad n b (remove_at i xs)
  shift-out-pad zero i b [] h l = absurd (not-suc-le-zero h)
  shift-out-pad zero i b (x ∷ xs) h l = absurd (not-suc-le-zero l)
  shift-out-pad (suc n) i b [] h l = absurd (not-suc-le-zero h)
  shift-out-pad (suc n) zero b (x ∷ xs) h l = pad-more n b xs (le_of_suc-le-suc l)
  shift-out-pad (suc n) (suc i) b (x ∷ xs) h l = cons x (shift-out-pad n i b xs (le_of_suc-le-suc h) (le_of_suc-le-suc l))

  pub set-pad : (n i : ℕ) (a b : A) (xs : List A) → i < length xs → length xs ≤ n → set (pad n b xs) i a ≡ pad n b (set xs i a)
  set-pad zero i a b [] h l = absurd (not-suc-le-zero h)
  set-pad zero i a b (x ∷ xs) h l = absurd (not-suc-le-zero l)
  set-pad (suc n) i a b [] h l = absurd (not-suc-le-zero h)
  set-pad (suc n) zero a b (x ∷ xs) h l = refl
  set-pad (suc n) (suc i) a b (x ∷ xs) h l = cons x (set-pad n i a b xs (le_of_suc-le-suc h) (le_of_suc-le-suc l))

  pub take-pad : (n : ℕ) (b : A) (xs : List A) → length xs ≤ n → take (length xs) (pad n b xs) ≡ xs
  take-pad n b [] h = refl
  take-pad zero b (x ∷ xs) h = absurd (not-suc-le-zero h)
  take-pad (suc n) b (x ∷ xs) h = cons x (take-pad n b xs (le_of_suc-le-suc h))

  pub getD-pad : (n i : ℕ) (b : A) (xs : List A) → i < length xs → length xs ≤ n → get_or (pad n b xs) i b ≡ get_or xs i b
  getD-pad n i b [] h l = absurd (not-suc-le-zero h)
  getD-pad zero i b (x ∷ xs) h l = absurd (not-suc-le-zero l)
  getD-pad (suc n) zero b (x ∷ xs) h l = refl
  getD-pad (suc n) (suc i) b (x ∷ xs) h l = getD-pad n i b xs (le_of_suc-le-suc h) (le_of_suc-le-suc l)

  pub getD-blank : (n i : ℕ) (b : A) (xs : List A) → length xs ≤ i → get_or (pad n b xs) i b ≡ b
  getD-blank zero i b xs h = refl
  getD-blank (suc n) zero b [] h = refl
  getD-blank (suc n) (suc i) b [] h = getD-blank n i b [] zero-le
  getD-blank (suc n) zero b (x ∷ xs) h = absurd (not-suc-le-zero h)
  getD-blank (suc n) (suc i) b (x ∷ xs) h = getD-blank n i b xs (le_of_suc-le-suc h)

  -- an array whose places from m on are blank holds its first m
  pub pad-is : (ys : List A) (m : ℕ) (b : A) → ((i : ℕ) → m ≤ i → get_or ys i b ≡ b) → ys ≡ pad (length ys) b (take m ys)
  pad-is [] m b h = refl
  pad-is (y ∷ ys) zero b h = λ z. h 0 zero-le z ∷ pad-is ys zero b (λ i p. h (suc i) zero-le) z
  pad-is (y ∷ ys) (suc m) b h = cons y (pad-is ys m b (λ i p. h (suc i) (suc-le-suc p)))

  pub length-insert_at : (i : ℕ) (a : A) (xs : List A) → length (insert_at i a xs) ≡ suc (length xs)
  length-insert_at zero a xs = refl
  length-insert_at (suc i) a [] = refl
  length-insert_at (suc i) a (x ∷ xs) = ap suc (length-insert_at i a xs)

  pub length-remove_at : (i : ℕ) (xs : List A) → i < length xs → suc (length (remove_at i xs)) ≡ length xs
  length-remove_at i [] h = absurd (not-suc-le-zero h)
  length-remove_at zero (x ∷ xs) h = refl
  length-remove_at (suc i) (x ∷ xs) h = ap suc (length-remove_at i xs (le_of_suc-le-suc h))

module _ {ℓ κ} {A : Type ℓ} {B : Type κ} (f : A → B) where
  pub map-insert_at : (i : ℕ) (a : A) (xs : List A) → map f (insert_at i a xs) ≡ insert_at i (f a) (map f xs)
  map-insert_at zero a xs = refl
  map-insert_at (suc i) a [] = refl
  map-insert_at (suc i) a (x ∷ xs) = cons (f x) (map-insert_at i a xs)

  pub map-remove_at : (i : ℕ) (xs : List A) → map f (remove_at i xs) ≡ remove_at i (map f xs)
  map-remove_at i [] = refl
  map-remove_at zero (x ∷ xs) = refl
  map-remove_at (suc i) (x ∷ xs) = cons (f x) (map-remove_at i xs)

-- a sweep that removes what fails a test: a turn that keeps, a turn that removes, and the end
module _ {A : Type 0} (p : A → Bool) where
  pub keep-kept : (xs : List A) (i : ℕ) (d : A) → i < length xs → p (get_or xs i d) ≡ true → keep_from p (i + 1) xs ≡ keep_from p i xs
  keep-kept xs i d h e = rw (add-one i) (go xs i h e) where
    go : (xs : List A) (i : ℕ) → i < length xs → p (get_or xs i d) ≡ true → keep_from p (suc i) xs ≡ keep_from p i xs
    go [] i h e = absurd (not-suc-le-zero h)
    go (x ∷ xs) zero h e = rw e
    go (x ∷ xs) (suc i) h e = cons x (go xs i (le_of_suc-le-suc h) e)

  pub keep-removed : (xs : List A) (i : ℕ) (d : A) → i < length xs → p (get_or xs i d) ≡ false → keep_from p i (remove_at i xs) ≡ keep_from p i xs
  keep-removed [] i d h e = absurd (not-suc-le-zero h)
  keep-removed (x ∷ xs) zero d h e = rw e
  keep-removed (x ∷ xs) (suc i) d h e = cons x (keep-removed xs i d (le_of_suc-le-suc h) e)

  pub keep-end : (xs : List A) (i : ℕ) → length xs ≤ i → keep_from p i xs ≡ xs
  keep-end [] zero h = refl
  keep-end [] (suc i) h = refl
  keep-end (x ∷ xs) zero h = absurd (not-suc-le-zero h)
  keep-end (x ∷ xs) (suc i) h = cons x (keep-end xs i (le_of_suc-le-suc h))

-- a loop that applies a function to each element in use: a turn, the end, and the rows after it
module _ {A : Type 0} (f : A → A) where
  pub map-step : (xs : List A) (i n : ℕ) (d : A) → i < n → i < length xs → map_from f (i + 1) n (set xs i (f (get_or xs i d))) ≡ map_from f i n xs
  map-step xs i n d h l = rw (add-one i) (go xs i n h l) where
    go : (xs : List A) (i n : ℕ) → i < n → i < length xs → map_from f (suc i) n (set xs i (f (get_or xs i d))) ≡ map_from f i n xs
    go xs i zero h l = absurd (not-suc-le-zero h)
    go [] i (suc n) h l = absurd (not-suc-le-zero l)
    go (x ∷ xs) zero (suc n) h l = refl
    go (x ∷ xs) (suc i) (suc n) h l = cons x (go xs i n (le_of_suc-le-suc h) (le_of_suc-le-suc l))

  pub map-end : (xs : List A) (i n : ℕ) → n ≤ i → map_from f i n xs ≡ xs
  map-end xs zero zero h = refl
  map-end xs zero (suc n) h = absurd (not-suc-le-zero h)
  map-end xs (suc i) zero h = refl
  map-end [] (suc i) (suc n) h = refl
  map-end (x ∷ xs) (suc i) (suc n) h = cons x (map-end xs i n (le_of_suc-le-suc h))

  pub map-pad : (n : ℕ) (b : A) (xs : List A) → length xs ≤ n → map_first f (length xs) (pad n b xs) ≡ pad n b (map f xs)
  map-pad n b [] h = refl
  map-pad zero b (x ∷ xs) h = absurd (not-suc-le-zero h)
  map-pad (suc n) b (x ∷ xs) h = cons (f x) (map-pad n b xs (le_of_suc-le-suc h))
