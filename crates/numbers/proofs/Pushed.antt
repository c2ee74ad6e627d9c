-- A list is put number by number: what is left of it after one is what is left after its rest.
-- Assumes nothing.
use Prim.Native.Nat.{ℕ, ◌+◌, ◌<◌, ◌≤◌, min}
use mathlib.Core.List.{List, [], ◌∷◌, ◌++◌, map}
use mathlib.Core.Path.{◌≡◌, refl}
use native.Mathlib.Numerals.{add-one}
use native.Mathlib.Omega.{arith}
use lib.ListN.{length, take, drop, get_or, length-take, drop_of_length-le}
use lib.Seq.{drop-cons, get_or-take}
use Rattle.numbers.specs.declared.Numbers.{Numbers}
use Rattle.numbers.specs.Said.{pushed, pushed_all}

pub put_one : (m : Numbers) (xs : List ℕ) (i : ℕ) → i < length xs → pushed_all (pushed m (get_or xs i 0)) (drop (i + 1) xs) ≡ pushed_all m (drop i xs)
put_one m xs i h = rw (add-one, drop-cons xs i 0 h)

-- the same of elements that each give a number
pub put_next : {A : Type 0} (f : A → ℕ) (b : A) (m : Numbers) (xs : List A) (i : ℕ) → i < length xs → pushed_all (pushed m (f (get_or xs i b))) (map f (drop (i + 1) xs)) ≡ pushed_all m (map f (drop i xs))
put_next f b m xs i h = rw (add-one, drop-cons xs i b h)

-- two lists put one after the other
pub put_both : (m : Numbers) (xs ys : List ℕ) → pushed_all m (xs ++ ys) ≡ pushed_all (pushed_all m xs) ys
put_both m [] ys = refl
put_both m (x ∷ xs) ys = put_both (pushed m x) xs ys

-- the first n elements, one by one, and at their end
pub put-taken : {A : Type 0} (f : A → ℕ) (b : A) (m : Numbers) (n : ℕ) (xs : List A) (i : ℕ) → i < n → i < length xs → pushed_all (pushed m (f (get_or xs i b))) (map f (drop (i + 1) (take n xs))) ≡ pushed_all m (map f (drop i (take n xs)))
put-taken f b m n xs i h k = rw (← get_or-take n xs i b h) (put_next f b m (take n xs) i (rw length-take (omega arith)))

pub put-done : {A : Type 0} (f : A → ℕ) (m : Numbers) (n : ℕ) (xs : List A) (i : ℕ) → min n (length xs) ≤ i → pushed_all m (map f (drop i (take n xs))) ≡ m
put-done f m n xs i h = rw (drop_of_length-le (take n xs) {i = i} (rw length-take h))
