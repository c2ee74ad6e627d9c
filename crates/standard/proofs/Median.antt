-- A list has one order. Two ascending lists of the same numbers start with the same one, since the first of each is the least and
-- stands in the other, and so on with their rests. `in_order_of` finds that order by putting each element in at its place.
use Prim.Native.Nat.{ℕ, suc, ◌+◌, ◌≤◌}
use native.Mathlib.Nat.{zero-add, le_trans, le_antisymm, le_of_eq, le_of_lt, not-suc-le-zero}
use native.Mathlib.Omega.{arith}
use mathlib.Core.Bool.{Bool, true, false, cond}
use mathlib.Core.List.{List, [], ◌∷◌, ◌++◌}
use mathlib.Core.Path.{◌≡◌, refl, sym, ap, ap₂, ◌∙◌}
use borrow.Author.Tests.{eqb-true, eq-eqb, leb-true, leb-false}
use lib.Dec.{eqb, leb}
use Rattle.standard.specs.Median.{times, AtMostFirst, Ascending, Ordered, put_in, in_order_of, middle, median_of}

-- the first of a list stands in it
first-stands : (x : ℕ) (xs : List ℕ) → 1 ≤ times x (x ∷ xs)
first-stands x xs = rw (eq-eqb x x refl) (omega arith)

-- what stands in a list is its first or stands in its rest
module _ {P : Type 0} (n y : ℕ) (ys : List ℕ) (first : n ≡ y → P) (rest : 1 ≤ times n ys → P) where
  stands-where : (b : Bool) → eqb n y ≡ b → 1 ≤ cond b (suc (times n ys)) (times n ys) → P
  stands-where true e h = first (eqb-true n y e)
  stands-where false e h = rest h

  stands : 1 ≤ times n (y ∷ ys) → P
  stands h = stands-where (eqb n y) refl h

-- the first of an ascending list is the least that stands in it
least : (y : ℕ) (ys : List ℕ) → Ascending (y ∷ ys) → (n : ℕ) → 1 ≤ times n (y ∷ ys) → y ≤ n
least y [] a n h = stands n y [] (λ e. le_of_eq (sym e)) (λ l. absurd (not-suc-le-zero l)) h
least y (z ∷ zs) a n h = stands n y (z ∷ zs) (λ e. le_of_eq (sym e)) (λ l. le_trans a.0 (least z zs a.1 n l)) h

-- without a first that they share, two lists still hold each number as often
less_one : (b : Bool) (i j : ℕ) → cond b (suc i) i ≡ cond b (suc j) j → i ≡ j
less_one true i j e = omega arith
less_one false i j e = e

one-order : (r s : List ℕ) → Ascending r → Ascending s → ((n : ℕ) → times n r ≡ times n s) → r ≡ s
one-order [] [] a b same = refl
one-order [] (y ∷ ys) a b same = absurd (omega (arith, same y, first-stands y ys))
one-order (x ∷ xs) [] a b same = absurd (omega (arith, same x, first-stands x xs))
one-order (x ∷ xs) (y ∷ ys) a b same = ap₂ ◌∷◌ first (one-order xs ys a.1 b.1 rest) where
  first : x ≡ y
  first = le_antisymm (least x xs a y (rw (same y) (first-stands y ys))) (least y ys b x (rw (← same x) (first-stands x xs)))

  rest : (n : ℕ) → times n xs ≡ times n ys
  rest n = less_one (eqb n x) (times n xs) (times n ys) (same n ∙ ap (λ (z : ℕ). times n (z ∷ ys)) (sym first))

-- two answers to `Ordered` are equal
pub ordered-one : (s q r : List ℕ) → Ordered s q → Ordered s r → q ≡ r
ordered-one s q r a b = one-order q r a.ascending b.ascending (λ n. a.same n ∙ sym (b.same n))

-- a list and another hold n as often as both together
pub times-append : (n : ℕ) (r s : List ℕ) → times n (r ++ s) ≡ times n r + times n s
times-append n [] s = sym (zero-add (times n s))
times-append n (x ∷ r) s = either (eqb n x) (times-append n r s) where
  either : (b : Bool) → times n (r ++ s) ≡ times n r + times n s
      → cond b (suc (times n (r ++ s))) (times n (r ++ s)) ≡ cond b (suc (times n r)) (times n r) + times n s
  either true e = omega arith
  either false e = e

put_first : (n x : ℕ) (ys : List ℕ) → n ≤ x → AtMostFirst n ys → AtMostFirst n (put_in x ys)
put_first n x [] h f = h
put_first n x (y ∷ ys) h f = either (leb x y) where
  either : (b : Bool) → AtMostFirst n (cond b (x ∷ y ∷ ys) (y ∷ put_in x ys))
  either true = h
  either false = f

put-ascending : (x : ℕ) (ys : List ℕ) → Ascending ys → Ascending (put_in x ys)
put-ascending x [] a = (tt, tt)
put-ascending x (y ∷ ys) a = either (leb x y) refl (put-ascending x ys a.1) where
  either : (b : Bool) → leb x y ≡ b → Ascending (put_in x ys) → Ascending (cond b (x ∷ y ∷ ys) (y ∷ put_in x ys))
  either true e rest = (leb-true x y e, a)
  either false e rest = (put_first y x ys (le_of_lt (leb-false x y e)) a.0, rest)

-- a count does not go by which of two comes first
pub times-swap : (n x y : ℕ) (r : List ℕ) → times n (x ∷ y ∷ r) ≡ times n (y ∷ x ∷ r)
times-swap n x y r = either (eqb n x) (eqb n y) (times n r) where
  either : (a b : Bool) (t : ℕ) → cond a (suc (cond b (suc t) t)) (cond b (suc t) t) ≡ cond b (suc (cond a (suc t) t)) (cond a (suc t) t)
  either true true t = refl
  either true false t = refl
  either false true t = refl
  either false false t = refl

-- with one more in front, two lists still hold n as often
pub times-cons : (n x : ℕ) (r s : List ℕ) → times n r ≡ times n s → times n (x ∷ r) ≡ times n (x ∷ s)
times-cons n x r s e = ap (λ (t : ℕ). cond (eqb n x) (suc t) t) e

put-times : (n x : ℕ) (ys : List ℕ) → times n (put_in x ys) ≡ times n (x ∷ ys)
put-times n x [] = refl
put-times n x (y ∷ ys) = either (leb x y) (put-times n x ys) where
  either : (b : Bool) → times n (put_in x ys) ≡ times n (x ∷ ys) → times n (cond b (x ∷ y ∷ ys) (y ∷ put_in x ys)) ≡ times n (x ∷ y ∷ ys)
  either true e = refl
  either false e = times-cons n y (put_in x ys) (x ∷ ys) e ∙ times-swap n y x ys

order-times : (n : ℕ) (s : List ℕ) → times n (in_order_of s) ≡ times n s
order-times n [] = refl
order-times n (x ∷ xs) = put-times n x (in_order_of xs) ∙ times-cons n x (in_order_of xs) xs (order-times n xs)

order-ascending : (s : List ℕ) → Ascending (in_order_of s)
order-ascending [] = tt
order-ascending (x ∷ xs) = put-ascending x (in_order_of xs) (order-ascending xs)

pub in_order : (s : List ℕ) → Ordered s (in_order_of s)
in_order s = record { same = λ n. order-times n s; ascending = order-ascending s }

-- the middle of whatever meets `Ordered` is the median
pub median-of : (s r : List ℕ) → Ordered s r → middle r ≡ median_of s
median-of s r o = ap middle (ordered-one s r (in_order_of s) o (in_order s))

-- the median does not go by the order in which the samples come
pub median-same : (s r : List ℕ) → ((n : ℕ) → times n r ≡ times n s) → median_of r ≡ median_of s
median-same s r e =
    median-of s (in_order_of r) (record { same = λ n. order-times n r ∙ e n; ascending = order-ascending r })
