-- A test that every row passes: followed by a loop over the rest, and kept by each step on rows.
-- Each law takes the first row off, and goes by whether it passes.
use Rattle.std.specs.Prelude.{Some}
use Prim.Native.Nat.{ℕ, zero, suc, ◌<◌}
use native.Mathlib.Nat.{le_of_suc-le-suc, not-suc-le-zero}
use native.Mathlib.Omega.{arith}
use mathlib.Core.Bool.{Bool, true, false, cond, ◌&&◌, false≢true}
use mathlib.Core.List.{List, [], ◌∷◌, map}
use mathlib.Core.Path.{◌≡◌, refl, sym, ap, ◌∙◌}
use lib.ListN.{length, get_or}
use Rattle.standard.specs.Ordered.{lookup, put, remove, pop_first, keep}
use Rattle.standard.specs.Query.{change_first}
use Rattle.flat_map.specs.Table.{every}
use Rattle.flat_map.proofs.Compare.{Tri, lt, eq, gt, tri}
use Rattle.flat_map.proofs.Ordered.{none-some, lookup-here, lookup-past, lookup-none, put-none, put-lt, put-eq, put-gt, remove-none, remove-here, remove-past}

-- a conjunction holds where both parts do
pub both_so : {a b : Bool} → a ≡ true → b ≡ true → a && b ≡ true
both_so {a = true} p q = q
both_so {a = false} p q = p

pub left_so : (a b : Bool) → a && b ≡ true → a ≡ true
left_so true b p = refl
left_so false b p = p

pub right_so : (a b : Bool) → a && b ≡ true → b ≡ true
right_so true b p = p
right_so false b p = absurd (false≢true p)

module _ {E : Type 0} (test : E → Bool) where
  -- a list whose first row passes, or does not, or that is at its end
  pub every_here : {xs rest : List E} {x : E} → xs ≡ x ∷ rest → test x ≡ true → every test xs ≡ every test rest
  every_here e t = rw (e, t)

  pub every-not : {xs rest : List E} {x : E} → xs ≡ x ∷ rest → test x ≡ false → every test xs ≡ false
  every-not e t = rw (e, t)

  head-so : (x : E) (xs : List E) → every test (x ∷ xs) ≡ true → test x ≡ true
  head-so x xs s = left_so (test x) (every test xs) s

  tail-so : (x : E) (xs : List E) → every test (x ∷ xs) ≡ true → every test xs ≡ true
  tail-so x xs s = right_so (test x) (every test xs) s

  pub every-done : {xs : List E} → xs ≡ [] → every test xs ≡ true
  every-done e = rw e

  -- what stands at a place, under a key, or fits a question first passes
  pub every-at : (xs : List E) (i : ℕ) (d : E) → every test xs ≡ true → i < length xs → test (get_or xs i d) ≡ true
  every-at [] i d s h = absurd (not-suc-le-zero h)
  every-at (x ∷ xs) zero d s h = head-so x xs s
  every-at (x ∷ xs) (suc i) d s h = every-at xs i d (tail-so x xs s) (le_of_suc-le-suc h)

  module _ (key_of : E → ℕ) where
    pub every-lookup : (k : ℕ) (xs : List E) (e : E) → every test xs ≡ true → lookup key_of k xs ≡ Some e → test e ≡ true
    every-lookup k [] e s h = absurd (none-some e (sym (lookup-none key_of k) ∙ h))
    every-lookup k (x ∷ xs) e s h = go (tri (key_of x) k) (λ q. every-lookup k xs e (tail-so x xs s) q) where
      go : Tri (key_of x) k → (lookup key_of k xs ≡ Some e → test e ≡ true) → test e ≡ true
      go (lt p) ih = ih (sym (lookup-past key_of k x xs (λ q. omega arith)) ∙ h)
      go (eq p) ih = let q : x ≡ e = cc (lookup-here key_of k x xs p) in ap test (sym q) ∙ head-so x xs s
      go (gt p) ih = ih (sym (lookup-past key_of k x xs (λ q. omega arith)) ∙ h)

    -- the steps on rows
    pub every-put : (e : E) (xs : List E) → test e ≡ true → every test xs ≡ true → every test (put key_of e xs) ≡ true
    every-put e [] t s = rw (put-none key_of e) (both_so t refl)
    every-put e (x ∷ xs) t s = go (tri (key_of e) (key_of x)) (every-put e xs t (tail-so x xs s)) where
      go : Tri (key_of e) (key_of x) → every test (put key_of e xs) ≡ true → every test (put key_of e (x ∷ xs)) ≡ true
      go (lt p) ih = rw (put-lt key_of e x xs p) (both_so t s)
      go (eq p) ih = rw (put-eq key_of e x xs p) (both_so t (tail-so x xs s))
      go (gt p) ih = rw (put-gt key_of e x xs p) (both_so (head-so x xs s) ih)

    pub every-remove : (k : ℕ) (xs : List E) → every test xs ≡ true → every test (remove key_of k xs) ≡ true
    every-remove k [] s = rw (remove-none key_of k)
    every-remove k (x ∷ xs) s = go (tri (key_of x) k) (every-remove k xs (tail-so x xs s)) where
      go : Tri (key_of x) k → every test (remove key_of k xs) ≡ true → every test (remove key_of k (x ∷ xs)) ≡ true
      go (lt p) ih = rw (remove-past key_of k x xs (λ q. omega arith)) (both_so (head-so x xs s) ih)
      go (eq p) ih = rw (remove-here key_of k x xs p) (tail-so x xs s)
      go (gt p) ih = rw (remove-past key_of k x xs (λ q. omega arith)) (both_so (head-so x xs s) ih)

  pub every-pop : (xs : List E) → every test xs ≡ true → every test (pop_first xs) ≡ true
  every-pop [] s = s
  every-pop (x ∷ xs) s = tail-so x xs s

  pub every-keep : (p : E → Bool) (xs : List E) → every test xs ≡ true → every test (keep p xs) ≡ true
  every-keep p [] s = s
  every-keep p (x ∷ xs) s = go (p x) (every-keep p xs (tail-so x xs s)) where
    go : (b : Bool) → every test (keep p xs) ≡ true → every test (cond b (x ∷ keep p xs) (keep p xs)) ≡ true
    go true ih = both_so (head-so x xs s) ih
    go false ih = ih

  -- changes that leave the test passed
  module _ (f : E → E) (kept : (x : E) → test x ≡ true → test (f x) ≡ true) where
    pub every_map : (xs : List E) → every test xs ≡ true → every test (map f xs) ≡ true
    every_map [] s = s
    every_map (x ∷ xs) s = both_so (kept x (head-so x xs s)) (every_map xs (tail-so x xs s))

    pub every-change : (fits : E → Bool) (xs : List E) → every test xs ≡ true → every test (change_first fits f xs) ≡ true
    unfolding change_first
    every-change fits [] s = s
    every-change fits (x ∷ xs) s = go (fits x) (every-change fits xs (tail-so x xs s)) where
      go : (b : Bool) → every test (change_first fits f xs) ≡ true → every test (cond b (f x ∷ xs) (x ∷ change_first fits f xs)) ≡ true
      go true ih = both_so (kept x (head-so x xs s)) (tail-so x xs s)
      go false ih = both_so (head-so x xs s) ih
