-- A property of each row: a test of every row tells it, a loop over the places in use finds it,
-- and the steps on rows keep it, since each row they leave was there or is the one put in.
use Prim.Native.Nat.{ℕ, zero, suc, ◌<◌, ◌≤◌, suc-le-suc}
use native.Mathlib.Nat.{le_of_suc-le-suc, not-suc-le-zero}
use native.Mathlib.Omega.{arith}
use mathlib.Core.Bool.{Bool, true, false, cond}
use mathlib.Core.List.{List, [], ◌∷◌}
use lib.ListN.{length, take, get_or}
use Rattle.standard.specs.Ordered.{put, remove, keep}
use Rattle.standard.specs.Tells.{Tells}
use Rattle.standard.proofs.Tells.{yes-so, tells_both}
use Rattle.flat_map.specs.Table.{Each, every}
use Rattle.flat_map.proofs.Compare.{Tri, lt, eq, gt, tri}
use Rattle.flat_map.proofs.Ordered.{put-none, put-lt, put-eq, put-gt, remove-none, remove-here, remove-past}

module _ {A : Type 0} (P : A → Type 0) where
  pub each-told : (test : A → Bool) → ((x : A) → Tells (P x) (test x)) → (xs : List A) → Tells (Each P xs) (every test xs)
  each-told test t [] = yes-so tt
  each-told test t (x ∷ xs) = tells_both (t x) (each-told test t xs)

  -- by what stands in the first n places of an array, and back
  pub each_placed : (d : A) (xs : List A) (n : ℕ) → n ≤ length xs → ((i : ℕ) → i < n → P (get_or xs i d)) → Each P (take n xs)
  each_placed d xs zero h all = tt
  each_placed d [] (suc n) h all = absurd (not-suc-le-zero h)
  each_placed d (x ∷ xs) (suc n) h all =
      (all 0 (omega arith), each_placed d xs n (le_of_suc-le-suc h) (λ i l. all (suc i) (suc-le-suc l)))

  pub each_at : (d : A) (xs : List A) (n : ℕ) → n ≤ length xs → Each P (take n xs) → (i : ℕ) → i < n → P (get_or xs i d)
  each_at d xs zero h e i l = absurd (not-suc-le-zero l)
  each_at d [] (suc n) h e i l = absurd (not-suc-le-zero h)
  each_at d (x ∷ xs) (suc n) h e zero l = e.0
  each_at d (x ∷ xs) (suc n) h e (suc i) l = each_at d xs n (le_of_suc-le-suc h) e.1 i (le_of_suc-le-suc l)

  pub each_keep : (p : A → Bool) (xs : List A) → Each P xs → Each P (keep p xs)
  each_keep p [] e = tt
  each_keep p (x ∷ xs) e = go (p x) (each_keep p xs e.1) where
    go : (b : Bool) → Each P (keep p xs) → Each P (cond b (x ∷ keep p xs) (keep p xs))
    go true ih = (e.0, ih)
    go false ih = ih

  module _ (key_of : A → ℕ) where
    pub each-put : (a : A) (xs : List A) → P a → Each P xs → Each P (put key_of a xs)
    each-put a [] h e = rw (put-none key_of a) (h, tt)
    each-put a (x ∷ xs) h e = go (tri (key_of a) (key_of x)) (each-put a xs h e.1) where
      go : Tri (key_of a) (key_of x) → Each P (put key_of a xs) → Each P (put key_of a (x ∷ xs))
      go (lt q) ih = rw (put-lt key_of a x xs q) (h, e)
      go (eq q) ih = rw (put-eq key_of a x xs q) (h, e.1)
      go (gt q) ih = rw (put-gt key_of a x xs q) (e.0, ih)

    pub each-remove : (k : ℕ) (xs : List A) → Each P xs → Each P (remove key_of k xs)
    each-remove k [] e = rw (remove-none key_of k) tt
    each-remove k (x ∷ xs) e = go (tri (key_of x) k) (each-remove k xs e.1) where
      go : Tri (key_of x) k → Each P (remove key_of k xs) → Each P (remove key_of k (x ∷ xs))
      go (lt q) ih = rw (remove-past key_of k x xs (λ r. omega arith)) (e.0, ih)
      go (eq q) ih = rw (remove-here key_of k x xs q) e.1
      go (gt q) ih = rw (remove-past key_of k x xs (λ r. omega arith)) (e.0, ih)
