-- What a filter leaves of rows: whether one of them fits, what stands under a key, and how many there are once there is one under it.
-- Each law takes the first row off, and goes by whether it passes.
use Rattle.std.specs.Prelude.{Some, None}
use Prim.Native.Nat.{ℕ, suc, ◌<◌, ◌≤◌}
use native.Mathlib.Omega.{arith}
use mathlib.Core.Bool.{Bool, true, false, cond, not, ◌&&◌, ◌||◌, false≢true, true≢false}
use mathlib.Core.List.{List, [], ◌∷◌, map}
use mathlib.Core.Path.{◌≡◌, refl, sym, ap, ◌∙◌, subst}
use lib.Dec.{leb, eqb}
use lib.ListN.{length}
use borrow.Author.Tests.{le-leb, lt-leb}
use Rattle.standard.specs.Ordered.{Before, Ascending, lookup, count_with, keep}
use Rattle.standard.specs.Query.{some_fits}
use Rattle.flat_map.proofs.Compare.{Tri, lt, eq, gt, tri}
use Rattle.flat_map.proofs.Ordered.{none-some, lookup-none, lookup-here, lookup-past, lookup-below, count-with-missing, count-with-found, length-keep}
use Rattle.flat_map.proofs.Rows.{cons}

module _ {E : Type 0} (p : E → Bool) where
  -- one that fits is left where one passes and fits
  pub some_left : (fits : E → Bool) (xs : List E) → some_fits fits (keep p xs) ≡ some_fits (λ x. p x && fits x) xs
  unfolding some_fits
  some_left fits [] = refl
  some_left fits (x ∷ xs) = go (p x) (some_left fits xs) where
    go : (b : Bool) → some_fits fits (keep p xs) ≡ some_fits (λ y. p y && fits y) xs → some_fits fits (cond b (x ∷ keep p xs) (keep p xs)) ≡ ((b && fits x) || some_fits (λ y. p y && fits y) xs)
    go true ih = ap (λ (c : Bool). fits x || c) ih
    go false ih = ih

  -- fewer are left where one fails, and else all
  pub fewer-left : (xs : List E) → some_fits (λ x. not (p x)) xs ≡ true → length (keep p xs) < length xs
  unfolding some_fits
  fewer-left [] h = absurd (false≢true h)
  fewer-left (x ∷ xs) h = go (p x) h (λ q. fewer-left xs q) where
    go : (b : Bool) → (not b || some_fits (λ y. not (p y)) xs) ≡ true → (some_fits (λ y. not (p y)) xs ≡ true → length (keep p xs) < length xs) → length (cond b (x ∷ keep p xs) (keep p xs)) < suc (length xs)
    go true q ih = omega (arith, ih q)
    go false q ih = omega (arith, length-keep (λ (y : E). 0) p xs)

  pub all_left : (xs : List E) → some_fits (λ x. not (p x)) xs ≡ false → keep p xs ≡ xs
  unfolding some_fits
  all_left [] h = refl
  all_left (x ∷ xs) h = go (p x) h (λ q. all_left xs q) where
    go : (b : Bool) → (not b || some_fits (λ y. not (p y)) xs) ≡ false → (some_fits (λ y. not (p y)) xs ≡ false → keep p xs ≡ xs) → cond b (x ∷ keep p xs) (keep p xs) ≡ x ∷ xs
    go true q ih = cons x (ih q)
    go false q ih = absurd (true≢false q)

module _ {E : Type 0} (key_of : E → ℕ) (p : E → Bool) (k : ℕ) where
  -- a row under another key changes nothing
  other-left : (x : E) (xs : List E) → (key_of x ≡ k → ⊥) → lookup key_of k (keep p (x ∷ xs)) ≡ lookup key_of k (keep p xs)
  other-left x xs n = go (p x) where
    go : (b : Bool) → lookup key_of k (cond b (x ∷ keep p xs) (keep p xs)) ≡ lookup key_of k (keep p xs)
    go true = lookup-past key_of k x (keep p xs) n
    go false = refl

  -- what is missing is missing in what is left
  pub missing-left : (xs : List E) → lookup key_of k xs ≡ None → lookup key_of k (keep p xs) ≡ None
  missing-left [] h = h
  missing-left (x ∷ xs) h = go (tri (key_of x) k) (λ q. missing-left xs q) where
    past : (key_of x ≡ k → ⊥) → (lookup key_of k xs ≡ None → lookup key_of k (keep p xs) ≡ None) → lookup key_of k (keep p (x ∷ xs)) ≡ None
    past n ih = other-left x xs n ∙ ih (sym (lookup-past key_of k x xs n) ∙ h)

    go : Tri (key_of x) k → (lookup key_of k xs ≡ None → lookup key_of k (keep p xs) ≡ None) → lookup key_of k (keep p (x ∷ xs)) ≡ None
    go (lt q) ih = past (λ r. omega arith) ih
    go (eq q) ih = absurd (none-some x (sym h ∙ lookup-here key_of k x xs q))
    go (gt q) ih = past (λ r. omega arith) ih

  -- a row found that passes is left, and one that fails is gone
  pub found_left : (xs : List E) (e : E) → lookup key_of k xs ≡ Some e → p e ≡ true → lookup key_of k (keep p xs) ≡ Some e
  found_left [] e h t = h
  found_left (x ∷ xs) e h t = go (tri (key_of x) k) (λ q. found_left xs e q t) where
    past : (key_of x ≡ k → ⊥) → (lookup key_of k xs ≡ Some e → lookup key_of k (keep p xs) ≡ Some e) → lookup key_of k (keep p (x ∷ xs)) ≡ Some e
    past n ih = other-left x xs n ∙ ih (sym (lookup-past key_of k x xs n) ∙ h)

    go : Tri (key_of x) k → (lookup key_of k xs ≡ Some e → lookup key_of k (keep p xs) ≡ Some e) → lookup key_of k (keep p (x ∷ xs)) ≡ Some e
    go (lt q) ih = past (λ r. omega arith) ih
    go (eq q) ih =
        let s : x ≡ e = cc (lookup-here key_of k x xs q) in
        rw (ap p s ∙ t) (lookup-here key_of k x (keep p xs) q ∙ ap Some s)
    go (gt q) ih = past (λ r. omega arith) ih

  pub gone-left : (xs : List E) (e : E) → Ascending key_of xs → lookup key_of k xs ≡ Some e → p e ≡ false → lookup key_of k (keep p xs) ≡ None
  gone-left [] e a h t = absurd (none-some e (sym (lookup-none key_of k) ∙ h))
  gone-left (x ∷ xs) e a h t = go (tri (key_of x) k) (λ q. gone-left xs e a.1 q t) where
    past : (key_of x ≡ k → ⊥) → (lookup key_of k xs ≡ Some e → lookup key_of k (keep p xs) ≡ None) → lookup key_of k (keep p (x ∷ xs)) ≡ None
    past n ih = other-left x xs n ∙ ih (sym (lookup-past key_of k x xs n) ∙ h)

    go : Tri (key_of x) k → (lookup key_of k xs ≡ Some e → lookup key_of k (keep p xs) ≡ None) → lookup key_of k (keep p (x ∷ xs)) ≡ None
    go (lt q) ih = past (λ r. omega arith) ih
    go (eq q) ih =
        let s : x ≡ e = cc (lookup-here key_of k x xs q) in
        rw (ap p s ∙ t) (missing-left xs (lookup-below key_of k xs (subst (λ (j : ℕ). Before j (map key_of xs)) q a.0) a.1))
    go (gt q) ih = past (λ r. omega arith) ih

  -- how many rows there are once there is one under the key: at most one more, and no more in what is left
  count_most : (xs : List E) → count_with key_of k xs ≤ suc (length xs)
  unfolding count_with
  count_most [] = omega arith
  count_most (x ∷ xs) = go (eqb (key_of x) k) (count_most xs) where
    go : (b : Bool) → count_with key_of k xs ≤ suc (length xs) → cond b (suc (length xs)) (suc (count_with key_of k xs)) ≤ suc (suc (length xs))
    go true ih = omega arith
    go false ih = omega arith

  pub count_left : (xs : List E) → count_with key_of k (keep p xs) ≤ count_with key_of k xs
  unfolding count_with
  count_left [] = omega arith
  count_left (x ∷ xs) = go (p x) (eqb (key_of x) k) refl (count_left xs) where
    go : (b c : Bool) → eqb (key_of x) k ≡ c → count_with key_of k (keep p xs) ≤ count_with key_of k xs
        → count_with key_of k (cond b (x ∷ keep p xs) (keep p xs)) ≤ cond c (suc (length xs)) (suc (count_with key_of k xs))
    go true true e ih = rw (e, count_with) (omega (arith, length-keep key_of p xs))
    go true false e ih = rw (e, count_with) (omega arith)
    go false true e ih = omega (arith, count_most (keep p xs), length-keep key_of p xs)
    go false false e ih = omega arith

  -- whether a row under the key has room in what is left: where a place is free or the key is there, and else where one row fails
  module _ (cap : ℕ) (xs : List E) where
    pub room-free : length xs < cap → leb (count_with key_of k (keep p xs)) cap ≡ true
    room-free h = le-leb (count_with key_of k (keep p xs)) cap (omega (arith, count_left xs, count_most xs))

    pub room-there : (e : E) → length xs ≤ cap → lookup key_of k xs ≡ Some e → leb (count_with key_of k (keep p xs)) cap ≡ true
    room-there e h q = le-leb (count_with key_of k (keep p xs)) cap (omega (arith, count_left xs, count-with-found key_of k e xs q))

    pub room-freed : length xs ≡ cap → lookup key_of k xs ≡ None → leb (count_with key_of k (keep p xs)) cap ≡ some_fits (λ x. not (p x)) xs
    room-freed h q = go (some_fits (λ x. not (p x)) xs) refl where
      more : count_with key_of k (keep p xs) ≡ suc (length (keep p xs))
      more = count-with-missing key_of k (keep p xs) (missing-left xs q)

      go : (b : Bool) → some_fits (λ x. not (p x)) xs ≡ b → leb (count_with key_of k (keep p xs)) cap ≡ b
      go true t = le-leb (count_with key_of k (keep p xs)) cap (omega (arith, more, fewer-left p xs t))
      go false t = lt-leb (count_with key_of k (keep p xs)) cap (omega (arith, more, ap length (all_left p xs t)))
