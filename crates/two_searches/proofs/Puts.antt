-- Rows put one after the other leave every key but their own, and two such rows of puts commute if no key is in both:
-- each is the law of a single put, taken as often as there are rows.
use Rattle.std.specs.Prelude.{Some}
use Prim.Native.Nat.{ℕ}
use mathlib.Core.Path.{◌≡◌, refl, sym, ap, ◌∙◌, subst}
use mathlib.Core.Bool.{Bool, true, false, cond}
use mathlib.Core.List.{List, [], ◌∷◌}
use lib.Dec.{eqb}
use borrow.Author.Tests.{eqb-true, eqb-false}
use Rattle.standard.specs.Ordered.{lookup, put}
use Rattle.flat_map.proofs.Ordered.{lookup-put-same, lookup-put-other, put-comm}

module _ {E : Type 0} (key_of : E → ℕ) where
  -- the rows es put one after the other
  abbrev pub puts : List E → List E → List E
  puts [] xs = xs
  puts (e ∷ es) xs = puts es (put key_of e xs)

  -- every key of the rows is one of K
  abbrev pub Within : (ℕ → Type 0) → List E → Type 0
  Within K [] = Unit {0}
  Within K (e ∷ es) = K (key_of e) × Within K es

  -- a look-up after a put, at its key or another
  pub lookup-put : (k : ℕ) (e : E) (xs : List E) → lookup key_of k (put key_of e xs) ≡ cond (eqb (key_of e) k) (Some e) (lookup key_of k xs)
  lookup-put k e xs = go (eqb (key_of e) k) refl where
    go : (b : Bool) → eqb (key_of e) k ≡ b → lookup key_of k (put key_of e xs) ≡ cond b (Some e) (lookup key_of k xs)
    go true q = rw (← eqb-true (key_of e) k q) (lookup-put-same key_of e xs)
    go false q = lookup-put-other key_of k e xs (eqb-false (key_of e) k q)

  module _ (K : ℕ → Type 0) where
    pub lookup-puts : (k : ℕ) → (K k → ⊥) → (es xs : List E) → Within K es → lookup key_of k (puts es xs) ≡ lookup key_of k xs
    lookup-puts k n [] xs w = refl
    lookup-puts k n (e ∷ es) xs w = lookup-puts k n es (put key_of e xs) w.1 ∙ lookup-put-other key_of k e xs (λ q. n (subst K q w.0))

    put-puts : (e : E) → (K (key_of e) → ⊥) → (es xs : List E) → Within K es → put key_of e (puts es xs) ≡ puts es (put key_of e xs)
    put-puts e n [] xs w = refl
    put-puts e n (f ∷ es) xs w =
        put-puts e n es (put key_of f xs) w.1 ∙ ap (puts es) (put-comm key_of e f xs (λ q. n (subst K (sym q) w.0)))

    pub puts-comm : (L : ℕ → Type 0) → ((k : ℕ) → K k → L k → ⊥) → (es fs xs : List E) → Within K es → Within L fs
        → puts es (puts fs xs) ≡ puts fs (puts es xs)
    puts-comm L n es [] xs v w = refl
    puts-comm L n es (f ∷ fs) xs v w =
        puts-comm L n es fs (put key_of f xs) v w.1 ∙ ap (puts fs) (sym (put-puts f (λ k. n (key_of f) k w.0) es xs v))
