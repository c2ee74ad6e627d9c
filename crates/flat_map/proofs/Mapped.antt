-- Rows seen through a map that keeps their keys: put and remove commute with it, since they look at keys alone.
-- And a put makes rows no fewer, and a row that is found has what each row has.
use Rattle.std.specs.Prelude.{Some}
use Prim.Native.Nat.{ℕ, zero, suc, ◌≤◌}
use native.Mathlib.Omega.{arith}
use mathlib.Core.List.{List, [], ◌∷◌, map}
use mathlib.Core.Path.{◌≡◌, refl, sym, ap, ◌∙◌, subst}
use lib.ListN.{length, set}
use Rattle.standard.specs.Ordered.{lookup, put, remove}
use Rattle.flat_map.specs.Table.{Each}
use Rattle.flat_map.proofs.Compare.{Tri, lt, eq, gt, tri}
use Rattle.flat_map.proofs.Ordered.{none-some, lookup-none, lookup-here, lookup-past, put-none, put-lt, put-eq, put-gt, remove-none, remove-here, remove-past}
use Rattle.flat_map.proofs.Rows.{cons}

module _ {A B : Type 0} (f : A → B) where
  pub map-set : (xs : List A) (i : ℕ) (a : A) → map f (set xs i a) ≡ set (map f xs) i (f a)
  map-set [] i a = refl
  map-set (x ∷ xs) zero a = refl
  map-set (x ∷ xs) (suc i) a = cons (f x) (map-set xs i a)

  module _ (key_a : A → ℕ) (key_b : B → ℕ) (same : (x : A) → key_b (f x) ≡ key_a x) where
    pub map-put : (e : A) (xs : List A) → put key_b (f e) (map f xs) ≡ map f (put key_a e xs)
    map-put e [] = put-none key_b (f e) ∙ ap (map f) (sym (put-none key_a e))
    map-put e (x ∷ xs) = go (tri (key_a e) (key_a x)) (map-put e xs) where
      go : Tri (key_a e) (key_a x) → put key_b (f e) (map f xs) ≡ map f (put key_a e xs) → put key_b (f e) (map f (x ∷ xs)) ≡ map f (put key_a e (x ∷ xs))
      go (lt p) ih = put-lt key_b (f e) (f x) (map f xs) (omega (arith, same e, same x)) ∙ ap (map f) (sym (put-lt key_a e x xs p))
      go (eq p) ih = put-eq key_b (f e) (f x) (map f xs) (omega (arith, same e, same x)) ∙ ap (map f) (sym (put-eq key_a e x xs p))
      go (gt p) ih = put-gt key_b (f e) (f x) (map f xs) (omega (arith, same e, same x)) ∙ cons (f x) ih ∙ ap (map f) (sym (put-gt key_a e x xs p))

    pub map-remove : (k : ℕ) (xs : List A) → remove key_b k (map f xs) ≡ map f (remove key_a k xs)
    map-remove k [] = remove-none key_b k ∙ ap (map f) (sym (remove-none key_a k))
    map-remove k (x ∷ xs) = go (tri (key_a x) k) (map-remove k xs) where
      past : (key_a x ≡ k → ⊥) → remove key_b k (map f xs) ≡ map f (remove key_a k xs) → remove key_b k (map f (x ∷ xs)) ≡ map f (remove key_a k (x ∷ xs))
      past n ih = remove-past key_b k (f x) (map f xs) (λ q. n (sym (same x) ∙ q)) ∙ cons (f x) ih ∙ ap (map f) (sym (remove-past key_a k x xs n))

      go : Tri (key_a x) k → remove key_b k (map f xs) ≡ map f (remove key_a k xs) → remove key_b k (map f (x ∷ xs)) ≡ map f (remove key_a k (x ∷ xs))
      go (lt p) ih = past (λ q. omega arith) ih
      go (eq p) ih = remove-here key_b k (f x) (map f xs) (same x ∙ p) ∙ ap (map f) (sym (remove-here key_a k x xs p))
      go (gt p) ih = past (λ q. omega arith) ih

module _ {E : Type 0} (key_of : E → ℕ) where
  pub put-grows : (e : E) (xs : List E) → length xs ≤ length (put key_of e xs)
  put-grows e [] = omega arith
  put-grows e (x ∷ xs) = go (tri (key_of e) (key_of x)) (put-grows e xs) where
    go : Tri (key_of e) (key_of x) → length xs ≤ length (put key_of e xs) → length (x ∷ xs) ≤ length (put key_of e (x ∷ xs))
    go (lt p) ih = rw (put-lt key_of e x xs p) (omega arith)
    go (eq p) ih = rw (put-eq key_of e x xs p) (omega arith)
    go (gt p) ih = rw (put-gt key_of e x xs p) (omega arith)

  pub each-found : (P : E → Type 0) (k : ℕ) (xs : List E) (x : E) → Each P xs → lookup key_of k xs ≡ Some x → P x
  each-found P k [] x e h = absurd (none-some x (sym (lookup-none key_of k) ∙ h))
  each-found P k (y ∷ xs) x e h = go (tri (key_of y) k) (λ q. each-found P k xs x e.1 q) where
    go : Tri (key_of y) k → (lookup key_of k xs ≡ Some x → P x) → P x
    go (lt p) ih = ih (sym (lookup-past key_of k y xs (λ q. omega arith)) ∙ h)
    go (eq p) ih = let s : y ≡ x = cc (lookup-here key_of k y xs p) in subst P s e.0
    go (gt p) ih = ih (sym (lookup-past key_of k y xs (λ q. omega arith)) ∙ h)
