-- Laws of rows in ascending order of their keys, once over the kind of row and its key.
-- Each goes by how the key stands to the first row's: below, equal or above.
use Rattle.std.specs.Prelude.{Some, None}
use Prim.Native.Nat.{ℕ, suc, ◌<◌, ◌≤◌}
use mathlib.Core.Path.{◌≡◌, refl, sym, ap, ◌∙◌, subst}
use mathlib.Core.Bool.{Bool, true, false, cond}
use mathlib.Core.List.{List, [], ◌∷◌, map}
use native.Mathlib.Omega.{arith}
use lib.ListN.{length}
use borrow.Author.Tests.{lt-ltb, le-ltb, eq-eqb, ne_eqb}
use Rattle.standard.specs.Ordered.{Before, Ascending, lookup, put, count_with, remove, pop_first, keep}
use Rattle.flat_map.proofs.Compare.{Tri, lt, eq, gt, tri}
use Rattle.flat_map.proofs.Order.{before-trans}

-- the definitions' clauses, by how two keys stand
module _ {E : Type 0} (key_of : E → ℕ) where
  pub lookup-here : (k : ℕ) (x : E) (xs : List E) → key_of x ≡ k → lookup key_of k (x ∷ xs) ≡ Some x
  unfolding lookup
  lookup-here k x xs h = rw (eq-eqb (key_of x) k h, lookup)

  pub lookup-past : (k : ℕ) (x : E) (xs : List E) → (key_of x ≡ k → ⊥) → lookup key_of k (x ∷ xs) ≡ lookup key_of k xs
  unfolding lookup
  lookup-past k x xs h = rw (ne_eqb (key_of x) k h, lookup)

  pub put-lt : (e x : E) (xs : List E) → key_of e < key_of x → put key_of e (x ∷ xs) ≡ e ∷ x ∷ xs
  unfolding put
  put-lt e x xs h = rw (lt-ltb (key_of e) (key_of x) h, put)

  pub put-eq : (e x : E) (xs : List E) → key_of e ≡ key_of x → put key_of e (x ∷ xs) ≡ e ∷ xs
  unfolding put
  put-eq e x xs h = rw (le-ltb (key_of e) (key_of x) (omega arith), eq-eqb (key_of x) (key_of e) (sym h), put)

  pub put-gt : (e x : E) (xs : List E) → key_of x < key_of e → put key_of e (x ∷ xs) ≡ x ∷ put key_of e xs
  unfolding put
  put-gt e x xs h = rw (le-ltb (key_of e) (key_of x) (omega arith), ne_eqb (key_of x) (key_of e) (λ q. omega arith), put)

  pub remove-here : (k : ℕ) (x : E) (xs : List E) → key_of x ≡ k → remove key_of k (x ∷ xs) ≡ xs
  unfolding remove
  remove-here k x xs h = rw (eq-eqb (key_of x) k h, remove)

  pub remove-past : (k : ℕ) (x : E) (xs : List E) → (key_of x ≡ k → ⊥) → remove key_of k (x ∷ xs) ≡ x ∷ remove key_of k xs
  unfolding remove
  remove-past k x xs h = rw (ne_eqb (key_of x) k h, remove)

  pub lookup-none : (k : ℕ) → lookup key_of k [] ≡ None
  unfolding lookup
  lookup-none k = refl

  pub put-none : (e : E) → put key_of e [] ≡ e ∷ []
  unfolding put
  put-none e = refl

  pub remove-none : (k : ℕ) → remove key_of k [] ≡ []
  unfolding remove
  remove-none k = refl

pub none-some : {E : Type 0} (x : E) → None ≡ Some x → ⊥
none-some x e = let z : ◌≡◌ {A = ℕ} 0 1 = cc in omega arith

module _ {E : Type 0} (key_of : E → ℕ) where
  -- what stands under a key after a put there
  pub lookup-put-same : (e : E) (xs : List E) → lookup key_of (key_of e) (put key_of e xs) ≡ Some e
  lookup-put-same e [] = rw (put-none key_of e) (lookup-here key_of (key_of e) e [] refl)
  lookup-put-same e (x ∷ xs) = go (tri (key_of e) (key_of x)) (lookup-put-same e xs) where
    go : Tri (key_of e) (key_of x) → lookup key_of (key_of e) (put key_of e xs) ≡ Some e → lookup key_of (key_of e) (put key_of e (x ∷ xs)) ≡ Some e
    go (lt p) ih = rw (put-lt key_of e x xs p) (lookup-here key_of (key_of e) e (x ∷ xs) refl)
    go (eq p) ih = rw (put-eq key_of e x xs p) (lookup-here key_of (key_of e) e xs refl)
    go (gt p) ih = rw (put-gt key_of e x xs p) (lookup-past key_of (key_of e) x (put key_of e xs) (λ q. omega arith) ∙ ih)

  -- and under any other key
  pub lookup-put-other : (k : ℕ) (e : E) (xs : List E) → (key_of e ≡ k → ⊥) → lookup key_of k (put key_of e xs) ≡ lookup key_of k xs
  lookup-put-other k e [] h = rw (put-none key_of e) (lookup-past key_of k e [] h)
  lookup-put-other k e (x ∷ xs) h = go (tri (key_of e) (key_of x)) (tri (key_of x) k) (lookup-put-other k e xs h) where
    past : (key_of x ≡ k → ⊥) → lookup key_of k (put key_of e xs) ≡ lookup key_of k xs → lookup key_of k (x ∷ put key_of e xs) ≡ lookup key_of k (x ∷ xs)
    past n ih = lookup-past key_of k x (put key_of e xs) n ∙ ih ∙ sym (lookup-past key_of k x xs n)

    go : Tri (key_of e) (key_of x) → Tri (key_of x) k → lookup key_of k (put key_of e xs) ≡ lookup key_of k xs → lookup key_of k (put key_of e (x ∷ xs)) ≡ lookup key_of k (x ∷ xs)
    go (lt p) t ih = rw (put-lt key_of e x xs p) (lookup-past key_of k e (x ∷ xs) h)
    go (eq p) t ih = rw (put-eq key_of e x xs p) (lookup-past key_of k e xs h ∙ sym (lookup-past key_of k x xs (λ q. h (p ∙ q))))
    go (gt p) (eq q) ih = rw (put-gt key_of e x xs p) (lookup-here key_of k x (put key_of e xs) q ∙ sym (lookup-here key_of k x xs q))
    go (gt p) (lt q) ih = rw (put-gt key_of e x xs p) (past (λ r. omega arith) ih)
    go (gt p) (gt q) ih = rw (put-gt key_of e x xs p) (past (λ r. omega arith) ih)

  -- two puts at different keys commute
  put-comm-lt : (e f : E) (xs : List E) → key_of e < key_of f → put key_of e (put key_of f xs) ≡ put key_of f (put key_of e xs)
  put-comm-lt e f [] h = simp (put-none key_of, put-lt key_of e f [] h, put-gt key_of f e [] h)
  put-comm-lt e f (x ∷ xs) h = go (tri (key_of e) (key_of x)) (tri (key_of f) (key_of x)) (put-comm-lt e f xs h) where
    go : Tri (key_of e) (key_of x) → Tri (key_of f) (key_of x) → put key_of e (put key_of f xs) ≡ put key_of f (put key_of e xs) → put key_of e (put key_of f (x ∷ xs)) ≡ put key_of f (put key_of e (x ∷ xs))
    go (lt p) (lt q) ih = simp (put-lt key_of f x xs q, put-lt key_of e f (x ∷ xs) h, put-lt key_of e x xs p, put-gt key_of f e (x ∷ xs) h)
    go (lt p) (eq q) ih = simp (put-eq key_of f x xs q, put-lt key_of e f xs h, put-lt key_of e x xs p, put-gt key_of f e (x ∷ xs) h)
    go (lt p) (gt q) ih = simp (put-gt key_of f x xs q, put-lt key_of e x (put key_of f xs) p, put-lt key_of e x xs p, put-gt key_of f e (x ∷ xs) h)
    go (eq p) (lt q) ih = absurd (omega arith)
    go (eq p) (eq q) ih = absurd (omega arith)
    go (eq p) (gt q) ih = simp (put-gt key_of f x xs q, put-eq key_of e x (put key_of f xs) p, put-eq key_of e x xs p, put-gt key_of f e xs h)
    go (gt p) (lt q) ih = absurd (omega arith)
    go (gt p) (eq q) ih = absurd (omega arith)
    go (gt p) (gt q) ih = simp (put-gt key_of f x xs q, put-gt key_of e x (put key_of f xs) p, put-gt key_of e x xs p, put-gt key_of f x (put key_of e xs) q, ih)

  pub put-comm : (e f : E) (xs : List E) → (key_of e ≡ key_of f → ⊥) → put key_of e (put key_of f xs) ≡ put key_of f (put key_of e xs)
  put-comm e f xs h = go (tri (key_of e) (key_of f)) where
    go : Tri (key_of e) (key_of f) → put key_of e (put key_of f xs) ≡ put key_of f (put key_of e xs)
    go (lt p) = put-comm-lt e f xs p
    go (eq p) = absurd (h p)
    go (gt p) = sym (put-comm-lt f e xs p)

  -- of two puts at one key the second is left
  pub put-put : (e f : E) (xs : List E) → key_of e ≡ key_of f → put key_of e (put key_of f xs) ≡ put key_of e xs
  put-put e f [] h = simp (put-none key_of, put-eq key_of e f [] h)
  put-put e f (x ∷ xs) h = go (tri (key_of f) (key_of x)) (put-put e f xs h) where
    go : Tri (key_of f) (key_of x) → put key_of e (put key_of f xs) ≡ put key_of e xs → put key_of e (put key_of f (x ∷ xs)) ≡ put key_of e (x ∷ xs)
    go (lt p) ih = simp (put-lt key_of f x xs p, put-eq key_of e f (x ∷ xs) h, put-lt key_of e x xs (omega arith))
    go (eq p) ih = simp (put-eq key_of f x xs p, put-eq key_of e f xs h, put-eq key_of e x xs (h ∙ p))
    go (gt p) ih = simp (put-gt key_of f x xs p, put-gt key_of e x (put key_of f xs) (omega arith), put-gt key_of e x xs (omega arith), ih)

  -- a key below all of them is absent
  pub lookup-below : (k : ℕ) (xs : List E) → Before k (map key_of xs) → Ascending key_of xs → lookup key_of k xs ≡ None
  lookup-below k [] b a = lookup-none key_of k
  lookup-below k (x ∷ xs) b a =
      lookup-past key_of k x xs (λ e. omega arith) ∙ lookup-below k xs (before-trans k (key_of x) (map key_of xs) b a.0) a.1

  -- put and remove keep the order
  before-put : (k : ℕ) (e : E) (xs : List E) → k < key_of e → Before k (map key_of xs) → Before k (map key_of (put key_of e xs))
  before-put k e [] h b = rw (put-none key_of e) h
  before-put k e (x ∷ xs) h b = go (tri (key_of e) (key_of x)) where
    go : Tri (key_of e) (key_of x) → Before k (map key_of (put key_of e (x ∷ xs)))
    go (lt p) = rw (put-lt key_of e x xs p) h
    go (eq p) = rw (put-eq key_of e x xs p) h
    go (gt p) = rw (put-gt key_of e x xs p) b

  pub ascending-put : (e : E) (xs : List E) → Ascending key_of xs → Ascending key_of (put key_of e xs)
  ascending-put e [] a = rw (put-none key_of e) (tt, tt)
  ascending-put e (x ∷ xs) a = go (tri (key_of e) (key_of x)) (ascending-put e xs a.1) where
    go : Tri (key_of e) (key_of x) → Ascending key_of (put key_of e xs) → Ascending key_of (put key_of e (x ∷ xs))
    go (lt p) ih = rw (put-lt key_of e x xs p) (p, a)
    go (eq p) ih = rw (put-eq key_of e x xs p) (subst (λ (k : ℕ). Before k (map key_of xs)) (sym p) a.0, a.1)
    go (gt p) ih = rw (put-gt key_of e x xs p) (before-put (key_of x) e xs p a.0, ih)

  before-remove : (j k : ℕ) (xs : List E) → Before j (map key_of xs) → Ascending key_of xs → Before j (map key_of (remove key_of k xs))
  before-remove j k [] b a = rw (remove-none key_of k) tt
  before-remove j k (x ∷ xs) b a = go (tri (key_of x) k) where
    go : Tri (key_of x) k → Before j (map key_of (remove key_of k (x ∷ xs)))
    go (lt p) = rw (remove-past key_of k x xs (λ q. omega arith)) b
    go (eq p) = rw (remove-here key_of k x xs p) (before-trans j (key_of x) (map key_of xs) b a.0)
    go (gt p) = rw (remove-past key_of k x xs (λ q. omega arith)) b

  pub ascending-remove : (k : ℕ) (xs : List E) → Ascending key_of xs → Ascending key_of (remove key_of k xs)
  ascending-remove k [] a = rw (remove-none key_of k) tt
  ascending-remove k (x ∷ xs) a = go (tri (key_of x) k) (ascending-remove k xs a.1) where
    go : Tri (key_of x) k → Ascending key_of (remove key_of k xs) → Ascending key_of (remove key_of k (x ∷ xs))
    go (lt p) ih = rw (remove-past key_of k x xs (λ q. omega arith)) (before-remove (key_of x) k xs a.0 a.1, ih)
    go (eq p) ih = rw (remove-here key_of k x xs p) a.1
    go (gt p) ih = rw (remove-past key_of k x xs (λ q. omega arith)) (before-remove (key_of x) k xs a.0 a.1, ih)

  pub ascending-pop : (xs : List E) → Ascending key_of xs → Ascending key_of (pop_first xs)
  ascending-pop [] a = tt
  ascending-pop (x ∷ xs) a = a.1

  -- what stands under a key after a removal there, and under any other
  pub lookup-remove-same : (k : ℕ) (xs : List E) → Ascending key_of xs → lookup key_of k (remove key_of k xs) ≡ None
  lookup-remove-same k [] a = simp (remove-none key_of, lookup-none key_of)
  lookup-remove-same k (x ∷ xs) a = go (tri (key_of x) k) (lookup-remove-same k xs a.1) where
    past : (key_of x ≡ k → ⊥) → lookup key_of k (remove key_of k xs) ≡ None → lookup key_of k (remove key_of k (x ∷ xs)) ≡ None
    past n ih = rw (remove-past key_of k x xs n) (lookup-past key_of k x (remove key_of k xs) n ∙ ih)

    go : Tri (key_of x) k → lookup key_of k (remove key_of k xs) ≡ None → lookup key_of k (remove key_of k (x ∷ xs)) ≡ None
    go (lt p) ih = past (λ q. omega arith) ih
    go (eq p) ih = rw (remove-here key_of k x xs p) (lookup-below k xs (subst (λ (j : ℕ). Before j (map key_of xs)) p a.0) a.1)
    go (gt p) ih = past (λ q. omega arith) ih

  pub lookup-remove-other : (j k : ℕ) (xs : List E) → (j ≡ k → ⊥) → lookup key_of j (remove key_of k xs) ≡ lookup key_of j xs
  lookup-remove-other j k [] h = simp (remove-none key_of)
  lookup-remove-other j k (x ∷ xs) h = go (tri (key_of x) k) (tri (key_of x) j) (lookup-remove-other j k xs h) where
    past : (key_of x ≡ j → ⊥) → lookup key_of j (remove key_of k xs) ≡ lookup key_of j xs → lookup key_of j (x ∷ remove key_of k xs) ≡ lookup key_of j (x ∷ xs)
    past n ih = lookup-past key_of j x (remove key_of k xs) n ∙ ih ∙ sym (lookup-past key_of j x xs n)

    kept : (key_of x ≡ k → ⊥) → Tri (key_of x) j → lookup key_of j (remove key_of k xs) ≡ lookup key_of j xs → lookup key_of j (remove key_of k (x ∷ xs)) ≡ lookup key_of j (x ∷ xs)
    kept n (eq q) ih = rw (remove-past key_of k x xs n) (lookup-here key_of j x (remove key_of k xs) q ∙ sym (lookup-here key_of j x xs q))
    kept n (lt q) ih = rw (remove-past key_of k x xs n) (past (λ r. omega arith) ih)
    kept n (gt q) ih = rw (remove-past key_of k x xs n) (past (λ r. omega arith) ih)

    go : Tri (key_of x) k → Tri (key_of x) j → lookup key_of j (remove key_of k xs) ≡ lookup key_of j xs → lookup key_of j (remove key_of k (x ∷ xs)) ≡ lookup key_of j (x ∷ xs)
    go (lt p) t ih = kept (λ q. omega arith) t ih
    go (eq p) t ih = rw (remove-here key_of k x xs p) (sym (lookup-past key_of j x xs (λ q. h (sym q ∙ p))))
    go (gt p) t ih = kept (λ q. omega arith) t ih

  -- a row found stands under the key looked for
  pub lookup_key : (k : ℕ) (xs : List E) (e : E) → lookup key_of k xs ≡ Some e → key_of e ≡ k
  lookup_key k [] e h = absurd (none-some e (sym (lookup-none key_of k) ∙ h))
  lookup_key k (x ∷ xs) e h = go (tri (key_of x) k) (λ q. lookup_key k xs e q) where
    go : Tri (key_of x) k → (lookup key_of k xs ≡ Some e → key_of e ≡ k) → key_of e ≡ k
    go (lt p) ih = ih (sym (lookup-past key_of k x xs (λ q. omega arith)) ∙ h)
    go (eq p) ih = let s : x ≡ e = cc (lookup-here key_of k x xs p) in ap key_of (sym s) ∙ p
    go (gt p) ih = ih (sym (lookup-past key_of k x xs (λ q. omega arith)) ∙ h)

  -- to put what is there changes nothing
  pub put_id : (e : E) (xs : List E) → Ascending key_of xs → lookup key_of (key_of e) xs ≡ Some e → put key_of e xs ≡ xs
  put_id e [] a h = absurd (none-some e (sym (lookup-none key_of (key_of e)) ∙ h))
  put_id e (x ∷ xs) a h = go (tri (key_of e) (key_of x)) (λ q. put_id e xs a.1 q) where
    go : Tri (key_of e) (key_of x) → (lookup key_of (key_of e) xs ≡ Some e → put key_of e xs ≡ xs) → put key_of e (x ∷ xs) ≡ x ∷ xs
    go (lt p) ih = absurd (none-some e (sym (lookup-below (key_of e) (x ∷ xs) p a) ∙ h))
    go (eq p) ih = let s : x ≡ e = cc (lookup-here key_of (key_of e) x xs (sym p)) in put-eq key_of e x xs p ∙ ap {B = List E} (λ y. y ∷ xs) (sym s)
    go (gt p) ih = rw (put-gt key_of e x xs p) (ap {B = List E} (λ r. x ∷ r) (ih (sym (lookup-past key_of (key_of e) x xs (λ q. omega arith)) ∙ h)))

  -- two ascending maps with the same look-ups are equal
  pub ext : (xs ys : List E) → Ascending key_of xs → Ascending key_of ys → ((k : ℕ) → lookup key_of k xs ≡ lookup key_of k ys) → xs ≡ ys
  ext [] [] a b h = refl
  ext [] (y ∷ ys) a b h = absurd (none-some y (sym (lookup-none key_of (key_of y)) ∙ h (key_of y) ∙ lookup-here key_of (key_of y) y ys refl))
  ext (x ∷ xs) [] a b h = absurd (none-some x (sym (lookup-none key_of (key_of x)) ∙ sym (h (key_of x)) ∙ lookup-here key_of (key_of x) x xs refl))
  ext (x ∷ xs) (y ∷ ys) a b h = go (tri (key_of x) (key_of y)) (λ q. ext xs ys a.1 b.1 q) where
    rest : key_of x ≡ key_of y → (k : ℕ) → Tri k (key_of x) → lookup key_of k xs ≡ lookup key_of k ys
    rest e k (eq q) =
        lookup-below k xs (subst (λ (j : ℕ). Before j (map key_of xs)) (sym q) a.0) a.1
        ∙ sym (lookup-below k ys (subst (λ (j : ℕ). Before j (map key_of ys)) (sym (q ∙ e)) b.0) b.1)
    rest e k (lt q) = sym (lookup-past key_of k x xs (λ r. omega arith)) ∙ h k ∙ lookup-past key_of k y ys (λ r. omega arith)
    rest e k (gt q) = sym (lookup-past key_of k x xs (λ r. omega arith)) ∙ h k ∙ lookup-past key_of k y ys (λ r. omega arith)

    go : Tri (key_of x) (key_of y) → (((k : ℕ) → lookup key_of k xs ≡ lookup key_of k ys) → xs ≡ ys) → x ∷ xs ≡ y ∷ ys
    go (lt q) ih = absurd (none-some x (sym (lookup-below (key_of x) (y ∷ ys) q b) ∙ sym (h (key_of x)) ∙ lookup-here key_of (key_of x) x xs refl))
    go (gt q) ih = absurd (none-some y (sym (lookup-below (key_of y) (x ∷ xs) q a) ∙ h (key_of y) ∙ lookup-here key_of (key_of y) y ys refl))
    go (eq q) ih =
        let s : x ≡ y = cc (h (key_of x), lookup-here key_of (key_of x) x xs refl, lookup-here key_of (key_of x) y ys (sym q)) in
        let r : xs ≡ ys = ih (λ k. rest q k (tri k (key_of x))) in
        cc

  -- how many rows there are once there is one under a key
  pub count-with-missing : (k : ℕ) (xs : List E) → lookup key_of k xs ≡ None → count_with key_of k xs ≡ suc (length xs)
  unfolding count_with
  count-with-missing k [] h = refl
  count-with-missing k (x ∷ xs) h = go (tri (key_of x) k) (λ q. count-with-missing k xs q) where
    past : (key_of x ≡ k → ⊥) → (lookup key_of k xs ≡ None → count_with key_of k xs ≡ suc (length xs)) → count_with key_of k (x ∷ xs) ≡ suc (suc (length xs))
    past n ih = rw (ne_eqb (key_of x) k n, count_with) (ap suc (ih (sym (lookup-past key_of k x xs n) ∙ h)))

    go : Tri (key_of x) k → (lookup key_of k xs ≡ None → count_with key_of k xs ≡ suc (length xs)) → count_with key_of k (x ∷ xs) ≡ suc (suc (length xs))
    go (lt p) ih = past (λ q. omega arith) ih
    go (eq p) ih = absurd (none-some x (sym h ∙ lookup-here key_of k x xs p))
    go (gt p) ih = past (λ q. omega arith) ih

  pub count-with-found : (k : ℕ) (d : E) (xs : List E) → lookup key_of k xs ≡ Some d → count_with key_of k xs ≡ length xs
  unfolding count_with
  count-with-found k d [] h = absurd (none-some d (sym (lookup-none key_of k) ∙ h))
  count-with-found k d (x ∷ xs) h = go (tri (key_of x) k) (λ q. count-with-found k d xs q) where
    past : (key_of x ≡ k → ⊥) → (lookup key_of k xs ≡ Some d → count_with key_of k xs ≡ length xs) → count_with key_of k (x ∷ xs) ≡ suc (length xs)
    past n ih = rw (ne_eqb (key_of x) k n, count_with) (ap suc (ih (sym (lookup-past key_of k x xs n) ∙ h)))

    go : Tri (key_of x) k → (lookup key_of k xs ≡ Some d → count_with key_of k xs ≡ length xs) → count_with key_of k (x ∷ xs) ≡ suc (length xs)
    go (lt p) ih = past (λ q. omega arith) ih
    go (eq p) ih = rw (eq-eqb (key_of x) k p, count_with)
    go (gt p) ih = past (λ q. omega arith) ih

  -- and so many there are after a put
  pub length-put : (e : E) (xs : List E) → Ascending key_of xs → length (put key_of e xs) ≡ count_with key_of (key_of e) xs
  unfolding count_with
  length-put e [] a = rw (put-none key_of e)
  length-put e (x ∷ xs) a = go (tri (key_of e) (key_of x)) (length-put e xs a.1) where
    go : Tri (key_of e) (key_of x) → length (put key_of e xs) ≡ count_with key_of (key_of e) xs → length (put key_of e (x ∷ xs)) ≡ count_with key_of (key_of e) (x ∷ xs)
    go (lt p) ih = rw (put-lt key_of e x xs p) (sym (count-with-missing (key_of e) (x ∷ xs) (lookup-below (key_of e) (x ∷ xs) p a)))
    go (eq p) ih = rw (put-eq key_of e x xs p, eq-eqb (key_of x) (key_of e) (sym p), count_with)
    go (gt p) ih = rw (put-gt key_of e x xs p, ne_eqb (key_of x) (key_of e) (λ q. omega arith), count_with) (ap suc ih)

  pub length-remove : (k : ℕ) (xs : List E) → length (remove key_of k xs) ≤ length xs
  length-remove k [] = rw (remove-none key_of k) (omega arith)
  length-remove k (x ∷ xs) = go (tri (key_of x) k) (length-remove k xs) where
    go : Tri (key_of x) k → length (remove key_of k xs) ≤ length xs → length (remove key_of k (x ∷ xs)) ≤ suc (length xs)
    go (lt p) ih = rw (remove-past key_of k x xs (λ q. omega arith)) (omega arith)
    go (eq p) ih = rw (remove-here key_of k x xs p) (omega arith)
    go (gt p) ih = rw (remove-past key_of k x xs (λ q. omega arith)) (omega arith)

  -- what a sweep keeps is in order, and no more than there was
  module _ (p : E → Bool) where
    before-keep : (k : ℕ) (xs : List E) → Before k (map key_of xs) → Ascending key_of xs → Before k (map key_of (keep p xs))
    before-keep k [] b a = tt
    before-keep k (x ∷ xs) b a = go (p x) (before-keep k xs (before-trans k (key_of x) (map key_of xs) b a.0) a.1) where
      go : (c : Bool) → Before k (map key_of (keep p xs)) → Before k (map key_of (cond c (x ∷ keep p xs) (keep p xs)))
      go true ih = b
      go false ih = ih

    pub ascending-keep : (xs : List E) → Ascending key_of xs → Ascending key_of (keep p xs)
    ascending-keep [] a = tt
    ascending-keep (x ∷ xs) a = go (p x) (ascending-keep xs a.1) where
      go : (c : Bool) → Ascending key_of (keep p xs) → Ascending key_of (cond c (x ∷ keep p xs) (keep p xs))
      go true ih = (before-keep (key_of x) xs a.0 a.1, ih)
      go false ih = ih

    pub length-keep : (xs : List E) → length (keep p xs) ≤ length xs
    length-keep [] = omega arith
    length-keep (x ∷ xs) = go (p x) (length-keep xs) where
      go : (c : Bool) → length (keep p xs) ≤ length xs → length (cond c (x ∷ keep p xs) (keep p xs)) ≤ suc (length xs)
      go true h = omega arith
      go false h = omega arith

  -- a change of every row that leaves the keys leaves the order
  module _ (f : E → E) (same : (x : E) → key_of (f x) ≡ key_of x) where
    pub keys-map : (xs : List E) → map key_of (map f xs) ≡ map key_of xs
    keys-map [] = refl
    keys-map (x ∷ xs) = λ z. same x z ∷ keys-map xs z

    pub ascending-map : (xs : List E) → Ascending key_of xs → Ascending key_of (map f xs)
    ascending-map xs a = rw (keys-map xs) a
