-- What each step leaves of rows that fit a table fits it too, since it keeps the order and needs no more places;
-- and a filter that drops no row leaves them as they are.
use Rattle.std.specs.Prelude.{Some}
use Prim.Native.Nat.{ℕ, ◌≤◌}
use native.Mathlib.Omega.{arith}
use mathlib.Core.Bool.{Bool, true, false, cond}
use mathlib.Core.List.{List, [], ◌∷◌, map}
use mathlib.Core.Path.{◌≡◌, refl}
use lib.ListN.{length, length-map}
use Rattle.standard.specs.Ordered.{lookup, put, count_with, remove, keep}
use Rattle.flat_map.specs.Table.{Fit}
use Rattle.flat_map.proofs.Ordered.{ascending-put, length-put, count-with-found, ascending-remove, length-remove, ascending-keep, length-keep, ascending-map}
use Rattle.flat_map.proofs.Rows.{cons}

module _ {E : Type 0} (cap : ℕ) (key_of : E → ℕ) (blank : E) (xs : List E) (h : Fit cap key_of blank xs) where
  pub fit-put : (e : E) → count_with key_of (key_of e) xs ≤ cap → Fit cap key_of blank (put key_of e xs)
  fit-put e room = record {
    small = omega (arith, length-put key_of e xs h.ascending);
    ascending = ascending-put key_of e xs h.ascending;
  }

  -- a row over one that is there wants no room
  pub room-known : (k : ℕ) (d : E) → lookup key_of k xs ≡ Some d → count_with key_of k xs ≤ cap
  room-known k d e = omega (arith, count-with-found key_of k d xs e, h.small)

  pub fit-remove : (k : ℕ) → Fit cap key_of blank (remove key_of k xs)
  fit-remove k = record { small = omega (arith, length-remove key_of k xs, h.small); ascending = ascending-remove key_of k xs h.ascending }

  pub fit-keep : (p : E → Bool) → Fit cap key_of blank (keep p xs)
  fit-keep p = record { small = omega (arith, length-keep key_of p xs, h.small); ascending = ascending-keep key_of p xs h.ascending }

  pub fit-map : (f : E → E) → ((x : E) → key_of (f x) ≡ key_of x) → Fit cap key_of blank (map f xs)
  fit-map f same = record { small = omega (arith, length-map xs f, h.small); ascending = ascending-map key_of f same xs h.ascending }

module _ {E : Type 0} (p : E → Bool) where
  -- every row passes
  pub keep-every : ((x : E) → p x ≡ true) → (xs : List E) → keep p xs ≡ xs
  keep-every all [] = refl
  keep-every all (x ∷ xs) = rw (all x) (cons x (keep-every all xs))

  -- as many are left as there were
  pub keep-whole : (xs : List E) → length (keep p xs) ≡ length xs → keep p xs ≡ xs
  keep-whole [] n = refl
  keep-whole (x ∷ xs) n = go (p x) (λ m. keep-whole xs m) n where
    go : (b : Bool) → (length (keep p xs) ≡ length xs → keep p xs ≡ xs) → length (cond b (x ∷ keep p xs) (keep p xs)) ≡ length (x ∷ xs)
        → cond b (x ∷ keep p xs) (keep p xs) ≡ x ∷ xs
    go true ih m = cons x (ih (omega arith))
    go false ih m = absurd (omega (arith, length-keep (λ (y : E). 0) p xs))
