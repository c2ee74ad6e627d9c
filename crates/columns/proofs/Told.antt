-- The computed test of columns tells exactly whether they are in order and their numbers below a bound.
use Prim.Native.Nat.{ℕ, zero, suc, ◌+◌, ◌<◌, ◌≤◌}
use native.Mathlib.Omega.{arith}
use mathlib.Core.List.{List, [], ◌∷◌}
use mathlib.Core.Path.{◌≡◌, sym}
use lib.Dec.{eqb}
use lib.ListN.{length, take}
use lib.Seq.{length-take-le, get_or-take}
use Rattle.standard.specs.Ordered.{Asc}
use Rattle.standard.specs.Tells.{Tells}
use Rattle.standard.proofs.Tells.{yes-so, tells_both, tells-eq, tells-le, tells-lt, tells-so}
use Rattle.flat_map.specs.Table.{Rising}
use Rattle.flat_map.proofs.Order.{rising-asc, asc-rising, asc-told}
use Rattle.flat_map.proofs.Told.{every-told}
use Rattle.columns.specs.Columns.{Long, ZerosFrom, Under, Ordered, are_long, are_zero, are_under, ordered}

long-told : (n : ℕ) (cs : List (List ℕ)) → Tells (Long n cs) (are_long n cs)
long-told n [] = yes-so tt
long-told n (c ∷ cs) = tells_both (tells-eq (length c) n) (long-told n cs)

zeros-told : (m : ℕ) (cs : List (List ℕ)) → Tells (ZerosFrom m cs) (are_zero m cs)
zeros-told m [] = yes-so tt
zeros-told m (c ∷ cs) = tells_both (every-told 0 (eqb 0) (λ x. tells-so sym sym (tells-eq 0 x)) c m) (zeros-told m cs)

pub under-told : (m : ℕ) → 0 < m → (xs : List ℕ) → Tells (Under m xs) (are_under m xs)
under-told m h [] = yes-so (λ i. h)
under-told m h (x ∷ xs) = tells-so all parts (tells_both (tells-lt x m) (under-told m h xs)) where
  all : (x < m) × Under m xs → Under m (x ∷ xs)
  all p zero = p.0
  all p (suc i) = p.1 i

  parts : Under m (x ∷ xs) → (x < m) × Under m xs
  parts u = (u zero, λ i. u (suc i))

module _ (cap : ℕ) (keys : List ℕ) (others : List (List ℕ)) (n : ℕ) where
  abbrev Tested : Type 0
  Tested = Long cap (keys ∷ others) × ((n ≤ cap) × (Asc (take n keys) × ZerosFrom n (keys ∷ others)))

  there : Tested → Ordered cap keys others n
  there (l, (small, (asc, zeros))) = record { long = l; small = small; rising = up; zeros = zeros } where
    many : length (take n keys) ≡ n
    many = length-take-le n keys (omega (arith, l.0, small))

    up : Rising keys n
    up i h =
        rw (get_or-take n keys i 0 (omega arith), get_or-take n keys (i + 1) 0 h)
        at (asc-rising (take n keys) asc i (omega (arith, many)))

  back : Ordered cap keys others n → Tested
  back o = (o.long, (o.small, (asc, o.zeros))) where
    many : length (take n keys) ≡ n
    many = length-take-le n keys (omega (arith, o.long.0, o.small))

    asc : Asc (take n keys)
    asc = rising-asc (take n keys)
        (λ i h. rw (get_or-take n keys i 0 (omega (arith, many)), get_or-take n keys (i + 1) 0 (omega (arith, many))) (o.rising i (omega (arith, many))))

  pub ordered-told : Tells (Ordered cap keys others n) (ordered cap keys others n)
  unfolding ordered
  ordered-told = tells-so there back (tells_both (long-told cap (keys ∷ others)) (tells_both (tells-le n cap) (tells_both (asc-told (take n keys)) (zeros-told n (keys ∷ others)))))
