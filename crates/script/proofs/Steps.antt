-- Bytes fed in parts are the bytes fed at once; one turn of each loop; and when one digit more fits.
-- Inductions over the bytes, and the tests' cases.
-- Assumes nothing.
use Prim.Native.Nat.{ℕ, ◌+◌, ◌-◌, ◌<◌, ◌≤◌}
use mathlib.Core.Bool.{Bool, true, false, ◌&&◌}
use mathlib.Core.List.{List, [], ◌∷◌, ◌++◌}
use mathlib.Core.Logic.{⊎_elim}
use mathlib.Core.Path.{◌≡◌, refl, sym, ◌∙◌}
use lib.Dec.{leb, ltb}
use lib.ListN.{length, drop, get_or, set, drop_of_length-le}
use lib.Seq.{drop-cons}
use native.Mathlib.Numerals.{add-one}
use native.Mathlib.Omega.{arith}
use borrow.Author.Tests.{eq-eqb, ne_eqb, le-leb, lt-leb, leb-true, lt-ltb, le-ltb}
use Rattle.flat_map.proofs.Compare.{below_or_not}
use Rattle.flat_map.proofs.Every.{left_so}
use Rattle.script.specs.declared.Scan.{Scan}
use Rattle.script.specs.Reading.{is_digit, is_bad, turned, tenfold, grown, step, fed, until_feed}

-- a line may come in parts of any size
pub fed-parts : (s : Scan) (a b : List ℕ) → fed s (a ++ b) ≡ fed (fed s a) b
unfolding fed
fed-parts s [] b = refl
fed-parts s (x ∷ a) b = fed-parts (step s x) a b

pub fed-next : (s : Scan) (bs : List ℕ) (i : ℕ) → i < length bs → fed (step s (get_or bs i 0)) (drop (i + 1) bs) ≡ fed s (drop i bs)
unfolding fed
fed-next s bs i h = rw (add-one, drop-cons bs i 0)

pub fed-end : (s : Scan) (bs : List ℕ) (i : ℕ) → length bs ≤ i → fed s (drop i bs) ≡ s
unfolding fed
fed-end s bs i h = rw (drop_of_length-le bs {i = i} h)

pub feed-here : (bs : List ℕ) (i : ℕ) → i < length bs → get_or bs i 0 ≡ 10 → until_feed (drop i bs) ≡ 0
unfolding until_feed
feed-here bs i h e = rw (drop-cons bs i 0, eq-eqb _ _ e)

pub feed-next : (bs : List ℕ) (i : ℕ) → i < length bs → (get_or bs i 0 ≡ 10 → ⊥) → i + until_feed (drop i bs) ≡ i + 1 + until_feed (drop (i + 1) bs)
unfolding until_feed
feed-next bs i h n = rw (add-one, drop-cons bs i 0, ne_eqb _ _ n) (omega arith)

pub feed-end : (bs : List ℕ) (i : ℕ) → length bs ≤ i → until_feed (drop i bs) ≡ 0
unfolding until_feed
feed-end bs i h = rw (drop_of_length-le bs {i = i} h)

-- a sum is at most m where its second part is at most what the first leaves
pub room : (x d m : ℕ) → x ≤ m → leb d (m - x) ≡ leb (x + d) m
room x d m h =
    ⊎_elim
    (λ l. lt-leb d (m - x) l ∙ sym (lt-leb (x + d) m (omega arith)))
    (λ g. le-leb d (m - x) g ∙ sym (le-leb (x + d) m (omega arith)))
    (below_or_not (m - x) d)

pub digit_low : (b : ℕ) → is_digit b ≡ true → 48 ≤ b
digit_low b e = leb-true 48 b (left_so _ (leb b 57) e)

never : (a : Bool) → a && false ≡ false
never true = refl
never false = refl

-- a number grows where it has its place and room for the digit
module _ (s : Scan) (d : ℕ) where
  pub no_place : 256 ≤ s.count - 1 → grown s d ≡ turned is_bad s
  unfolding grown
  no_place h = rw (le-ltb _ _ h)

  pub no_room : leb (tenfold s d) 18446744073709551615 ≡ false → grown s d ≡ turned is_bad s
  unfolding grown
  no_room h = rw (h, never (ltb (s.count - 1) 256))

  pub grows :
      s.count - 1 < 256 → leb (tenfold s d) 18446744073709551615 ≡ true
      → grown s d ≡ record { mode = s.mode; length = s.length; word = s.word; count = s.count; values = set s.values (s.count - 1) (tenfold s d) }
  unfolding grown
  grows h e = rw (lt-ltb _ _ h, e)
