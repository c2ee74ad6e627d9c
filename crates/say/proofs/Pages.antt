-- Bytes put in parts are the bytes put at once; one turn of each loop; and a number's digits one by one.
-- Inductions over the bytes, and the cases of the definitions.
-- Assumes nothing.
use Prim.Native.Nat.{ℕ, zero, suc, ◌+◌, ◌-◌, ◌/◌, ◌%◌, ◌<◌, ◌≤◌, min}
use mathlib.Core.List.{List, [], ◌∷◌, ◌++◌}
use mathlib.Core.Path.{◌≡◌, refl, sym, ap, ◌∙◌}
use lib.ListN.{length, take, drop, get_or, set, drop_of_length-le, length-take}
use lib.Seq.{drop-cons, get_or-take}
use native.Mathlib.Numerals.{add-one}
use native.Mathlib.Omega.{arith}
use borrow.Author.Tests.{lt-ltb, le-ltb}
use Rattle.say.specs.Page.{Page, page, put_byte, puts}
use Rattle.say.specs.Text.{digits, decimal, spaced, line}

pub puts-parts : (p : Page) (a b : List ℕ) → puts p (a ++ b) ≡ puts (puts p a) b
unfolding puts
puts-parts p [] b = refl
puts-parts p (x ∷ a) b = puts-parts (put_byte p x) a b

pub puts_one : (p : Page) (b : ℕ) → puts p (b ∷ []) ≡ put_byte p b
unfolding puts
puts_one p b = refl

pub placed : (text : List ℕ) (i b : ℕ) → i < length text → page (set text i b) (i + 1) ≡ put_byte (page text i) b
unfolding put_byte
placed text i b h = rw (lt-ltb i (length text) h)

pub left_out : (text : List ℕ) (i b : ℕ) → length text ≤ i → page text i ≡ put_byte (page text i) b
unfolding put_byte
left_out text i b h = rw (le-ltb i (length text) h)

pub puts-next : (p : Page) (bs : List ℕ) (i : ℕ) → i < length bs → puts (put_byte p (get_or bs i 0)) (drop (i + 1) bs) ≡ puts p (drop i bs)
unfolding puts
puts-next p bs i h = rw (add-one, drop-cons bs i 0)

pub puts-end : (p : Page) (bs : List ℕ) (i : ℕ) → length bs ≤ i → puts p (drop i bs) ≡ p
unfolding puts
puts-end p bs i h = rw (drop_of_length-le bs {i = i} h)

-- the digits of a number
module _ (p : Page) (n : ℕ) where
  pub digits-none : (k : ℕ) → k ≡ 0 → puts p (digits k n) ≡ p
  unfolding digits puts
  digits-none k e = rw e

  pub digits_last : (k : ℕ) → 0 < k → n < 10 → puts p (digits k n) ≡ put_byte p (48 + n)
  unfolding digits puts
  digits_last zero h l = absurd (omega arith)
  digits_last (suc k) h l = rw (lt-ltb n 10 l)

  pub digits_more : (k : ℕ) → 0 < k → 10 ≤ n → puts p (digits k n) ≡ put_byte (puts p (digits (k - 1) (n / 10))) (48 + n % 10)
  unfolding digits
  digits_more zero h l = absurd (omega arith)
  digits_more (suc k) h l =
      rw (le-ltb n 10 l, one_less k) (puts-parts p (digits k (n / 10)) ((48 + n % 10) ∷ []) ∙ puts_one (puts p (digits k (n / 10))) (48 + n % 10))
    where
      one_less : (m : ℕ) → suc m - 1 ≡ m
      one_less m = omega arith

-- a space and a number
pub number_put : (p : Page) (n : ℕ) → puts (put_byte p 32) (decimal n) ≡ puts p (32 ∷ decimal n)
unfolding puts
number_put p n = refl

-- the numbers from one place to another
module _ (p : Page) (xs : List ℕ) (i end : ℕ) where
  pub numbers-end : min end (length xs) ≤ i → puts p (spaced (drop i (take end xs))) ≡ p
  unfolding spaced puts
  numbers-end h = rw (drop_of_length-le (take end xs) {i = i} (omega (arith, length-take end xs)))

  pub numbers-next : i < end → i < length xs → puts (puts p (32 ∷ decimal (get_or xs i 0))) (spaced (drop (i + 1) (take end xs))) ≡ puts p (spaced (drop i (take end xs)))
  unfolding spaced
  numbers-next h l = step (drop i (take end xs)) (drop (i + 1) (take end xs)) (get_or xs i 0) here
    where
      here : drop i (take end xs) ≡ get_or xs i 0 ∷ drop (i + 1) (take end xs)
      here =
          drop-cons (take end xs) i 0 (omega (arith, length-take end xs))
          ∙ (ap (λ (x : ℕ). x ∷ drop (suc i) (take end xs)) (get_or-take end xs i 0 h) ∙ ap (λ (m : ℕ). get_or xs i 0 ∷ drop m (take end xs)) (sym (add-one i)))

      step : (t bs : List ℕ) (b : ℕ) → t ≡ b ∷ bs → puts (puts p (32 ∷ decimal b)) (spaced bs) ≡ puts p (spaced t)
      step t bs b e = rw e (sym (puts-parts p (32 ∷ decimal b) (spaced bs)))

-- a line
pub line-put : (p : Page) (word xs : List ℕ) → put_byte (puts (puts p word) (spaced xs)) 10 ≡ puts p (line word xs)
unfolding line
line-put p word xs =
    sym
    (puts-parts p word (spaced xs ++ (10 ∷ []))
    ∙ (puts-parts (puts p word) (spaced xs) (10 ∷ []) ∙ puts_one (puts (puts p word) (spaced xs)) 10))
