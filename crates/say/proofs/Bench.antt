-- Worked lines, each computed; and how long a line can be.
-- Assumes nothing.
use Prim.Native.Nat.{ℕ, zero, suc, ◌+◌, ◌*◌, ◌≤◌, ◌/◌, ◌%◌}
use mathlib.Core.Bool.{Bool, true, false, cond}
use mathlib.Core.List.{List, [], ◌∷◌, ◌++◌}
use mathlib.Core.Path.{◌≡◌, refl}
use lib.Dec.{ltb}
use lib.ListN.{length, length-append}
use native.Mathlib.Omega.{arith}
use Rattle.words.specs.Text.{bytes}
use Rattle.numbers.specs.Said.{ok, bad, refused, spoken, pushed}
use Rattle.say.specs.Text.{digits, decimal, spaced, line, answer_line, put_word, table_line}

-- a number of k digits has at most k
pub digits-few : (k n : ℕ) → length (digits k n) ≤ k
unfolding digits
digits-few zero n = omega arith
digits-few (suc k) n = go (ltb n 10) (digits-few k (n / 10))
  where
    go : (b : Bool) → length (digits k (n / 10)) ≤ k → length (cond b ((48 + n) ∷ []) (digits k (n / 10) ++ ((48 + n % 10) ∷ []))) ≤ suc k
    go true h = omega arith
    go false h = omega (arith, length-append (digits k (n / 10)) ((48 + n % 10) ∷ []))

-- a number takes at most 21 bytes, its space with it
pub spaced-few : (xs : List ℕ) → length (spaced xs) ≤ 21 * length xs
unfolding spaced
spaced-few [] = omega arith
spaced-few (x ∷ xs) = omega (arith, length-append (decimal x) (spaced xs), digits-few 20 x, spaced-few xs)

-- so a line of at most 256 numbers and a word of at most 20 bytes has at most 5,400
pub line-few : (word xs : List ℕ) → length word ≤ 20 → length xs ≤ 256 → length (line word xs) ≤ 5400
unfolding line
line-few word xs h l = omega (arith, length-append word (spaced xs ++ (10 ∷ [])), length-append (spaced xs) (10 ∷ []), spaced-few xs)

-- 2^64 - 1
pub largest : decimal 18446744073709551615 ≡ 49 ∷ 56 ∷ 52 ∷ 52 ∷ 54 ∷ 55 ∷ 52 ∷ 52 ∷ 48 ∷ 55 ∷ 51 ∷ 55 ∷ 48 ∷ 57 ∷ 53 ∷ 53 ∷ 49 ∷ 54 ∷ 49 ∷ 53 ∷ []
unfolding bytes pushed digits spaced line answer_line put_word table_line
largest = refl

-- 0
pub nought : decimal 0 ≡ 48 ∷ []
unfolding bytes pushed digits spaced line answer_line put_word table_line
nought = refl

-- 100
pub round : decimal 100 ≡ 49 ∷ 48 ∷ 48 ∷ []
unfolding bytes pushed digits spaced line answer_line put_word table_line
round = refl

-- `ok 1 65535`
pub answered : answer_line (spoken (ok (1 ∷ 65535 ∷ []))) ≡ 111 ∷ 107 ∷ 32 ∷ 49 ∷ 32 ∷ 54 ∷ 53 ∷ 53 ∷ 51 ∷ 53 ∷ 10 ∷ []
unfolding bytes pushed digits spaced line answer_line put_word table_line
answered = refl

-- `ok`
pub done : answer_line (spoken (ok [])) ≡ 111 ∷ 107 ∷ 10 ∷ []
unfolding bytes pushed digits spaced line answer_line put_word table_line
done = refl

-- `refuse 11`
pub refusal : answer_line (spoken (refused 11)) ≡ 114 ∷ 101 ∷ 102 ∷ 117 ∷ 115 ∷ 101 ∷ 32 ∷ 49 ∷ 49 ∷ 10 ∷ []
unfolding bytes pushed digits spaced line answer_line put_word table_line
refusal = refl

-- `bad`
pub no_call : answer_line (spoken bad) ≡ 98 ∷ 97 ∷ 100 ∷ 10 ∷ []
unfolding bytes pushed digits spaced line answer_line put_word table_line
no_call = refl

-- `put_counters 1 0 9`
pub counters : table_line (spoken (ok (3 ∷ 1 ∷ 0 ∷ 9 ∷ []))).numbers ≡ 112 ∷ 117 ∷ 116 ∷ 95 ∷ 99 ∷ 111 ∷ 117 ∷ 110 ∷ 116 ∷ 101 ∷ 114 ∷ 115 ∷ 32 ∷ 49 ∷ 32 ∷ 48 ∷ 32 ∷ 57 ∷ 10 ∷ []
unfolding bytes pushed digits spaced line answer_line put_word table_line
counters = refl
