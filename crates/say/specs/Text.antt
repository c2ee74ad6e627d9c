-- Answers as text. The page of the language: "`ok` and the answer's values one space apart; `refuse N`; or `bad`", and `tables` prints
-- the state as `put_` lines.
-- Assumes nothing.
use Rattle.std.specs.Prelude.{ℕ, zero, suc, ◌+◌, ◌/◌, ◌%◌, cond, List, [], ◌∷◌, ◌++◌, eqb, ltb, take, drop, get_or}
use Rattle.numbers.specs.declared.Numbers.{Numbers}
use Rattle.numbers.specs.declared.Answer.{Answer}
use Rattle.words.specs.Text.{bytes}

-- the decimal digits of a number below 10^k, with no zero before the first
unfoldable pub digits : ℕ → ℕ → List ℕ
digits zero n = []
digits (suc k) n = cond (ltb n 10) ((48 + n) ∷ []) (digits k (n / 10) ++ ((48 + n % 10) ∷ []))

-- 2^64 - 1 has 20 digits
abbrev pub decimal : ℕ → List ℕ
decimal n = digits 20 n

-- each number after a space
unfoldable pub spaced : List ℕ → List ℕ
spaced [] = []
spaced (x ∷ xs) = 32 ∷ (decimal x ++ spaced xs)

-- a line: a word, numbers, and a line feed
unfoldable pub line : List ℕ → List ℕ → List ℕ
line word xs = word ++ (spaced xs ++ (10 ∷ []))

-- the numbers of an answer from one place on
abbrev pub numbers_from : ℕ → Numbers → List ℕ
numbers_from from n = drop from (take n.count n.values)

-- the line of an answer: kind 0 is answered, 1 refused, any other no call
unfoldable pub answer_line : Answer → List ℕ
answer_line a =
    cond (eqb a.kind 0) (line (bytes "ok") (numbers_from 0 a.numbers))
    (cond (eqb a.kind 1) (line (bytes "refuse") (numbers_from 0 a.numbers))
    (line (bytes "bad") []))

-- the word that puts an entry of a table, by its number in the table of words
unfoldable pub put_word : ℕ → List ℕ
put_word n =
    cond (eqb n 3) (bytes "put_counters")
    (cond (eqb n 4) (bytes "put_route")
    (cond (eqb n 5) (bytes "put_discovery")
    (cond (eqb n 6) (bytes "put_record")
    (cond (eqb n 7) (bytes "put_neighbour") (bytes "put_waiting")))))

-- a line of a printed state: the first number is the word's
unfoldable pub table_line : Numbers → List ℕ
table_line n = line (put_word (get_or n.values 0 0)) (numbers_from 1 n)

abbrev pub end_line : List ℕ
end_line = line (bytes "end") []
