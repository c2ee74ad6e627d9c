-- One line of a script, read byte by byte.
-- The page of the language: "one call to a line: a word and decimal numbers, one space apart. Empty lines and lines that begin with `#`
-- are passed over." What the page leaves open is chosen as docs/ORACLE.md says.
-- Assumes nothing.
use Rattle.std.specs.Prelude.{ℕ, suc, ◌+◌, ◌-◌, ◌*◌, Bool, cond, ◌&&◌, ◌||◌, eqb, leb, ltb, get_or, set}
use mathlib.Core.List.{List, [], ◌∷◌, replicate}
use Rattle.script.specs.declared.Scan.{Scan}
use Rattle.script.specs.declared.Line.{Line}
use Rattle.script.specs.declared.Line.TheVariants.{Passed, Call, Bad}

-- where a reader stands: before the line's first byte, in its word, after a space, in a number, in a comment, in a line that is no call
abbrev pub fresh : ℕ
fresh = 0

abbrev pub in_word : ℕ
in_word = 1

abbrev pub after_space : ℕ
after_space = 2

abbrev pub in_number : ℕ
in_number = 3

abbrev pub in_comment : ℕ
in_comment = 4

abbrev pub is_bad : ℕ
is_bad = 5

-- nothing read
abbrev pub blank : Scan
blank = record { mode = fresh; length = 0; word = replicate 40 0; count = 0; values = replicate 256 0 }

abbrev pub is_digit : ℕ → Bool
is_digit b = leb 48 b && leb b 57

-- a byte that a word may have: a small letter, a digit or `_`
abbrev pub is_letter : ℕ → Bool
is_letter b = (leb 97 b && leb b 122) || (is_digit b || eqb b 95)

-- what is read, at another place of the line
abbrev pub turned : ℕ → Scan → Scan
turned m s = record { mode = m; length = s.length; word = s.word; count = s.count; values = s.values }

-- one byte more of the word, which has at most 40
unfoldable pub spelt : Scan → ℕ → Scan
spelt s b =
    cond (ltb s.length 40)
    (record { mode = in_word; length = s.length + 1; word = set s.word s.length b; count = s.count; values = s.values })
    (turned is_bad s)

-- the first digit of one number more, of which there are at most 256
unfoldable pub opened : Scan → ℕ → Scan
opened s d =
    cond (ltb s.count 256)
    (record { mode = in_number; length = s.length; word = s.word; count = s.count + 1; values = set s.values s.count d })
    (turned is_bad s)

-- a number with one digit more: ten times what it was, and the digit
abbrev pub tenfold : Scan → ℕ → ℕ
tenfold s d = get_or s.values (s.count - 1) 0 * 10 + d

-- one digit more of the last number, which is at most 2^64 - 1
unfoldable pub grown : Scan → ℕ → Scan
grown s d =
    cond (ltb (s.count - 1) 256 && leb (tenfold s d) 18446744073709551615)
    (record { mode = s.mode; length = s.length; word = s.word; count = s.count; values = set s.values (s.count - 1) (tenfold s d) })
    (turned is_bad s)

-- a byte at each place of the line: `#` is 35 and a space 32
unfoldable pub first : Scan → ℕ → Scan
first s b = cond (eqb b 35) (turned in_comment s) (cond (is_letter b) (spelt s b) (turned is_bad s))

unfoldable pub letter : Scan → ℕ → Scan
letter s b = cond (eqb b 32) (turned after_space s) (cond (is_letter b) (spelt s b) (turned is_bad s))

unfoldable pub start : Scan → ℕ → Scan
start s b = cond (is_digit b) (opened s (b - 48)) (turned is_bad s)

unfoldable pub digit : Scan → ℕ → Scan
digit s b = cond (eqb b 32) (turned after_space s) (cond (is_digit b) (grown s (b - 48)) (turned is_bad s))

-- one byte of a line: a comment and a bad line take any
unfoldable pub step : Scan → ℕ → Scan
step s b =
    cond (eqb s.mode fresh) (first s b)
    (cond (eqb s.mode in_word) (letter s b)
    (cond (eqb s.mode after_space) (start s b)
    (cond (eqb s.mode in_number) (digit s b) s)))

-- bytes of a line, one after the other
unfoldable pub fed : Scan → List ℕ → Scan
fed s [] = s
fed s (b ∷ bs) = fed (step s b) bs

-- what a line is, once its last byte is read
abbrev pub line_of : Scan → Line
line_of s =
    cond (eqb s.mode fresh || eqb s.mode in_comment) Passed
    (cond (eqb s.mode in_word || eqb s.mode in_number) Call Bad)

-- how many bytes stand before the first line feed, or before the end
unfoldable pub until_feed : List ℕ → ℕ
until_feed [] = 0
until_feed (b ∷ bs) = cond (eqb b 10) 0 (suc (until_feed bs))
