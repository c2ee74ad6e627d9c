-- Worked lines, each computed; and what no byte changes: a comment and a bad line.
-- Assumes nothing.
use Prim.Native.Nat.{ℕ}
use mathlib.Core.List.{List, [], ◌∷◌}
use mathlib.Core.Path.{◌≡◌, refl}
use lib.ListN.{take}
use Rattle.script.specs.declared.Scan.{Scan}
use Rattle.script.specs.declared.Line.{Line}
use Rattle.script.specs.declared.Line.TheVariants.{Passed, Call, Bad}
use Rattle.script.specs.Reading.{blank, in_comment, is_bad, spelt, opened, grown, first, letter, start, digit, step, fed, line_of}

-- what a line is, and its word and its numbers
abbrev of : List ℕ → Line
of bytes = line_of (fed blank bytes)

abbrev word_of : List ℕ → List ℕ
word_of bytes = take (fed blank bytes).length (fed blank bytes).word

abbrev numbers_of : List ℕ → List ℕ
numbers_of bytes = take (fed blank bytes).count (fed blank bytes).values

-- no byte changes a comment or a bad line
stays : (m : ℕ) → ((s : Scan) (b : ℕ) → s.mode ≡ m → step s b ≡ s) → (s : Scan) (bs : List ℕ) → s.mode ≡ m → fed s bs ≡ s
unfolding fed
stays m f s [] e = refl
stays m f s (b ∷ bs) e = rw (f s b e) (stays m f s bs e)

pub comment-stays : (s : Scan) (bs : List ℕ) → s.mode ≡ in_comment → fed s bs ≡ s
unfolding step
comment-stays = stays in_comment (λ s b e. rw e)

pub bad-stays : (s : Scan) (bs : List ℕ) → s.mode ≡ is_bad → fed s bs ≡ s
unfolding step
bad-stays = stays is_bad (λ s b e. rw e)

-- an empty line
pub empty : of [] ≡ Passed
unfolding spelt opened grown first letter start digit step fed
empty = refl

-- `# a\r`
pub comment : of (35 ∷ 32 ∷ 97 ∷ 13 ∷ []) ≡ Passed
unfolding spelt opened grown first letter start digit step fed
comment = refl

-- `check`
pub word-alone : of (99 ∷ 104 ∷ 101 ∷ 99 ∷ 107 ∷ []) ≡ Call
unfolding spelt opened grown first letter start digit step fed
word-alone = refl

-- `lqa 007`
pub zeros-lead : of (108 ∷ 113 ∷ 97 ∷ 32 ∷ 48 ∷ 48 ∷ 55 ∷ []) ≡ Call
unfolding spelt opened grown first letter start digit step fed
zeros-lead = refl

-- `lqa 7 `
pub last-space : of (108 ∷ 113 ∷ 97 ∷ 32 ∷ 55 ∷ 32 ∷ []) ≡ Bad
unfolding spelt opened grown first letter start digit step fed
last-space = refl

-- ` lqa 7`
pub first-space : of (32 ∷ 108 ∷ 113 ∷ 97 ∷ 32 ∷ 55 ∷ []) ≡ Bad
unfolding spelt opened grown first letter start digit step fed
first-space = refl

-- `lqa  7`
pub two-spaces : of (108 ∷ 113 ∷ 97 ∷ 32 ∷ 32 ∷ 55 ∷ []) ≡ Bad
unfolding spelt opened grown first letter start digit step fed
two-spaces = refl

-- `lqa 7\r`
pub carriage-return : of (108 ∷ 113 ∷ 97 ∷ 32 ∷ 55 ∷ 13 ∷ []) ≡ Bad
unfolding spelt opened grown first letter start digit step fed
carriage-return = refl

-- `lqa -1`
pub signed : of (108 ∷ 113 ∷ 97 ∷ 32 ∷ 45 ∷ 49 ∷ []) ≡ Bad
unfolding spelt opened grown first letter start digit step fed
signed = refl

-- `lqa 18446744073709551615`
pub largest : of (108 ∷ 113 ∷ 97 ∷ 32 ∷ 49 ∷ 56 ∷ 52 ∷ 52 ∷ 54 ∷ 55 ∷ 52 ∷ 52 ∷ 48 ∷ 55 ∷ 51 ∷ 55 ∷ 48 ∷ 57 ∷ 53 ∷ 53 ∷ 49 ∷ 54 ∷ 49 ∷ 53 ∷ []) ≡ Call
unfolding spelt opened grown first letter start digit step fed
largest = refl

-- `lqa 18446744073709551616`
pub too_large : of (108 ∷ 113 ∷ 97 ∷ 32 ∷ 49 ∷ 56 ∷ 52 ∷ 52 ∷ 54 ∷ 55 ∷ 52 ∷ 52 ∷ 48 ∷ 55 ∷ 51 ∷ 55 ∷ 48 ∷ 57 ∷ 53 ∷ 53 ∷ 49 ∷ 54 ∷ 49 ∷ 54 ∷ []) ≡ Bad
unfolding spelt opened grown first letter start digit step fed
too_large = refl

-- the word and the numbers of `link 00065535 2`
pub taken-apart : (word_of (108 ∷ 105 ∷ 110 ∷ 107 ∷ 32 ∷ 48 ∷ 48 ∷ 48 ∷ 54 ∷ 53 ∷ 53 ∷ 51 ∷ 53 ∷ 32 ∷ 50 ∷ []) ≡ 108 ∷ 105 ∷ 110 ∷ 107 ∷ []) × (numbers_of (108 ∷ 105 ∷ 110 ∷ 107 ∷ 32 ∷ 48 ∷ 48 ∷ 48 ∷ 54 ∷ 53 ∷ 53 ∷ 51 ∷ 53 ∷ 32 ∷ 50 ∷ []) ≡ 65535 ∷ 2 ∷ [])
unfolding spelt opened grown first letter start digit step fed
taken-apart = (refl, refl)
