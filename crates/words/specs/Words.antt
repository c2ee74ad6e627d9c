-- The number of a word: the place of its line in the table, and where the shape of its numbers begins.
-- The page of the language: "`bad` for a line that is no call (unknown word, a missing or extra or too large number)".
-- Assumes nothing.
use Rattle.std.specs.Prelude.{ℕ, ◌+◌, Bool, true, cond, List, [], ◌∷◌, eqb, ltb, drop, Option, Some, None}
use Rattle.words.specs.Shape.{fits_shape}
use Rattle.words.specs.Table.{table}

-- a text that stands at a place: the place after a word and a space, or 0 where it begins with no such
unfoldable pub past : List ℕ → ℕ → List ℕ → ℕ
past [] at [] = 0
past [] at (b ∷ bs) = cond (eqb b 32) (at + 1) 0
past (w ∷ ws) at [] = 0
past (w ∷ ws) at (b ∷ bs) = cond (eqb b w) (past ws (at + 1) bs) 0

-- a word stands at the start of a line only
unfoldable pub tried : Bool → List ℕ → ℕ → List ℕ → ℕ
tried is_start word at text = cond is_start (past word at text) 0

-- lines passed: one more after a line feed
abbrev pub counted : ℕ → Bool → ℕ
counted n is_end = cond is_end (n + 1) n

-- the first line from here on that has the word, where n lines are passed
unfoldable pub seek : List ℕ → ℕ → Bool → ℕ → List ℕ → Option (ℕ × ℕ)
seek word n is_start at [] = None
seek word n is_start at (b ∷ bs) =
    cond (ltb 0 (tried is_start word at (b ∷ bs)))
    (Some (n, tried is_start word at (b ∷ bs)))
    (seek word (counted n (eqb b 10)) (eqb b 10) (at + 1) bs)

-- a word's line in the table
abbrev pub word_number : List ℕ → Option (ℕ × ℕ)
word_number word = seek word 0 true 0 table

-- a word with numbers: the call's number, or bad for a word that is none and for numbers of another shape
abbrev pub called_at : List ℕ → List ℕ → Option (ℕ × ℕ) → Option ℕ
called_at text args (Some (n, at)) = cond (fits_shape (drop at text) args) (Some n) None
called_at text args None = None

unfoldable pub called_in : List ℕ → List ℕ → List ℕ → Option ℕ
called_in text word args = called_at text args (seek word 0 true 0 text)

abbrev pub called : List ℕ → List ℕ → Option ℕ
called word args = called_in table word args
