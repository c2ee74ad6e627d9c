-- A call's answer as numbers: refused with a refusal's number, answered with values, or no call at all.
-- Document 01, "How each place should look": "a definition gives this paper's number and values for each of its cases".
-- Assumes nothing.
use Rattle.std.specs.Prelude.{ℕ, ◌+◌, Bool, true, false, cond, List, [], ◌∷◌, ltb, set, replicate}
use Rattle.types.specs.declared.Refusal.{Refusal}
use Rattle.types.specs.Refusal.{refusal_number}
use Rattle.numbers.specs.declared.Numbers.{Numbers}
use Rattle.numbers.specs.declared.Answer.{Answer}

-- what is said of a call
pub data Said : Type 0 where
  refused : ℕ → Said
  ok : List ℕ → Said
  bad : Said

abbrev pub refused_by : Refusal → Said
refused_by why = refused (refusal_number why)

-- a bool is 0 or 1
abbrev pub flag_number : Bool → ℕ
flag_number true = 1
flag_number false = 0

-- no number
abbrev pub empty : Numbers
empty = record { count = 0; values = replicate 256 0 }

-- one more number; there are 256 places, and what comes after them is left out
unfoldable pub pushed : Numbers → ℕ → Numbers
pushed n x = cond (ltb n.count 256) (record { count = n.count + 1; values = set n.values n.count x }) n

-- more numbers, in their order
abbrev pub pushed_all : Numbers → List ℕ → Numbers
pushed_all n [] = n
pushed_all n (x ∷ xs) = pushed_all (pushed n x) xs

-- what is said, as a kind (0 answered, 1 refused, 2 no call) and its numbers
abbrev pub spoken : Said → Answer
spoken (ok xs) = record { kind = 0; numbers = pushed_all empty xs }
spoken (refused n) = record { kind = 1; numbers = pushed empty n }
spoken bad = record { kind = 2; numbers = empty }
