-- A mode takes at most 82 numbers. Each kind by itself.
use Prim.Native.Nat.{ℕ, zero, suc, ◌+◌, ◌≤◌, min}
use mathlib.Core.List.{List}
use native.Mathlib.Omega.{arith}
use lib.ListN.{get_or}
use Rattle.numbers.specs.Read.{number_at}
use Rattle.decision_lines.specs.Arguments.{lengths, past_mode}

at-most-82 : (c k : ℕ) → c ≤ 80 → get_or (lengths c) k 0 ≤ 82
at-most-82 c zero h = omega arith
at-most-82 c (suc zero) h = omega arith
at-most-82 c (suc (suc zero)) h = omega arith
at-most-82 c (suc (suc (suc zero))) h = omega arith
at-most-82 c (suc (suc (suc (suc zero)))) h = omega arith
at-most-82 c (suc (suc (suc (suc (suc zero))))) h = omega arith
at-most-82 c (suc (suc (suc (suc (suc (suc k)))))) h = omega arith

pub mode-near : (args : List ℕ) (i : ℕ) → past_mode args i ≤ i + 82
unfolding past_mode
mode-near args i = omega (arith, at-most-82 (min (number_at args (i + 1)) 80) (min (number_at args i) 5) (omega arith))

pub length-near : (n c : ℕ) → c ≤ 80 → get_or (lengths c) (min n 5) 0 ≤ 82
length-near n c h = at-most-82 c (min n 5) h
