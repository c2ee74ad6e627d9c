-- Values that were put one after another, judged by an answer, are what is said of it. Case by case of the answer.
use Rattle.std.specs.Prelude.{Result, Ok, Err}
use Prim.Native.Nat.{ℕ}
use mathlib.Core.List.{List}
use mathlib.Core.Path.{◌≡◌, refl}
use Rattle.numbers.specs.Said.{empty, pushed_all, spoken}
use Rattle.neighbor_answers.specs.Answers.{said_of, told_by}
use Rattle.types.specs.declared.Refusal.{Refusal}

pub told-said : (a : Result Unit Refusal) (xs : List ℕ) → told_by a (pushed_all empty xs) ≡ spoken (said_of a xs)
told-said (Ok tt) xs = refl
told-said (Err why) xs = refl
