-- A contract that is an equation leaves one answer: two answers that meet it are equal, by way of the definition.
-- This is the law of every exported call, whose contracts are equations of answer, state and store.
use mathlib.Core.Path.{◌≡◌, sym, ◌∙◌}

pub one_answer : {A : Type 0} {definition r s : A} → r ≡ definition → s ≡ definition → r ≡ s
one_answer p q = p ∙ sym q
