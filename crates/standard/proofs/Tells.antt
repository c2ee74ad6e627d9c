-- A right answer to a question is found by showing the fact or refuting it, and there is only one,
-- since each of two right answers is true wherever the other is.
use Prim.Native.Nat.{ℕ, ◌≤◌, ◌<◌}
use mathlib.Core.Path.{◌≡◌, refl, sym, ◌∙◌}
use mathlib.Core.Bool.{Bool, true, false, not, ◌&&◌, ◌||◌, false≢true, true≢false}
use borrow.Author.Tests.{ltb-true, leb-true, eqb-true, lt-ltb, le-leb, eq-eqb}
use lib.Dec.{leb, ltb, eqb}
use Rattle.standard.specs.Tells.{Tells}

-- the fact holds: the answer is yes
pub yes-so : {P : Type 0} → P → Tells P true
yes-so p = record { fact = λ _. p; flag = λ _. refl }

-- the fact fails: the answer is no
pub not_so : {P : Type 0} → (P → ⊥) → Tells P false
not_so refuted = record { fact = λ e. absurd (false≢true e); flag = λ p. absurd (refuted p) }

-- where the answer is no, the fact fails
pub denied : {P : Type 0} {answer : Bool} → Tells P answer → answer ≡ false → P → ⊥
denied t e p = false≢true (sym e ∙ t.flag p)

-- two bools, each true where the other is
alike : (a b : Bool) → (a ≡ true → b ≡ true) → (b ≡ true → a ≡ true) → a ≡ b
alike true b there back = sym (there refl)
alike false true there back = back refl
alike false false there back = refl

-- two right answers to one question are equal
pub tells-one : {P : Type 0} {a b : Bool} → Tells P a → Tells P b → a ≡ b
tells-one {a = a} {b = b} s t = alike a b (λ e. t.flag (s.fact e)) (λ e. s.flag (t.fact e))

-- a test of numbers tells what it tests
pub tells-le : (m n : ℕ) → Tells (m ≤ n) (leb m n)
tells-le m n = record { fact = leb-true m n; flag = le-leb m n }

pub tells-lt : (m n : ℕ) → Tells (m < n) (ltb m n)
tells-lt m n = record { fact = ltb-true m n; flag = lt-ltb m n }

pub tells-eq : (m n : ℕ) → Tells (m ≡ n) (eqb m n)
tells-eq m n = record { fact = eqb-true m n; flag = eq-eqb m n }

-- two questions asked together
pub tells_both : {P Q : Type 0} {a b : Bool} → Tells P a → Tells Q b → Tells (P × Q) (a && b)
tells_both {a = true} {b = true} s t = yes-so (s.fact refl, t.fact refl)
tells_both {a = true} {b = false} s t = not_so (λ p. denied t refl p.1)
tells_both {a = false} s t = not_so (λ p. denied s refl p.0)

-- a question that is asked only where the first fact holds
pub tells-where : {P Q : Type 0} {a b : Bool} → Tells P a → Tells Q b → Tells (P → Q) (not a || b)
tells-where {a = true} {b = true} s t = yes-so (λ _. t.fact refl)
tells-where {a = true} {b = false} s t = not_so (λ f. denied t refl (f (s.fact refl)))
tells-where {a = false} s t = yes-so (λ p. absurd (denied s refl p))

-- the same fact in other words
pub tells-so : {P Q : Type 0} {a : Bool} → (P → Q) → (Q → P) → Tells P a → Tells Q a
tells-so there back t = record { fact = λ e. there (t.fact e); flag = λ q. t.flag (back q) }

-- an answer tells that it is yes
pub tells-true : (a : Bool) → Tells (a ≡ true) a
tells-true a = record { fact = λ e. e; flag = λ e. e }

-- and its opposite that it is no
pub tells-false : (a : Bool) → Tells (a ≡ false) (not a)
tells-false true = not_so (λ e. true≢false e)
tells-false false = yes-so refl
