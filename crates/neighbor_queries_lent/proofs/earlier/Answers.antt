-- The lesser of the two, case by case.
use Rattle.std.specs.Prelude.{Option, Some, ℕ}
use mathlib.Core.Path.{sym, ap, ◌∙◌}
use native.Mathlib.Omega.{arith}
use Rattle.standard.specs.Rows.{lesser}
use Rattle.neighbor_queries_lent.proofs.earlier.Goals as goal

pub returns-in-None : goal.returns-in-None
returns-in-None c = ap (λ (m : Option ℕ). (lesser (m) (Some c.args.at))) (sym c.in-None.is)

pub returns-then-first-at : goal.returns-then-first-at
returns-then-first-at c = ap Some (omega arith) ∙ ap (λ (m : Option ℕ). (lesser (m) (Some c.args.at))) (sym c.in-Some.is)

pub returns-else-first-at : goal.returns-else-first-at
returns-else-first-at c = ap Some (omega arith) ∙ ap (λ (m : Option ℕ). (lesser (m) (Some c.args.at))) (sym c.in-Some.is)
