-- Case by case.
use Rattle.std.specs.Prelude.{Result, Bool}
use Prim.Native.Nat.{ℕ}
use mathlib.Core.List.{◌∷◌}
use mathlib.Core.Path.{sym, ap, ◌∙◌}
use Rattle.next_hop.specs.Numbers.{truth_said}
use Rattle.frame.specs.Numbers.{header_numbers}
use Rattle.numbers.specs.Said.{ok, spoken}
use Rattle.decision_lines.proofs.arguments.clear_answer.Goals as goal
use Rattle.types.specs.declared.Refusal.{Refusal}

pub returns-in-Ok : goal.returns-in-Ok
returns-in-Ok c = c.with_header.ensures ∙ ap (λ (n : ℕ). spoken (ok (n ∷ header_numbers c.args.o.header))) c.flag_number.ensures ∙ ap (λ (a : Result Bool Refusal). spoken (truth_said c.args.o.header a)) (sym c.in-Ok.is)

pub returns-in-Err : goal.returns-in-Err
returns-in-Err c = c.refused.ensures ∙ ap (λ (a : Result Bool Refusal). spoken (truth_said c.args.o.header a)) (sym c.in-Err.is)
