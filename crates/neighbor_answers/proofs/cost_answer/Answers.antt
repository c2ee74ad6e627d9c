-- Case by case; the values of an entry are put after a 1.
use Rattle.std.specs.Prelude.{Option, Result, Ok}
use mathlib.Core.Path.{sym, ap, ◌∙◌}
use Rattle.neighbor_answers.specs.Answers.{cost_said}
use Rattle.neighbor_table.specs.declared.NeighborEntry.{NeighborEntry}
use Rattle.numbers.specs.Said.{spoken}
use Rattle.types.specs.declared.Refusal.{Refusal}
use Rattle.neighbor_answers.proofs.cost_answer.Goals as goal

pub returns-in-Ok-Some : goal.returns-in-Ok-Some
returns-in-Ok-Some c = rw (c.answered.ensures, c.push_byte.ensures, c.incoming_link_cost.ensures, c.present-n.ensures) (ap (λ (a : Result (Option NeighborEntry) Refusal). spoken (cost_said a)) (sym (c.in-Ok-Some.is ∙ ap Ok (rw c.in-Ok-Some.is at c.in-Ok-Some.field-0-is))))

pub returns-in-Ok-None : goal.returns-in-Ok-None
returns-in-Ok-None c = c.absent.ensures ∙ ap (λ (a : Result (Option NeighborEntry) Refusal). spoken (cost_said a)) (sym (c.in-Ok-None.is ∙ ap Ok (rw c.in-Ok-None.is at c.in-Ok-None.field-0-is)))

pub returns-in-Err : goal.returns-in-Err
returns-in-Err c = c.refused.ensures ∙ ap (λ (a : Result (Option NeighborEntry) Refusal). spoken (cost_said a)) (sym c.in-Err.is)
