-- Both lists are put in turn, and the answer judges them.
use mathlib.Core.List.{◌++◌}
use mathlib.Core.Path.{ap, ◌∙◌}
use Rattle.neighbor_answers.proofs.Spoken.{told-said}
use Rattle.neighbor_answers.specs.Answers.{told_by}
use Rattle.neighbor_values.proofs.Pushes.{in-turn}
use Rattle.neighbor_values.specs.Values.{children_numbers, eui64s_numbers}
use Rattle.numbers.specs.Said.{empty, pushed_all}
use Rattle.numbers.specs.declared.Numbers.{Numbers}
use Rattle.neighbor_answers.proofs.announced_answer.Goals as goal

pub returns : goal.returns
returns c =
    let a = c.args in
    let xs = eui64s_numbers a.claimed in
    let ys = children_numbers a.removed in
    let put = c.push_children.ensures ∙ ap (λ (n : Numbers). pushed_all n ys) (c.push_eui64s-m.ensures ∙ ap (λ (n : Numbers). pushed_all n xs) c.none-n.ensures) ∙ in-turn empty xs ys in
    c.told.ensures ∙ ap (told_by a.answer) put ∙ told-said a.answer (xs ++ ys)
