-- The values are put, and the answer judges them.
use Rattle.neighbor_answers.proofs.Spoken.{told-said}
use Rattle.neighbor_values.specs.Values.{children_numbers}
use Rattle.neighbor_answers.proofs.removed_answer.Goals as goal

pub returns : goal.returns
returns c =
    let a = c.args in
    rw (c.told.ensures, c.push_children.ensures, c.none-n.ensures) (told-said a.answer (children_numbers a.removed))
