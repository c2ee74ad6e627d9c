-- The three tests, taken together, tell what makes a child.
use Rattle.standard.proofs.Tells.{tells-le, tells_both, tells-so}
use Rattle.door_children.proofs.is_child.Goals as goal

pub returns : goal.returns
returns c = tells-so (λ p. record { kind = p.0; listens = p.1.0; relation = p.1.1 }) (λ w. (w.kind, (w.listens, w.relation))) (tells_both (tells-le _ 2) (tells_both (tells-le _ 1) (tells-le _ 9)))
