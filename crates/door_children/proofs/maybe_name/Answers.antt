-- The flag decides.
use mathlib.Core.Path.{refl}
use borrow.Author.Tests.{eq-eqb, ne_eqb}
use Rattle.door_children.proofs.maybe_name.Goals as goal

pub returns-then-given-eq1 : goal.returns-then-given-eq1
returns-then-given-eq1 c = rw (eq-eqb _ _ c.if-given-eq1.true) refl

pub returns-else-given-eq1 : goal.returns-else-given-eq1
returns-else-given-eq1 c = rw (ne_eqb _ _ c.if-given-eq1.false) refl
