-- A free place gets the number; where there is none, the numbers stay.
use mathlib.Core.Path.{refl}
use native.Mathlib.Omega.{arith}
use borrow.Author.Tests.{lt-ltb, le-ltb}
use Rattle.numbers.specs.Said.{pushed}
use Rattle.numbers.proofs.push.Goals as goal

pub returns-then-i-lt256 : goal.returns-then-i-lt256
unfolding pushed
returns-then-i-lt256 c = rw (lt-ltb c.args.n.count 256 c.if-i-lt256.true) refl

pub returns : goal.returns
unfolding pushed
returns c = rw (le-ltb c.args.n.count 256 (omega (arith, c.if-i-lt256.false))) refl
