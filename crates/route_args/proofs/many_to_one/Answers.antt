-- The number is compared with each in turn.
use borrow.Author.Tests.{eq-eqb, ne_eqb}
use Rattle.route_args.specs.Read.{many_to_one_of}
use Rattle.route_args.proofs.many_to_one.Goals as goal

pub returns-then-n-eq0 : goal.returns-then-n-eq0
unfolding many_to_one_of
returns-then-n-eq0 c = rw (eq-eqb c.args.n 0 c.if-n-eq0.true)

pub returns-then-n-eq1 : goal.returns-then-n-eq1
unfolding many_to_one_of
returns-then-n-eq1 c = rw (ne_eqb c.args.n 0 c.if-n-eq0.false, eq-eqb c.args.n 1 c.if-n-eq1.true)

pub returns-then-n-eq2 : goal.returns-then-n-eq2
unfolding many_to_one_of
returns-then-n-eq2 c = rw (ne_eqb c.args.n 0 c.if-n-eq0.false, ne_eqb c.args.n 1 c.if-n-eq1.false, eq-eqb c.args.n 2 c.if-n-eq2.true)

pub returns : goal.returns
unfolding many_to_one_of
returns c = rw (ne_eqb c.args.n 0 c.if-n-eq0.false, ne_eqb c.args.n 1 c.if-n-eq1.false, ne_eqb c.args.n 2 c.if-n-eq2.false)
