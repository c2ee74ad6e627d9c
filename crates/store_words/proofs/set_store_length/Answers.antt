-- The one test is the definition's.
-- Assumes nothing.
use lib.ListN.{length}
use borrow.Author.Tests.{le-leb, lt-leb}
use Rattle.store_words.specs.Turns.{length_turn}
use Rattle.numbers.specs.Read.{number_at}
use native.Mathlib.Omega.{arith}
use Rattle.store_words.proofs.set_store_length.Goals as goal

pub returns-then-n-store : goal.returns-then-n-store
unfolding length_turn
returns-then-n-store c =
    let a = c.args in
    rw (c.done-answer.ensures, c.at-n.ensures, le-leb (number_at a.args.now 0) (length a.store.now) (omega (arith, c.at-n.ensures, c.if-n-store.true)))

pub returns : goal.returns
unfolding length_turn
returns c =
    let a = c.args in
    rw (c.no_call-answer.ensures, lt-leb (number_at a.args.now 0) (length a.store.now) (omega (arith, c.at-n.ensures, c.if-n-store.false)))
