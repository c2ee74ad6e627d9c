-- The place is one of the store, or the store stays.
-- Assumes nothing.
use lib.ListN.{length}
use borrow.Author.Tests.{lt-ltb, le-ltb}
use Rattle.store_words.specs.Turns.{set_turn}
use Rattle.store_words.proofs.Cleared.{nowhere}
use Rattle.numbers.specs.Read.{number_at, nwk_at}
use native.Mathlib.Omega.{arith}
use Rattle.store_words.proofs.set_store.Goals as goal

pub returns-then-i-store : goal.returns-then-i-store
unfolding set_turn
returns-then-i-store c =
    let a = c.args in
    (rw (c.done-answer.ensures, lt-ltb (number_at a.args.now 0) (length a.store.now) (omega (arith, c.at-i.ensures, c.if-i-store.true))), rw (c.at-i.ensures, c.nwk-v.ensures))

pub returns : goal.returns
unfolding set_turn
returns c =
    let a = c.args in (
      rw (c.no_call-answer.ensures, le-ltb (number_at a.args.now 0) (length a.store.now) (omega (arith, c.at-i.ensures, c.if-i-store.false))),
      nowhere a.store.now (number_at a.args.now 0) (nwk_at a.args.now 1).0 (omega (arith, c.at-i.ensures, c.if-i-store.false)),
    )
