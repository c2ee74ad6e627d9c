-- Columns that are not well formed are refused; of any others the answer of the columns is said.
use Rattle.std.specs.Prelude.{Option, Ok}
use Prim.Native.Nat.{ℕ}
use mathlib.Core.Path.{refl, ap}
use borrow.Author.Tests.{not-true, not-false}
use Rattle.neighbor_queries_lent.proofs.Ready.{deadlines-in-use}
use Rattle.neighbors.specs.State.{well_formed}
use Rattle.neighbors.specs.Queries.{next_child_timeout}
use Rattle.door.proofs.Lent.{says-as, ill-asked, rule-asked}
use Rattle.door_neighbors.proofs.Lent.{test_of, formed-in}
use Rattle.door_neighbor_questions.proofs.Lent.{table_of}
use Rattle.door_neighbor_questions.proofs.warpteasel_raw_next_child_timeout.Goals as goal

pub returns-then-not-columns_formed : goal.returns-then-not-columns_formed
unfolding next_child_timeout
returns-then-not-columns_formed c = ill-asked well_formed _ _ (test_of _ _ _ c.columns_formed.ensures (not-true _ c.if-not-columns_formed.true-raw)) (λ _. record { status = refl; places = refl })

pub next_child_timeout-next-requires : goal.next_child_timeout-next-requires
next_child_timeout-next-requires c = deadlines-in-use _ (formed-in _ _ _ c.columns_formed.ensures (not-false _ c.if-not-columns_formed.false-raw)).table.formed

pub returns : goal.returns
unfolding next_child_timeout
returns c =
    let e = c.columns_formed.ensures in
    let p = not-false _ c.if-not-columns_formed.false-raw in
    rule-asked well_formed _ _ (test_of _ _ _ e p) (λ _. says-as (ap (λ (o : Option ℕ). Ok o) (c.next_child_timeout-next.ensures (table_of _ _ _ e) (formed-in _ _ _ e p).table.formed)) c.say_moment.ensures)
