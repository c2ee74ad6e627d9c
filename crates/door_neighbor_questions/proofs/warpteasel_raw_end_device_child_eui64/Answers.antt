-- Columns that are not well formed are refused; of any others the answer of the columns is said.
use mathlib.Core.Path.{refl}
use borrow.Author.Tests.{not-true, not-false}
use Rattle.neighbor_queries_lent.proofs.Ready.{seen-in-use}
use Rattle.neighbors.specs.State.{well_formed}
use Rattle.neighbors.specs.Queries.{end_device_child_eui64}
use Rattle.door.proofs.Lent.{says-as, ill-asked, rule-asked}
use Rattle.door_neighbors.proofs.Lent.{test_of, formed-in}
use Rattle.door_neighbor_questions.proofs.Lent.{table_of}
use Rattle.door_neighbor_questions.proofs.warpteasel_raw_end_device_child_eui64.Goals as goal

pub returns-then-not-columns_formed : goal.returns-then-not-columns_formed
unfolding end_device_child_eui64
returns-then-not-columns_formed c = ill-asked well_formed _ _ (test_of _ _ _ c.columns_formed.ensures (not-true _ c.if-not-columns_formed.true-raw)) (λ _. record { status = refl; places = refl })

pub end_device_child_eui64-child-requires : goal.end_device_child_eui64-child-requires
end_device_child_eui64-child-requires c = seen-in-use _ (formed-in _ _ _ c.columns_formed.ensures (not-false _ c.if-not-columns_formed.false-raw)).table.formed

pub returns : goal.returns
unfolding end_device_child_eui64
returns c =
    let e = c.columns_formed.ensures in
    let p = not-false _ c.if-not-columns_formed.false-raw in
    rule-asked well_formed _ _ (test_of _ _ _ e p) (λ _. says-as (c.end_device_child_eui64-child.ensures (table_of _ _ _ e) (formed-in _ _ _ e p).table.formed) c.say_name.ensures)
