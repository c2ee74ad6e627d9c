-- Columns that are not well formed are refused; of any others the answer of the columns is said.
use mathlib.Core.Path.{refl, ap, ◌∙◌}
use borrow.Author.Tests.{not-true, not-false}
use Rattle.numbers.specs.Said.{flag_number}
use Rattle.neighbors.proofs.Ready.{links-ordered}
use Rattle.neighbors.specs.State.{well_formed}
use Rattle.neighbors.specs.Queries.{is_unconfirmed_end_device_child}
use Rattle.door.proofs.Lent.{ill-asked, rule-asked}
use Rattle.door_neighbors.proofs.Lent.{test_of, formed-in}
use Rattle.door_neighbor_questions.proofs.Lent.{table_of}
use Rattle.door_neighbor_questions.proofs.warpteasel_raw_is_unconfirmed_end_device_child.Goals as goal

pub returns-then-not-columns_formed : goal.returns-then-not-columns_formed
unfolding is_unconfirmed_end_device_child
returns-then-not-columns_formed c = ill-asked well_formed _ _ (test_of _ _ _ c.columns_formed.ensures (not-true _ c.if-not-columns_formed.true-raw)) (λ _. record { status = refl; places = refl })

pub is_unconfirmed_end_device_child-silent-requires : goal.is_unconfirmed_end_device_child-silent-requires
is_unconfirmed_end_device_child-silent-requires c = links-ordered _ (formed-in _ _ _ c.columns_formed.ensures (not-false _ c.if-not-columns_formed.false-raw)).table.formed

pub returns : goal.returns
unfolding is_unconfirmed_end_device_child
returns c =
    let e = c.columns_formed.ensures in
    let p = not-false _ c.if-not-columns_formed.false-raw in
    rule-asked well_formed _ _ (test_of _ _ _ e p) (λ _. record { status = refl; places = c.flag.ensures ∙ ap flag_number (c.is_unconfirmed_end_device_child-silent.ensures (table_of _ _ _ e) (formed-in _ _ _ e p).table.formed) })
