-- Columns that are not well formed are refused; any others have as many rows as their count says.
use mathlib.Core.Path.{refl, sym}
use borrow.Author.Tests.{not-true, not-false}
use Rattle.neighbor_columns.proofs.Rows.{many}
use Rattle.neighbors.specs.State.{well_formed}
use Rattle.neighbors.specs.Queries.{count}
use Rattle.door.proofs.Lent.{ill-asked, rule-asked}
use Rattle.door_neighbors.proofs.Lent.{test_of, formed-in}
use Rattle.door_neighbor_questions.proofs.warpteasel_raw_neighbor_count.Goals as goal

pub returns-then-not-columns_formed : goal.returns-then-not-columns_formed
unfolding count
returns-then-not-columns_formed c = ill-asked well_formed _ _ (test_of _ _ _ c.columns_formed.ensures (not-true _ c.if-not-columns_formed.true-raw)) (λ _. record { status = refl; places = refl })

pub returns : goal.returns
unfolding count
returns c =
    let e = c.columns_formed.ensures in
    let p = not-false _ c.if-not-columns_formed.false-raw in
    rule-asked well_formed _ _ (test_of _ _ _ e p) (λ _. record { status = refl; places = sym (many _ (formed-in _ _ _ e p).table.formed) })
