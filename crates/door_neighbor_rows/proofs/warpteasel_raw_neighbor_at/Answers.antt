-- Columns that are not well formed are refused; of any others the row at the place is said.
use Rattle.std.specs.Prelude.{Option, Ok}
use mathlib.Core.Path.{refl, ap}
use borrow.Author.Tests.{not-true, not-false}
use Rattle.neighbor_table.specs.declared.NeighborEntry.{NeighborEntry}
use Rattle.neighbors.specs.State.{well_formed}
use Rattle.neighbors.specs.Queries.{entry_at}
use Rattle.door.proofs.Lent.{says-as, ill-asked, rule-asked}
use Rattle.door_neighbors.proofs.Lent.{test_of, formed-in}
use Rattle.door_neighbor_rows.proofs.warpteasel_raw_neighbor_at.Goals as goal

pub returns-then-not-columns_formed : goal.returns-then-not-columns_formed
unfolding entry_at
returns-then-not-columns_formed c = ill-asked well_formed _ _ (test_of _ _ _ c.columns_formed.ensures (not-true _ c.if-not-columns_formed.true-raw)) (λ _. record { status = refl; places = refl })

pub at-x-requires : goal.at-x-requires
at-x-requires c = (formed-in _ _ _ c.columns_formed.ensures (not-false _ c.if-not-columns_formed.false-raw)).table.formed

pub returns : goal.returns
unfolding entry_at
returns c = rule-asked well_formed _ _ (test_of _ _ _ c.columns_formed.ensures (not-false _ c.if-not-columns_formed.false-raw)) (λ _. says-as (ap (λ (o : Option NeighborEntry). Ok o) c.at-x.ensures) (record { status = refl; places = c.neighbor_places-y.ensures }))
