-- A row goes over the one of its place; where it is missing, the shift makes room for it.
-- Assumes nothing.
use Prim.Native.Nat.{◌<◌}
use mathlib.Core.Path.{sym, ap, ◌∙◌, subst}
use lib.ListN.{drop}
use Rattle.relay_store.specs.Store.{on_rows, row_of, row_put, PlaceWithin, relays_of}
use native.Mathlib.Omega.{arith}
use Rattle.relay_store.proofs.Rows.{wide_row}
use Rattle.relay_store.proofs.Shifts.{wide_of, row-over, row-between}
use borrow.Author.Rules.{rules}
use Rattle.relay_store.proofs.put_row.Goals as goal
use Rattle.relay_store.proofs.put_row.Goals.{In-Ok, In-Err}

within : (c : In-Ok) → c.in-Ok.i < 64
within c = subst PlaceWithin c.in-Ok.is c.requires.2

within-2 : (c : In-Err) → c.in-Err.i < 64
within-2 c = subst PlaceWithin c.in-Err.is c.requires.2

pub set_row_from-requires : goal.set_row_from-requires
set_row_from-requires c = (search rules, search rules, within (goal.at.set_row_from-requires c).In-Ok, search rules)

pub shift_rows_up-requires : goal.shift_rows_up-requires
shift_rows_up-requires c = (within-2 (goal.at.shift_rows_up-requires c).In-Err, c.requires.3)

pub set_row_from-requires-in-Err : goal.set_row_from-requires-in-Err
set_row_from-requires-in-Err c = (search rules, search rules, within-2 (goal.at.set_row_from-requires-in-Err c).In-Err, search rules)

pub returns-in-Ok : goal.returns-in-Ok
returns-in-Ok c =
    let a = c.args in
    row-over a.store.now c.requires.3 _ (within (goal.at.returns-in-Ok c).In-Ok) (row_of (drop a.from (relays_of a.l))) (wide_of (drop a.from (relays_of a.l))) _ c.set_row_from.ensures
    ∙ ap (λ p. on_rows (row_put p (row_of (drop a.from (relays_of a.l)))) a.store.now) (sym c.in-Ok.is)

pub returns-in-Err : goal.returns-in-Err
returns-in-Err c =
    let a = c.args in
    row-between a.store.now c.requires.3 _ (within-2 (goal.at.returns-in-Err c).In-Err) (row_of (drop a.from (relays_of a.l))) (wide_of (drop a.from (relays_of a.l))) _ (wide_row 64 _ a.store.now (omega (arith, c.requires.3)) (within-2 (goal.at.returns-in-Err c).In-Err)) _ _ c.shift_rows_up.ensures c.set_row_from-in-Err.ensures
    ∙ ap (λ p. on_rows (row_put p (row_of (drop a.from (relays_of a.l)))) a.store.now) (sym c.in-Err.is)
