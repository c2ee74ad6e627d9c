-- The place is that of the entry's key: its samples are stored over those that are there, or put in where there is room.
-- Both are `put` on the entries.
use native.Mathlib.Omega.{arith}
use mathlib.Core.Path.{sym, ◌∙◌}
use Rattle.waiting_columns.specs.Table.{in_columns}
use Rattle.waiting_columns.proofs.Rows.{in-columns, place-within, missing-within, free, stored-over, put_in}
use Rattle.waiting_columns.proofs.put_at.Goals as goal

pub offset_bounds-samples-i : goal.offset_bounds-samples-i
offset_bounds-samples-i c =
    let a = c.args in
    let t = in_columns a.keys.now a.samples.now a.count in
    omega (arith, (in-columns t c.requires.0 _ (place-within t c.requires.0 _ _ (sym c.in-Ok.is ∙ c.requires.1))).1)

pub bounds-samples-i : goal.bounds-samples-i
bounds-samples-i c =
    let a = c.args in
    let t = in_columns a.keys.now a.samples.now a.count in
    omega (arith, (in-columns t c.requires.0 _ (place-within t c.requires.0 _ _ (sym c.in-Ok.is ∙ c.requires.1))).1)

pub shift_in-requires : goal.shift_in-requires
shift_in-requires c =
    let a = c.args in
    let t = in_columns a.keys.now a.samples.now a.count in
    let p = sym c.in-Err.is ∙ c.requires.1 in
    let room = free t c.requires.0 _ _ p c.requires.2 in
    omega (arith, room, missing-within t c.requires.0 _ _ p, c.requires.0.ordered.long.0)

pub shift_in-requires-in-Err : goal.shift_in-requires-in-Err
shift_in-requires-in-Err c =
    let a = c.args in
    let t = in_columns a.keys.now a.samples.now a.count in
    let p = sym c.in-Err.is ∙ c.requires.1 in
    let room = free t c.requires.0 _ _ p c.requires.2 in
    omega (arith, room, missing-within t c.requires.0 _ _ p, c.requires.0.ordered.long.1.0)

pub returns-in-Ok : goal.returns-in-Ok
returns-in-Ok c =
    let a = c.args in
    let t = in_columns a.keys.now a.samples.now a.count in
    let q = c.word-w.ensures in
    rw q.0 (stored-over t c.requires.0 a.e q.2 _ (sym c.in-Ok.is ∙ c.requires.1))

pub returns-in-Err : goal.returns-in-Err
returns-in-Err c =
    let a = c.args in
    let t = in_columns a.keys.now a.samples.now a.count in
    let p = sym c.in-Err.is ∙ c.requires.1 in
    let room = free t c.requires.0 _ _ p c.requires.2 in
    let q = c.word-w.ensures in
    rw (c.shift_in.ensures, c.shift_in-in-Err.ensures, q.0) (put_in t c.requires.0 a.e q.2 _ p room)
