-- The writer filled the part that is row i; the store with that part put back is the store with its row replaced.
-- Assumes nothing.
use Prim.Native.Nat.{ℕ, ◌+◌, ◌-◌, ◌*◌}
use mathlib.Core.List.{List, ◌++◌}
use mathlib.Core.Path.{ap, ◌∙◌}
use lib.ListN.{take, drop}
use Rattle.relay_store.specs.Store.{row_of, relays_of}
use Rattle.relay_store.proofs.Rows.{part-put}
use Rattle.relay_store.proofs.set_row_from.Goals as goal

pub returns : goal.returns
returns c =
    let a = c.args in
    let s = a.store.now in
    ap (λ (row : List ℕ). take (32 * a.i) s ++ (row ++ drop (32 * a.i + 32 - 32 * a.i) (drop (32 * a.i) s))) c.write_row.ensures
    ∙ part-put a.i (row_of (drop a.from (relays_of a.l))) s
