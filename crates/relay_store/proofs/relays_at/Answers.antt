-- The part from 32 times the row on is the row, and its first numbers are read.
-- Assumes nothing.
use Prim.Native.Nat.{ℕ}
use mathlib.Core.List.{List, map}
use mathlib.Core.Path.{ap, ◌∙◌}
use lib.ListN.{take}
use Rattle.standard.specs.Route.{nwk}
use Rattle.relay_store.specs.Store.{relay_list}
use Rattle.relay_store.proofs.Rows.{part-row}
use Rattle.relay_store.proofs.relays_at.Goals as goal

pub returns : goal.returns
returns c =
    let a = c.args in
    c.read_row.ensures ∙ ap (λ (row : List ℕ). relay_list (map nwk (take a.count row))) (part-row a.i a.store.now)
