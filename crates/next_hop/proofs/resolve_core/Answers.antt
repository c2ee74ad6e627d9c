-- The tables that a decision reads, lent to it.
-- Assumes nothing.
use Prim.Native.Nat.{ℕ}
use mathlib.Core.Path.{◌≡◌, sym, ◌∙◌, subst}
use Rattle.neighbor_columns.specs.Table as neighbor
use Rattle.neighbors.specs.State.{table_in}
use Rattle.record_table.specs.Table.{RecordTable}
use Rattle.relay_store.specs.Store.{Agrees}
use Rattle.route_table.specs.Table.{rows_of}
use Rattle.next_hop.specs.Decision.{decided_on}
use borrow.Author.Rules.{rules}
use Rattle.next_hop.proofs.resolve_core.Goals as goal

pub slice_bounds-decide-end : goal.slice_bounds-decide-end
slice_bounds-decide-end c = search (rules, c.requires.1.table.formed.ordered.long.1.0)

pub slice_bounds-decide-end-2 : goal.slice_bounds-decide-end-2
slice_bounds-decide-end-2 c = search (rules, c.requires.1.table.formed.ordered.long.1.1.0)

pub decide-requires : goal.decide-requires
decide-requires c = (subst (λ (t : RecordTable). Agrees t c.args.store.now) (sym c.records_seen.ensures) c.requires.2, record { table = table_in c.args.neighbors; formed = c.requires.1.table.formed }, c.requires.3)

pub returns : goal.returns
returns c =
    let a = c.args in
    c.decide.ensures (table_in a.neighbors) c.requires.1.table.formed
    ∙ (λ z. decided_on (rows_of (c.routes_seen.ensures z)) (c.records_seen.ensures z) (neighbor.rows_of (table_in a.neighbors)) a.header a.mode a.policy a.store.now)
