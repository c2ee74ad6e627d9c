-- The tables of the two states are lent to each turn.
use mathlib.Core.Path.{sym, subst}
use Rattle.std.proofs.Common.{rules}
use Rattle.neighbors.specs.State.{table_in}
use Rattle.record_table.specs.Table.{RecordTable}
use Rattle.relay_store.specs.Store.{Agrees}
use Rattle.speed.proofs.decisions.decisions_held.Goals as goal

pub slice_bounds-decision_lent-end : goal.slice_bounds-decision_lent-end
slice_bounds-decision_lent-end c = search (rules, c.requires.1.table.formed.ordered.long.1.0)

pub slice_bounds-decision_lent-end-in-loop-row : goal.slice_bounds-decision_lent-end-in-loop-row
slice_bounds-decision_lent-end-in-loop-row c = search (rules, c.requires.1.table.formed.ordered.long.1.1.0)

pub decision_lent-x-requires : goal.decision_lent-x-requires
decision_lent-x-requires c = (subst (λ (t : RecordTable). Agrees t c.args.store.now) (sym c.records_seen.ensures) c.requires.2, record { table = table_in c.args.neighbors; formed = c.requires.1.table.formed })
