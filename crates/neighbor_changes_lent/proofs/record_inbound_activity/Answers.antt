-- The first place with the address is that of the first row that has it, whose counts word is stored anew, or the count where there is none.
use Rattle.neighbor_changes.specs.declared.Change.TheVariants.{Inbound}
use Rattle.neighbor_changes.specs.Change.{applied}
use Rattle.neighbor_columns.specs.Lent.{with_nwks, with_counts, with_count}
use Rattle.neighbor_columns.proofs.Rows.{unchanged-holds}
use Rattle.neighbor_changes_lent.specs.declared.Counter.TheVariants.{Received}
use Rattle.neighbor_changes_lent.proofs.Held.{address-row, no-address-row, counts-held}
use Rattle.neighbor_changes_lent.proofs.record_inbound_activity.Goals as goal

pub returns-then-i-count : goal.returns-then-i-count
returns-then-i-count c = λ t w. counts-held (with_nwks c.args.nwks.now (with_counts c.args.counts.now (with_count c.args.count t))) w _ _ c.if-i-count.true (address-row (with_nwks c.args.nwks.now (with_counts c.args.counts.now (with_count c.args.count t))) w.formed c.args.nwk _ c.first16-i.ensures c.if-i-count.true) Received _ c.one_more.ensures

pub returns-else-i-count : goal.returns-else-i-count
returns-else-i-count c = λ t w. unchanged-holds (with_nwks c.args.nwks.now (with_counts c.args.counts.now (with_count c.args.count t))) w (applied Inbound) _ (no-address-row (with_nwks c.args.nwks.now (with_counts c.args.counts.now (with_count c.args.count t))) w.formed c.args.nwk _ c.first16-i.ensures c.if-i-count.false)
