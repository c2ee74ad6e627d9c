-- The first place with the address is that of the first row that has it, whose link word is stored anew; where there is none the sample waits.
use Rattle.std.specs.Prelude.{Option}
use mathlib.Core.Path.{sym, ap, subst}
use Rattle.neighbor_table.specs.declared.NeighborEntry.{NeighborEntry}
use Rattle.neighbor_changes.specs.declared.Change.TheVariants.{Sample}
use Rattle.neighbor_changes.specs.Change.{applied}
use Rattle.neighbor_columns.specs.Lent.{with_nwks, with_links, with_count}
use Rattle.neighbor_columns.proofs.Rows.{unchanged-holds}
use Rattle.neighbor_changes_lent.proofs.Held.{address-row, no-address-row}
use Rattle.waiting_columns.specs.Table as waits
use Rattle.link_quality.specs.Rules.{waiting_unless}
use Rattle.link_quality.proofs.Sampled.{sample-held}
use Rattle.link_quality.proofs.record_lqa.Goals as goal

pub returns-then-i-count : goal.returns-then-i-count
returns-then-i-count c =
    let a = c.args in
    let ws = waits.rows_of (waits.in_columns a.senders.now a.samples.now a.waiting) in
    (λ t w. sample-held (with_nwks a.nwks.now (with_links a.links.now (with_count a.count t))) w _ _ c.if-i-count.true (address-row (with_nwks a.nwks.now (with_links a.links.now (with_count a.count t))) w.formed a.sender _ c.first16-i.ensures c.if-i-count.true) a.lqi _ c.sampled_link.ensures.0 c.sampled_link.ensures.1, λ t f. record { formed = c.requires.2; rows = sym (ap (λ (o : Option NeighborEntry). waiting_unless o a.sender a.lqi ws) (address-row (with_nwks a.nwks.now (with_count a.count t)) f a.sender _ c.first16-i.ensures c.if-i-count.true)) })

pub returns : goal.returns
returns c =
    let a = c.args in
    let ws = waits.rows_of (waits.in_columns a.senders.now a.samples.now a.waiting) in
    (λ t w. unchanged-holds (with_nwks a.nwks.now (with_links a.links.now (with_count a.count t))) w (applied (Sample a.lqi)) _ (no-address-row (with_nwks a.nwks.now (with_links a.links.now (with_count a.count t))) w.formed a.sender _ c.first16-i.ensures c.if-i-count.false), λ t f. subst (waits.Holds _) (sym (ap (λ (o : Option NeighborEntry). waiting_unless o a.sender a.lqi ws) (no-address-row (with_nwks a.nwks.now (with_count a.count t)) f a.sender _ c.first16-i.ensures c.if-i-count.false))) c.wait.ensures)
