-- The verdict decides: a known sender's row is changed where it stands, a new one's is put in, and a refusal changes nothing.
use native.Mathlib.Omega.{arith}
use lib.ListN.{take}
use mathlib.Core.Path.{sym, ap, ◌∙◌, subst}
use Rattle.flat_map.specs.Seek.{place_of}
use Rattle.neighbor_table.specs.declared.NeighborEntry.{NeighborEntry}
use Rattle.neighbor_columns.specs.Table.{in_columns, rows_of}
use Rattle.neighbor_columns.proofs.Rows.{place-within}
use Rattle.waiting_columns.specs.Table as waiting
use Rattle.link_status.specs.Digest.{finished, tally_by}
use Rattle.link_status_lent.specs.Columns.{Decides}
use Rattle.link_status_lent.proofs.Rows.{known-leaves, new-leaves, turned-leaves, made-key, as-answered}
use Rattle.link_status_lent.proofs.on_link_status.Goals as goal

pub digest_at-answer-requires : goal.digest_at-answer-requires
digest_at-answer-requires c =
    let a = c.args in
    let w = c.requires.0 in
    let y = c.requires.1 in
    let t = in_columns a.keys.now a.nwks.now a.links.now a.counts.now a.deadlines.now a.periods.now a.heard.now a.added.now a.beacons.now a.bytes.now a.count in
    let u = waiting.in_columns a.senders.now a.samples.now a.waiting in
    let d = subst (Decides a.keys.now a.count a.name a.command a.now_ms) c.in-Known.is c.decide-verdict.ensures in
    let o = w.formed.ordered in
    (place-within t w.formed a.name.0 _ d.1, o.small, omega (arith, o.small, o.long.1.0), omega (arith, o.small, o.long.1.1.0), omega (arith, o.small, o.long.1.1.1.0), omega (arith, o.small, o.long.1.1.1.1.1.1.0), d.0)

pub remove-left-requires : goal.remove-left-requires
remove-left-requires c =
    c.requires.1.formed

pub router_of-router-requires : goal.router_of-router-requires
router_of-router-requires c =
    let a = c.args in
    let w = c.requires.0 in
    let y = c.requires.1 in
    let t = in_columns a.keys.now a.nwks.now a.links.now a.counts.now a.deadlines.now a.periods.now a.heard.now a.added.now a.beacons.now a.bytes.now a.count in
    let u = waiting.in_columns a.senders.now a.samples.now a.waiting in
    let d = subst (Decides a.keys.now a.count a.name a.command a.now_ms) c.in-New.is c.decide-verdict.ensures in
    (y.formed, d.3)

pub enter-e-requires : goal.enter-e-requires
enter-e-requires c =
    let a = c.args in
    let w = c.requires.0 in
    let y = c.requires.1 in
    let t = in_columns a.keys.now a.nwks.now a.links.now a.counts.now a.deadlines.now a.periods.now a.heard.now a.added.now a.beacons.now a.bytes.now a.count in
    let u = waiting.in_columns a.senders.now a.samples.now a.waiting in
    let d = subst (Decides a.keys.now a.count a.name a.command a.now_ms) c.in-New.is c.decide-verdict.ensures in
    let o = w.formed.ordered in
    (o.small, omega (arith, o.small, o.long.1.0), omega (arith, o.small, o.long.1.1.0), d.0)

pub insert_at-n-requires : goal.insert_at-n-requires
insert_at-n-requires c =
    let a = c.args in
    let w = c.requires.0 in
    let y = c.requires.1 in
    let t = in_columns a.keys.now a.nwks.now a.links.now a.counts.now a.deadlines.now a.periods.now a.heard.now a.added.now a.beacons.now a.bytes.now a.count in
    let u = waiting.in_columns a.senders.now a.samples.now a.waiting in
    let d = subst (Decides a.keys.now a.count a.name a.command a.now_ms) c.in-New.is c.decide-verdict.ensures in
    let e = c.enter-e.ensures t w.formed ∙ ap (λ (x : NeighborEntry). finished a.now_ms (tally_by (rows_of t) a.own a.command x) x) c.router_of-router.ensures in
    (w.formed, d.1 ∙ ap (place_of (take a.count a.keys.now)) (sym (made-key t w u y a.own a.name a.nwk a.lqi a.command a.now_ms _ e)), d.2)

pub remove-left-requires-in-New : goal.remove-left-requires-in-New
remove-left-requires-in-New c =
    c.requires.1.formed

pub returns-in-Known : goal.returns-in-Known
returns-in-Known c =
    let a = c.args in
    let w = c.requires.0 in
    let y = c.requires.1 in
    let t = in_columns a.keys.now a.nwks.now a.links.now a.counts.now a.deadlines.now a.periods.now a.heard.now a.added.now a.beacons.now a.bytes.now a.count in
    let u = waiting.in_columns a.senders.now a.samples.now a.waiting in
    let d = subst (Decides a.keys.now a.count a.name a.command a.now_ms) c.in-Known.is c.decide-verdict.ensures in
    as-answered c.answered.ensures (known-leaves t w u y a.own a.name a.nwk a.lqi a.command a.now_ms _ d _ _ _ (c.digest_at-answer.ensures t w) c.remove-left.ensures)

pub returns-in-New : goal.returns-in-New
returns-in-New c =
    let a = c.args in
    let w = c.requires.0 in
    let y = c.requires.1 in
    let t = in_columns a.keys.now a.nwks.now a.links.now a.counts.now a.deadlines.now a.periods.now a.heard.now a.added.now a.beacons.now a.bytes.now a.count in
    let u = waiting.in_columns a.senders.now a.samples.now a.waiting in
    let d = subst (Decides a.keys.now a.count a.name a.command a.now_ms) c.in-New.is c.decide-verdict.ensures in
    let e = c.enter-e.ensures t w.formed ∙ ap (λ (x : NeighborEntry). finished a.now_ms (tally_by (rows_of t) a.own a.command x) x) c.router_of-router.ensures in
    as-answered c.answered-in-New.ensures (new-leaves t w u y a.own a.name a.nwk a.lqi a.command a.now_ms _ d _ e _ _ c.insert_at-n.ensures c.remove-left-in-New.ensures)

pub returns-in-Turned : goal.returns-in-Turned
returns-in-Turned c =
    let a = c.args in
    let w = c.requires.0 in
    let y = c.requires.1 in
    let t = in_columns a.keys.now a.nwks.now a.links.now a.counts.now a.deadlines.now a.periods.now a.heard.now a.added.now a.beacons.now a.bytes.now a.count in
    let u = waiting.in_columns a.senders.now a.samples.now a.waiting in
    as-answered c.answered-in-Turned.ensures (turned-leaves t w u y a.own a.name a.nwk a.lqi a.command a.now_ms _ (subst (Decides a.keys.now a.count a.name a.command a.now_ms) c.in-Turned.is c.decide-verdict.ensures))
