-- What is done with the rest of the list, from here, is what is done with the whole.
use native.Mathlib.Omega.{arith}
use mathlib.Core.Path.{◌≡◌, refl}
use lib.ListN.{length, take}
use Rattle.flat_map.proofs.Query.{next-given}
use Rattle.flat_map.proofs.Shift.{unmapped}
use Rattle.neighbor_columns.specs.Table.{in_columns, rows_of}
use Rattle.parent_annce.specs.Settle.{start}
use Rattle.parent_annce.proofs.Settles.{ready, settles-more}
use borrow.Author.Rules.{rules}
use Rattle.parent_annce.proofs.settle.Goals as goal
use Rattle.parent_annce.proofs.settle.Goals.{Start}

long : (c : Start) → length c.args.list.addresses ≡ 64
long c = search (rules, unmapped)

pub loop-i-init : goal.loop-i-init
loop-i-init c =
    let a = c.args in
    let t = in_columns a.keys.now a.nwks.now a.links.now a.counts.now a.deadlines.now a.periods.now a.heard.now a.added.now a.beacons.now a.bytes.now a.count in
    let list = take a.list.count a.list.addresses in
    record { now = start (rows_of t); reaches = record { neighbors = record { formed = c.requires.0; rows = refl }; claims = c.new-claimed.ensures; removals = c.new-removed.ensures }; few = record { claims = omega arith; removals = omega arith }; rest = refl }

pub step-s-requires : goal.step-s-requires
step-s-requires c =
    let a = c.args in
    let t = in_columns a.keys.now a.nwks.now a.links.now a.counts.now a.deadlines.now a.periods.now a.heard.now a.added.now a.beacons.now a.bytes.now a.count in
    let list = take a.list.count a.list.addresses in
    let v = c.loop-i in
    let u = in_columns v.keys v.nwks v.links v.counts v.deadlines v.periods v.heard v.added v.beacons v.bytes v.s.count in
    ready a.confirm list (rows_of t) u v.s v.i v.invariant (omega (arith, c.requires.1, c.loop-i-test.true))

pub loop-i-preserved : goal.loop-i-preserved
loop-i-preserved c =
    let a = c.args in
    let t = in_columns a.keys.now a.nwks.now a.links.now a.counts.now a.deadlines.now a.periods.now a.heard.now a.added.now a.beacons.now a.bytes.now a.count in
    let list = take a.list.count a.list.addresses in
    let v = c.loop-i in
    let u = in_columns v.keys v.nwks v.links v.counts v.deadlines v.periods v.heard v.added v.beacons v.bytes v.s.count in
    settles-more a.confirm list (rows_of t) u v.s v.i v.invariant _ (next-given a.list.addresses a.list.count v.i (omega (arith, c.requires.1, long (goal.at.loop-i-preserved c).Start)) _ c.loop-i-test.true) _ _ c.step-s.ensures
