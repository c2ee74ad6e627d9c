-- Before the first row with the address none fits; a filter that names no address begins at the first row.
use native.Mathlib.Omega.{arith}
use mathlib.Core.Path.{ap}
use Rattle.neighbor_queries_lent.specs.Read.{lent_nwks}
use Rattle.neighbor_queries_lent.proofs.Loops.{named, start-ahead}
use Rattle.neighbor_queries_lent.proofs.start_of.Goals as goal

pub first16-requires : goal.first16-requires
first16-requires c =
    (omega (arith, c.requires.0, c.requires.1.0), omega (arith, c.requires.0))

pub first16-requires-in-EndDeviceChildAt : goal.first16-requires-in-EndDeviceChildAt
first16-requires-in-EndDeviceChildAt c =
    (omega (arith, c.requires.0, c.requires.1.0), omega (arith, c.requires.0))

pub first16-requires-in-SleepyChildAt : goal.first16-requires-in-SleepyChildAt
first16-requires-in-SleepyChildAt c =
    (omega (arith, c.requires.0, c.requires.1.0), omega (arith, c.requires.0))

pub first16-requires-in-LiveLinkAt : goal.first16-requires-in-LiveLinkAt
first16-requires-in-LiveLinkAt c =
    (omega (arith, c.requires.0, c.requires.1.0), omega (arith, c.requires.0))

pub returns-in-Address : goal.returns-in-Address
returns-in-Address c =
    let on = lent_nwks c.args.nwks.now c.args.count in
    (c.first16.ensures.within, λ t f. start-ahead (on t) f _ _ c.first16.ensures c.args.filter (ap named c.in-Address.is))

pub returns-in-EndDeviceChildAt : goal.returns-in-EndDeviceChildAt
returns-in-EndDeviceChildAt c =
    let on = lent_nwks c.args.nwks.now c.args.count in
    (c.first16-in-EndDeviceChildAt.ensures.within, λ t f. start-ahead (on t) f _ _ c.first16-in-EndDeviceChildAt.ensures c.args.filter (ap named c.in-EndDeviceChildAt.is))

pub returns-in-SleepyChildAt : goal.returns-in-SleepyChildAt
returns-in-SleepyChildAt c =
    let on = lent_nwks c.args.nwks.now c.args.count in
    (c.first16-in-SleepyChildAt.ensures.within, λ t f. start-ahead (on t) f _ _ c.first16-in-SleepyChildAt.ensures c.args.filter (ap named c.in-SleepyChildAt.is))

pub returns-in-LiveLinkAt : goal.returns-in-LiveLinkAt
returns-in-LiveLinkAt c =
    let on = lent_nwks c.args.nwks.now c.args.count in
    (c.first16-in-LiveLinkAt.ensures.within, λ t f. start-ahead (on t) f _ _ c.first16-in-LiveLinkAt.ensures c.args.filter (ap named c.in-LiveLinkAt.is))
