-- The keys of a well-formed table ascend, and there are at most 64.
-- Assumes nothing.
use native.Mathlib.Omega.{arith}
use Rattle.route_table.proofs.Lent.{seen-formed}
use Rattle.route_table.proofs.RoutesSeen.place_of.Goals as goal

pub index_of-requires : goal.index_of-requires
index_of-requires c =
    let o = (seen-formed c.args.self.now).ordered in
    (omega (arith, o.small, o.long.0), omega (arith, o.small), o.rising)
