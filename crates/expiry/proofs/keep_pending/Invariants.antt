-- At each turn the rest of the sweep, done now, gives the routes that stay; the same columns are lent.
-- The measure is the rows not passed, which a removal lessens too.
use Prim.Native.Nat.{◌-◌}
use Rattle.standard.specs.Discovery.{live}
use Rattle.standard.specs.Expiry.{stays}
use Rattle.standard.specs.Ordered.{keep}
use Rattle.discovery_table.specs.Lent.{seen_discoveries}
use Rattle.route_table.specs.Lent.{routes_of, SameColumns}
use Rattle.expiry.proofs.Pending.{Swept}
use Rattle.expiry.proofs.keep_pending.Given as goal

abbrev pub invariant-loop-i : goal.invariant-loop-i
invariant-loop-i l =
    let ds = seen_discoveries l.discoveries in
    let p = stays ds (keep (live l.now_ms) ds) in
    SameColumns l.initial.routes l.routes × Swept p (keep p (routes_of l.initial.routes)) l.routes.keys.now l.routes.words.now l.routes.usage.now l.routes.count l.i

abbrev pub decreases-loop-i : goal.decreases-loop-i
decreases-loop-i l = l.routes.count - l.i
