-- No route that is passed goes, so whether one of the rest goes is whether one of all goes.
use Rattle.discovery_table.specs.Lent.{seen_discoveries}
use Rattle.route_table.specs.Lent.{seen_table}
use Rattle.expiry.proofs.Left.{goes}
use Rattle.expiry.proofs.Pending.{NoneYet}
use Rattle.expiry.proofs.frees_route.Given as goal

abbrev pub invariant-loop-i : goal.invariant-loop-i
invariant-loop-i l = NoneYet (seen_table l.routes) (goes l.now_ms (seen_discoveries l.discoveries)) l.i
