-- At each turn the list holds the numbers passed as addresses, blank after them; it ends at the count or at the store's end.
use mathlib.Core.List.{map}
use mathlib.Core.Path.{◌≡◌}
use lib.ListN.{take, drop}
use Rattle.standard.specs.Route.{nwk}
use Rattle.flat_map.specs.Rows.{pad}
use Rattle.route_loads.proofs.prints.row_relays.Given as goal

abbrev pub invariant-loop-j : goal.invariant-loop-j
invariant-loop-j l = (l.l.count ≡ l.n) × (l.l.addresses ≡ pad 32 (nwk 0) (map nwk (take l.j (drop l.from l.store))))
