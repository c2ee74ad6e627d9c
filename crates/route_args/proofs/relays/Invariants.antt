-- At each turn the list holds the relays passed, blank after them; at the end it holds those that were to be read.
use Prim.Native.Nat.{◌+◌}
use mathlib.Core.List.{map}
use mathlib.Core.Path.{◌≡◌}
use lib.ListN.{take, drop}
use Rattle.standard.specs.Route.{nwk}
use Rattle.flat_map.specs.Rows.{pad}
use Rattle.route_args.specs.Read.{cut_nwk}
use Rattle.route_args.proofs.relays.Given as goal

abbrev pub invariant-loop-i : goal.invariant-loop-i
invariant-loop-i l = (l.l.count ≡ l.count) × (l.l.addresses ≡ pad 32 (nwk 0) (map cut_nwk (take l.i (drop (l.from + 1) l.args))))
