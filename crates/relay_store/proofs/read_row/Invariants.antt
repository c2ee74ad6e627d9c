-- At each turn the list holds the numbers passed as addresses, blank after them; at the end it holds those asked for.
use mathlib.Core.List.{map}
use mathlib.Core.Path.{◌≡◌}
use lib.ListN.{take}
use Rattle.standard.specs.Route.{nwk}
use Rattle.flat_map.specs.Rows.{pad}
use Rattle.relay_store.proofs.read_row.Given as goal

abbrev pub invariant-loop-i : goal.invariant-loop-i
invariant-loop-i l = l.l.addresses ≡ pad 32 (nwk 0) (map nwk (take l.i l.row))
