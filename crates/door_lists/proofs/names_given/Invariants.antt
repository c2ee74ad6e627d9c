-- At each turn the list holds the numbers passed as extended addresses, blank after them; at the end it holds those that have a place.
use Prim.Native.Nat.{◌≤◌}
use mathlib.Core.List.{map}
use mathlib.Core.Path.{◌≡◌}
use lib.ListN.{length, take}
use Rattle.flat_map.specs.Rows.{pad}
use Rattle.neighbor_queries.specs.Lists.{no_name}
use Rattle.door_lists.specs.Lists.{name}
use Rattle.door_lists.proofs.names_given.Given as goal

abbrev pub invariant-loop-i : goal.invariant-loop-i
invariant-loop-i l = (l.n ≤ 64) × (l.n ≤ length l.numbers) × (l.l.addresses ≡ pad 64 no_name (map name (take l.i l.numbers)))
