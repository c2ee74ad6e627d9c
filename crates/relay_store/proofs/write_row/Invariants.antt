-- At each turn the row agrees with the one to be written in the numbers passed; at the end in all of them.
use mathlib.Core.Path.{◌≡◌}
use lib.ListN.{length, take, drop}
use Rattle.relay_store.specs.Store.{row_of, relays_of}
use Rattle.relay_store.proofs.write_row.Given as goal

abbrev pub invariant-loop-i : goal.invariant-loop-i
invariant-loop-i l = (length l.row ≡ 32) × (take l.i l.row ≡ take l.i (row_of (drop l.from (relays_of l.l))))
