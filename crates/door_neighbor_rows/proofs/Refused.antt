-- The numbers of a refused question keep the places; with `refused-asked` such a question writes nothing.
use Rattle.std.specs.Prelude.{Ok, Err}
use native.Mathlib.Omega.{arith}
use mathlib.Core.Path.{refl}
use Rattle.door.proofs.Lent.{Keeps}
use Rattle.door_neighbor_rows.specs.Rows.{neighbor_numbers}

pub neighbor-keeps : Keeps neighbor_numbers
neighbor-keeps (Ok found) old p = absurd (omega arith)
neighbor-keeps (Err why) old p = refl
