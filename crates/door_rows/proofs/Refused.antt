-- The numbers of a refused question keep the places; with `refused-asked` such a question writes nothing.
use Rattle.std.specs.Prelude.{Ok, Err}
use native.Mathlib.Omega.{arith}
use mathlib.Core.Path.{refl}
use Rattle.door.proofs.Lent.{Keeps}
use Rattle.door_rows.specs.Rows.{route_numbers, discovery_numbers}

pub route-keeps : Keeps route_numbers
route-keeps (Err why) old p = refl
route-keeps (Ok x) old p = absurd (omega arith)

pub discovery-keeps : Keeps discovery_numbers
discovery-keeps (Err why) old p = refl
discovery-keeps (Ok x) old p = absurd (omega arith)
