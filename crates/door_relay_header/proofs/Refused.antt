-- The numbers of a refused call keep the places; with `refused-asked` such a call writes nothing.
use Rattle.std.specs.Prelude.{Result, Ok, Err, Bool}
use Prim.Native.Nat.{◌<◌}
use native.Mathlib.Omega.{arith}
use mathlib.Core.Path.{◌≡◌, refl}
use Rattle.door.proofs.Lent.{Keeps}
use Rattle.door_neighbors.specs.Answers.{truth_status}
use Rattle.door_relay_header.specs.Relayed.{clear_places, clear_numbers}
use Rattle.types.specs.declared.Refusal.{Refusal}

pub clear-keeps : Keeps clear_numbers
clear-keeps x old p = go x.answer p where
  go : (a : Result Bool Refusal) → 0 < truth_status a → clear_places a x.header old ≡ old
  go (Err why) q = refl
  go (Ok b) q = absurd (omega arith)
