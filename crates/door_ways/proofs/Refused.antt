-- The numbers of a refused question keep the places; with `refused-asked` such a question writes nothing.
use Rattle.std.specs.Prelude.{Option, Some, None, Result, Ok, Err}
use Prim.Native.Nat.{◌<◌}
use native.Mathlib.Omega.{arith}
use mathlib.Core.Path.{◌≡◌, refl}
use Rattle.routing.specs.declared.RouteToAnswer.{RouteToAnswer}
use Rattle.routing.specs.declared.RouteToAnswer.TheVariants as way
use Rattle.door.proofs.Lent.{Keeps}
use Rattle.door_ways.specs.Rows.{row_status, row_places, row_numbers}
use Rattle.door_ways.specs.Ways.{way_status, way_places, way_numbers}
use Rattle.types.specs.declared.Refusal.{Refusal}
use Rattle.standard.specs.declared.RecordEntry.{RecordEntry}

pub way-keeps : Keeps way_numbers
way-keeps x old p = go x.answer p where
  go : (a : Result RouteToAnswer Refusal) → 0 < way_status a → way_places a x.relays old ≡ old
  go (Err why) q = refl
  go (Ok way.NoRoute) q = absurd (omega arith)
  go (Ok (way.NextHop n)) q = absurd (omega arith)
  go (Ok way.SourceRoute) q = absurd (omega arith)

pub row_keeps : Keeps row_numbers
row_keeps x old p = go x.answer p where
  go : (a : Result (Option RecordEntry) Refusal) → 0 < row_status a → row_places a x.relays old ≡ old
  go (Err why) q = refl
  go (Ok None) q = absurd (omega arith)
  go (Ok (Some e)) q = absurd (omega arith)
