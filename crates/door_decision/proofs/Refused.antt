-- The numbers of a refused decision keep the places; with `refused-asked` such a call writes nothing, neither in the header's fields nor in its answer's.
use Rattle.std.specs.Prelude.{Result, Ok, Err}
use Prim.Native.Nat.{◌<◌}
use native.Mathlib.Omega.{arith}
use mathlib.Core.Path.{◌≡◌, refl}
use Rattle.next_hop.specs.declared.NextHop.{NextHop}
use Rattle.next_hop.specs.declared.NextHop.TheVariants.{Resolved, NeedDiscovery, Discard}
use Rattle.door.proofs.Lent.{Keeps}
use Rattle.door_decision.specs.Decision.{resolve_status, resolve_places, resolve_numbers}
use Rattle.types.specs.declared.Refusal.{Refusal}

pub resolve-keeps : Keeps resolve_numbers
resolve-keeps x old p = go x.answer p where
  go : (a : Result NextHop Refusal) → 0 < resolve_status a → resolve_places a x.header old ≡ old
  go (Err why) q = refl
  go (Ok (Resolved n)) q = absurd (omega arith)
  go (Ok NeedDiscovery) q = absurd (omega arith)
  go (Ok Discard) q = absurd (omega arith)
