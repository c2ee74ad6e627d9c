-- A joining child is sound, since its cost and samples are those that it had, or none.
use Rattle.std.specs.Prelude.{Option, Some, None}
use Prim.Native.Nat.{ℕ}
use mathlib.Core.Bool.{true}
use mathlib.Core.Path.{◌≡◌, refl}
use Rattle.types.specs.declared.Eui64.{Eui64}
use Rattle.neighbor_table.specs.declared.NeighborEntry.{NeighborEntry}
use Rattle.neighbor_table.specs.Entry.{is_sound}
use Rattle.children.specs.declared.ChildDescriptor.{ChildDescriptor}
use Rattle.children.specs.Attach.{start_in, attached}

pub start-sound : (o : Option NeighborEntry) (eui64 : Eui64) (now : ℕ) → ((e : NeighborEntry) → o ≡ Some e → is_sound e ≡ true) → is_sound (start_in o eui64 now) ≡ true
unfolding is_sound
start-sound None eui64 now h = refl
start-sound (Some e) eui64 now h = h e refl

pub attached-sound : (child : ChildDescriptor) (at : ℕ) (e : NeighborEntry) → is_sound e ≡ true → is_sound (attached child at e) ≡ true
unfolding is_sound
attached-sound child at e h = h
