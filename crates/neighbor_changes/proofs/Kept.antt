-- A change leaves a neighbour under its key and sound: no change touches the extended address or the stored cost,
-- and a sample leaves the ring well formed.
use mathlib.Core.Bool.{true}
use mathlib.Core.Path.{◌≡◌, refl}
use Prim.Native.Nat.{ℕ}
use lib.Dec.{leb}
use Rattle.ring_buffer.specs.Ring.{well_formed}
use Rattle.ring_buffer.proofs.Ring.{push-well-formed}
use Rattle.ring_buffer.proofs.Shapes.{tells-well-formed}
use Rattle.flat_map.proofs.Every.{both_so, left_so, right_so}
use Rattle.neighbor_table.specs.declared.NeighborEntry.{NeighborEntry}
use Rattle.neighbor_table.specs.Entry.{neighbor_key, is_sound}
use Rattle.neighbor_changes.specs.declared.Change.{Change}
use Rattle.neighbor_changes.specs.declared.Change.TheVariants.{Sample, Outbound, Inbound, Failure, Address, Keepalive, Timeout}
use Rattle.neighbor_changes.specs.Change.{sampled, applied, forgiven}

pub same_key : (change : Change) (e : NeighborEntry) → neighbor_key (applied change e) ≡ neighbor_key e
unfolding applied
same_key (Sample lqi) e = refl
same_key Outbound e = refl
same_key Inbound e = refl
same_key Failure e = refl
same_key (Address nwk) e = refl
same_key (Keepalive at) e = refl
same_key (Timeout period configuration at) e = refl

sampled-sound : (lqi : ℕ) (e : NeighborEntry) → is_sound e ≡ true → is_sound (sampled lqi e) ≡ true
unfolding is_sound
sampled-sound lqi e s =
    both_so (left_so (leb e.outgoing_cost 7) (well_formed e.lqas) s)
    ((tells-well-formed (sampled lqi e).lqas).flag
    (push-well-formed lqi e.lqas ((tells-well-formed e.lqas).fact (right_so (leb e.outgoing_cost 7) (well_formed e.lqas) s))))

pub still-sound : (change : Change) (e : NeighborEntry) → is_sound e ≡ true → is_sound (applied change e) ≡ true
unfolding applied is_sound
still-sound (Sample lqi) e s = sampled-sound lqi e s
still-sound Outbound e s = s
still-sound Inbound e s = s
still-sound Failure e s = s
still-sound (Address nwk) e s = s
still-sound (Keepalive at) e s = s
still-sound (Timeout period configuration at) e s = s

pub forgiven-key : (e : NeighborEntry) → neighbor_key (forgiven e) ≡ neighbor_key e
forgiven-key e = refl

pub forgiven-sound : (e : NeighborEntry) → is_sound e ≡ true → is_sound (forgiven e) ≡ true
unfolding is_sound
forgiven-sound e s = s
