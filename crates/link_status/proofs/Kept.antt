-- A link status leaves a sound neighbour sound: the cost that it stores is one that it had or was given, and these are
-- at most 7; the samples are those stored, or those that waited with one more.
use Rattle.std.specs.Prelude.{Option, Some, None}
use Prim.Native.Nat.{ℕ, ◌≤◌}
use native.Mathlib.Omega.{arith}
use mathlib.Core.Bool.{Bool, true, false, cond}
use mathlib.Core.List.{List, [], ◌∷◌}
use mathlib.Core.Path.{◌≡◌, refl}
use borrow.Author.Tests.{leb-true, le-leb}
use lib.Dec.{leb, eqb}
use Rattle.types.specs.declared.Nwk.{Nwk}
use Rattle.types.specs.declared.Eui64.{Eui64}
use Rattle.standard.specs.Ordered.{lookup}
use Rattle.ring_buffer.specs.declared.RingBuffer.{RingBuffer}
use Rattle.ring_buffer.specs.Ring as ring
use Rattle.ring_buffer.proofs.Ring.{fresh-well-formed, push-well-formed}
use Rattle.ring_buffer.proofs.Shapes.{tells-well-formed}
use Rattle.flat_map.specs.Table.{every}
use Rattle.flat_map.proofs.Every.{both_so, left_so, right_so, every-lookup}
use Rattle.neighbor_table.specs.declared.NeighborEntry.{NeighborEntry}
use Rattle.neighbor_table.specs.Entry.{neighbor_key, is_sound}
use Rattle.waiting_table.specs.declared.WaitingEntry.{WaitingEntry}
use Rattle.waiting_table.specs.Entry as waits-entry
use Rattle.neighbor_queries.specs.declared.LinkStatus.{LinkStatus}
use Rattle.link_status.specs.declared.Tally.{Tally}
use Rattle.link_status.specs.Statuses.{costs_fit, counted, tallied}
use Rattle.link_status.specs.Digest.{begun, finished, new_router, samples_of}
use Rattle.link_status.proofs.Lists.{costs-small}

-- the cost stays one that a link can have
counted-small : (own : Nwk) (live : Bool) (status : LinkStatus) (x : Tally) → costs_fit status ≡ true → x.cost ≤ 7 → (counted own live status x).cost ≤ 7
unfolding counted
counted-small own live status x e h = go (eqb status.address.0 own.0) where
  go : (b : Bool) → cond b status.incoming_cost x.cost ≤ 7
  go true = (costs-small status e).0
  go false = h

pub tallied-small : (own : Nwk) (live : Nwk → Bool) (list : List LinkStatus) (x : Tally) → every costs_fit list ≡ true → x.cost ≤ 7 → (tallied own live list x).cost ≤ 7
tallied-small own live [] x e h = h
tallied-small own live (status ∷ rest) x e h =
    tallied-small own live rest (counted own (live status.address) status x) (right_so (costs_fit status) (every costs_fit rest) e)
    (counted-small own (live status.address) status x (left_so (costs_fit status) (every costs_fit rest) e) h)

pub begun-small : (first : Bool) (e : NeighborEntry) → e.outgoing_cost ≤ 7 → (begun first e).cost ≤ 7
begun-small true e h = omega arith
begun-small false e h = h

pub finished-sound : (now : ℕ) (x : Tally) (e : NeighborEntry) → x.cost ≤ 7 → is_sound e ≡ true → is_sound (finished now x e) ≡ true
unfolding is_sound finished
finished-sound now x e h s = both_so (le-leb _ _ h) (right_so (leb e.outgoing_cost 7) (ring.well_formed e.lqas) s)

pub finished-key : (now : ℕ) (x : Tally) (e : NeighborEntry) → neighbor_key (finished now x e) ≡ neighbor_key e
unfolding finished
finished-key now x e = refl

pub new-key : (name : Eui64) (nwk : Nwk) (at now : ℕ) (samples : RingBuffer) → neighbor_key (new_router name nwk at now samples) ≡ name.0
unfolding new_router
new-key name nwk at now samples = refl

pub cost-of : (e : NeighborEntry) → is_sound e ≡ true → e.outgoing_cost ≤ 7
unfolding is_sound
cost-of e s = leb-true _ _ (left_so (leb e.outgoing_cost 7) (ring.well_formed e.lqas) s)

pub new-sound : (name : Eui64) (nwk : Nwk) (at now lqi : ℕ) (ws : List WaitingEntry) → every waits-entry.is_sound ws ≡ true → is_sound (new_router name nwk at now (samples_of nwk lqi ws)) ≡ true
unfolding is_sound new_router
new-sound name nwk at now lqi ws h = go (lookup waits-entry.waiting_key nwk.0 ws) refl where
  go : (o : Option WaitingEntry) → lookup waits-entry.waiting_key nwk.0 ws ≡ o → ring.well_formed (ring.after_push (waits-entry.ring_in o) lqi) ≡ true
  go None q = (tells-well-formed _).flag (push-well-formed lqi _ fresh-well-formed)
  go (Some e) q = (tells-well-formed _).flag (push-well-formed lqi e.lqas ((tells-well-formed e.lqas).fact (every-lookup waits-entry.is_sound waits-entry.waiting_key nwk.0 ws e h q)))
