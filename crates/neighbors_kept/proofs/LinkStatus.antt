-- A link status leaves a well-formed state well formed, whether it is refused, known or new: the cost that it stores is one that it had or was given,
-- at most 7, its sums stop at 255, and the samples are those stored, or those that waited with one more that is a byte.
use Rattle.std.specs.Prelude.{Option, Some, None}
use Prim.Native.Nat.{ℕ, ◌+◌, ◌<◌, ◌≤◌, min}
use native.Mathlib.Omega.{arith}
use mathlib.Core.Bool.{Bool, true, false, cond, not, ◌&&◌}
use mathlib.Core.List.{List, [], ◌∷◌}
use mathlib.Core.Path.{◌≡◌, refl, sym, subst}
use borrow.Author.Tests.{leb-true}
use lib.Dec.{leb, ltb}
use Rattle.types.specs.declared.Nwk.{Nwk}
use Rattle.types.specs.declared.Eui64.{Eui64}
use Rattle.types.specs.declared.Refusal.{Refusal}
use Rattle.types.specs.declared.Refusal.TheVariants.{NeighborTableFull, TimePastEnd, ListTooLong, LinkCostTooHigh}
use Rattle.types.specs.Clock.{time_sum}
use Rattle.standard.specs.Ordered.{lookup, count_with}
use Rattle.standard.proofs.Picked.{by-test}
use Rattle.flat_map.specs.Table.{Each, every}
use Rattle.flat_map.proofs.Mapped.{each-found}
use Rattle.ring_buffer.specs.declared.RingBuffer.{RingBuffer}
use Rattle.ring_buffer.specs.Ring as ring
use Rattle.ring_buffer.specs.Word as word
use Rattle.ring_buffer.proofs.Word.{fresh-in-range, push-in-range}
use Rattle.neighbor_table.specs.declared.NeighborEntry.{NeighborEntry}
use Rattle.neighbor_table.specs.Entry.{neighbor_key, is_sound}
use Rattle.neighbor_columns.specs.Codec.{InRange}
use Rattle.neighbor_columns.specs.Table.{FitRows}
use Rattle.neighbor_columns.proofs.Rows.{fit-put}
use Rattle.waiting_table.specs.declared.WaitingEntry.{WaitingEntry}
use Rattle.waiting_table.specs.Entry.{waiting_key, ring_in}
use Rattle.waiting_columns.specs.Codec as wait
use Rattle.waiting_columns.specs.Table as waiting
use Rattle.waiting_columns.proofs.Rows as waiting-rows
use Rattle.neighbor_queries.specs.declared.LinkStatus.{LinkStatus}
use Rattle.link_status.specs.declared.LinkStatusCommand.{LinkStatusCommand}
use Rattle.link_status.specs.declared.Tally.{Tally}
use Rattle.link_status.specs.Statuses.{costs_fit, statuses_of, worth, counted, tallied, is_live_at}
use Rattle.link_status.specs.Digest.{begun, finished, new_router, samples_of, tally_by, forever, digested_rows, admitted_rows, heard_rows}
use Rattle.link_status.proofs.Kept.{tallied-small, begun-small, finished-sound, finished-key, new-key, cost-of, new-sound}
use Rattle.link_status_lent.specs.Columns.{RowsLeft, refused_rows, left_rows, on_link_status_rows}
use Rattle.neighbors.specs.declared.Neighbors.{Neighbors}
use Rattle.neighbors.specs.State.{WellFormed, well_formed, rows, waits}
use Rattle.neighbor_calls.specs.declared.NwkOutcome.{NwkOutcome}
use Rattle.neighbor_calls.specs.LinkStatus.{on_link_status}
use Rattle.neighbors_kept.proofs.Fit.{found-in-range, found-sound, found-room, state-formed, rows_fit, waits-fit}

-- sums that fit a byte
record Bytes (x : Tally) : Type 0 where
  connectivity : x.connectivity < 256
  diversity : x.diversity < 256

-- a sum that stops at 255, or the one before
stops : (b : Bool) (x y : ℕ) → y < 256 → cond b (min x 255) y < 256
stops true x y h = omega arith
stops false x y h = h

counted-bytes : (own : Nwk) (live : Bool) (status : LinkStatus) (x : Tally) → Bytes x → Bytes (counted own live status x)
unfolding counted
counted-bytes own live status x h = record {
  connectivity = stops (ltb 0 status.outgoing_cost) (x.connectivity + worth status) x.connectivity h.connectivity;
  diversity = stops (ltb 0 status.outgoing_cost && not live) (x.diversity + worth status) x.diversity h.diversity;
}

tallied-bytes : (own : Nwk) (live : Nwk → Bool) (list : List LinkStatus) (x : Tally) → Bytes x → Bytes (tallied own live list x)
tallied-bytes own live [] x h = h
tallied-bytes own live (status ∷ rest) x h =
    tallied-bytes own live rest (counted own (live status.address) status x) (counted-bytes own (live status.address) status x h)

begun-bytes : (first : Bool) (e : NeighborEntry) → InRange e → Bytes (begun first e)
begun-bytes true e r = record { connectivity = omega arith; diversity = omega arith }
begun-bytes false e r = record { connectivity = r.counts.connectivity; diversity = r.counts.diversity }

finished-in-range : (now : ℕ) (x : Tally) (e : NeighborEntry) → x.cost ≤ 7 → Bytes x → InRange e → InRange (finished now x e)
unfolding finished
finished-in-range now x e c b r = record {
  link = record { samples = r.link.samples; cost = omega (arith, c) };
  counts = record {
    failures = r.counts.failures;
    connectivity = b.connectivity;
    diversity = b.diversity;
    outbound = r.counts.outbound;
    inbound = r.counts.inbound;
    security = r.counts.security;
  };
  beacon = r.beacon;
  transmitted = r.transmitted;
}

samples-in-range : (nwk : Nwk) (lqi : ℕ) → lqi < 256 → (ws : List WaitingEntry) → Each wait.InRange ws → word.InRange (samples_of nwk lqi ws)
samples-in-range nwk lqi b ws h = go (lookup waiting_key nwk.0 ws) refl where
  go : (o : Option WaitingEntry) → lookup waiting_key nwk.0 ws ≡ o → word.InRange (ring.after_push (ring_in o) lqi)
  go None q = push-in-range ring.fresh lqi b fresh-in-range
  go (Some e) q = push-in-range e.lqas lqi b (each-found waiting_key wait.InRange nwk.0 ws e h q)

new-in-range : (name : Eui64) (nwk : Nwk) (at now : ℕ) (samples : RingBuffer) → word.InRange samples → InRange (new_router name nwk at now samples)
unfolding new_router
new-in-range name nwk at now samples h = record {
  link = record { samples = h; cost = omega arith };
  counts = record {
    failures = omega arith;
    connectivity = omega arith;
    diversity = omega arith;
    outbound = omega arith;
    inbound = omega arith;
    security = omega arith;
  };
  beacon = omega arith;
  transmitted = omega arith;
}

-- rows of both tables that fit
pub record BothFit (x : RowsLeft) : Type 0 where
  pub neighbors : FitRows x.neighbors
  pub waiting : waiting.FitRows x.waiting

module _ (xs : List NeighborEntry) (ws : List WaitingEntry) (h : FitRows xs) (k : waiting.FitRows ws) (own nwk : Nwk) (command : LinkStatusCommand) (now : ℕ) where
  -- a refusal leaves them
  left : (r : Refusal) → BothFit (refused_rows xs ws r)
  left r = record { neighbors = h; waiting = k }

  module _ (small : every costs_fit (statuses_of command) ≡ true) where
    digested-fit : (e : NeighborEntry) → InRange e → is_sound e ≡ true → count_with neighbor_key (neighbor_key e) xs ≤ 64 → BothFit (digested_rows left_rows xs ws nwk now e (tally_by xs own command e))
    digested-fit e r sound room = record {
      neighbors =
          fit-put xs h (finished now x e) (finished-in-range now x e cheap bytes r) (finished-sound now x e cheap sound)
          (subst (λ (j : ℕ). count_with neighbor_key j xs ≤ 64) (sym (finished-key now x e)) room);
      waiting = waiting-rows.fit-remove ws k nwk.0;
    } where
      x : Tally
      x = tally_by xs own command e

      cheap : (tally_by xs own command e).cost ≤ 7
      cheap = tallied-small own (is_live_at xs) (statuses_of command) (begun command.is_first_frame e) small (begun-small command.is_first_frame e (cost-of e sound))

      bytes : Bytes (tally_by xs own command e)
      bytes = tallied-bytes own (is_live_at xs) (statuses_of command) (begun command.is_first_frame e) (begun-bytes command.is_first_frame e r)

    module _ (name : Eui64) (lqi : ℕ) (b : lqi < 256) where
      admitted-fit : (u : Option ℕ) → BothFit (admitted_rows (refused_rows xs ws) left_rows xs ws own name nwk lqi command now u)
      admitted-fit (Some at) =
          let e = new_router name nwk at now (samples_of nwk lqi ws) in
          by-test BothFit (leb (count_with neighbor_key name.0 xs) 64) (digested_rows left_rows xs ws nwk now e (tally_by xs own command e)) (refused_rows xs ws NeighborTableFull)
          (λ q. digested-fit e
          (new-in-range name nwk at now (samples_of nwk lqi ws) (samples-in-range nwk lqi b ws k.fits.ranged))
          (new-sound name nwk at now lqi ws k.sound)
          (subst (λ (j : ℕ). count_with neighbor_key j xs ≤ 64) (sym (new-key name nwk at now (samples_of nwk lqi ws))) (leb-true _ 64 q)))
          (left NeighborTableFull)
      admitted-fit None = left TimePastEnd

      heard-fit : BothFit (heard_rows (refused_rows xs ws) left_rows xs ws own name nwk lqi command now (lookup neighbor_key name.0 xs))
      heard-fit = go (lookup neighbor_key name.0 xs) refl where
        go : (o : Option NeighborEntry) → lookup neighbor_key name.0 xs ≡ o → BothFit (heard_rows (refused_rows xs ws) left_rows xs ws own name nwk lqi command now o)
        go None q = admitted-fit (time_sum now forever)
        go (Some e) q = digested-fit e (found-in-range xs h name.0 e q) (found-sound xs h name.0 e q) (found-room xs h name.0 e q)

  pub status-fit : (name : Eui64) (lqi : ℕ) → lqi < 256 → BothFit (on_link_status_rows xs ws own name nwk lqi command now)
  status-fit name lqi b = go (ltb 31 command.count) (every costs_fit (statuses_of command)) refl where
    go : (long fit : Bool) → every costs_fit (statuses_of command) ≡ fit
        → BothFit (cond {A = RowsLeft} long (refused_rows xs ws ListTooLong)
        (cond {A = RowsLeft} (not fit) (refused_rows xs ws LinkCostTooHigh)
        (heard_rows (refused_rows xs ws) left_rows xs ws own name nwk lqi command now (lookup neighbor_key name.0 xs))))
    go true fit e = left ListTooLong
    go false true e = heard-fit e name lqi b
    go false false e = left LinkCostTooHigh

pub on-link-status-kept : (s : Neighbors) → WellFormed s → (own : Nwk) (name : Eui64) (nwk : Nwk) (lqi : ℕ) (command : LinkStatusCommand) (now : ℕ) → lqi < 256
    → WellFormed (on_link_status s own name nwk lqi command now).state
unfolding on_link_status
on-link-status-kept s w own name nwk lqi command now b =
    by-test (λ (x : NwkOutcome). WellFormed x.state) (well_formed s) _ _
    (λ _. let f = status-fit (rows s) (waits s) (rows_fit s w) (waits-fit s w) own nwk command now name lqi b in
    state-formed x.neighbors x.waiting f.neighbors f.waiting) w where
      x : RowsLeft
      x = on_link_status_rows (rows s) (waits s) own name nwk lqi command now
