-- Every call about children leaves a well-formed state well formed: it leaves the rows, or makes a step on them that keeps them fit. A joining
-- child is sound and in range, since its cost, samples and counters are those that it had, or none.
use Rattle.std.specs.Prelude.{Option, Some, None}
use Prim.Native.Nat.{ℕ, ◌≤◌}
use native.Mathlib.Omega.{arith}
use mathlib.Core.List.{List}
use mathlib.Core.Path.{◌≡◌, refl, sym, subst}
use borrow.Author.Tests.{leb-true}
use lib.Dec.{leb}
use Rattle.types.specs.declared.Nwk.{Nwk}
use Rattle.types.specs.declared.Eui64.{Eui64}
use Rattle.types.specs.Clock.{time_sum}
use Rattle.standard.specs.Ordered.{lookup, put, remove, keep, count_with}
use Rattle.standard.proofs.Picked.{by-test}
use Rattle.ring_buffer.proofs.Word.{fresh-in-range}
use Rattle.neighbor_table.specs.declared.NeighborEntry.{NeighborEntry}
use Rattle.neighbor_table.specs.Entry.{neighbor_key, is_child_of}
use Rattle.neighbor_columns.specs.Codec.{InRange}
use Rattle.neighbor_columns.specs.Table.{FitRows}
use Rattle.neighbor_columns.proofs.Rows.{fit-put, fit-remove, fit-keep}
use Rattle.neighbor_queries.specs.declared.Filter.TheVariants.{EndDeviceChildAt, TimedOut}
use Rattle.neighbor_queries.specs.Filter.{fits}
use Rattle.neighbor_changes.specs.declared.Change.TheVariants.{Keepalive, Timeout}
use Rattle.neighbor_changes.specs.Change.{misses}
use Rattle.children.specs.declared.ChildDescriptor.{ChildDescriptor}
use Rattle.children.specs.Known.{known}
use Rattle.children.specs.Attach.{start_in, attached}
use Rattle.children.proofs.Found.{known-there, start-key}
use Rattle.children.proofs.Kept.{start-sound, attached-sound}
use Rattle.children_lent.specs.Rules as deadlines
use Rattle.children_moves_lent.specs.Rules as moves
use Rattle.neighbors.specs.declared.Neighbors.{Neighbors}
use Rattle.neighbors.specs.declared.Outcome.{Outcome}
use Rattle.neighbors.specs.State.{WellFormed, well_formed, rows}
use Rattle.neighbor_calls.specs.declared.TruthOutcome.{TruthOutcome}
use Rattle.neighbor_calls.specs.declared.NwkOutcome.{NwkOutcome}
use Rattle.neighbor_calls.specs.declared.Removal.{Removal}
use Rattle.neighbor_calls.specs.Children.{refresh_child_timeout, set_child_timeout, take_child, evict_timed_out_children, upsert_child}
use Rattle.neighbors_kept.proofs.Fit.{found-in-range, found-sound, fit-back, fit-change-first, rows_fit, rows-formed}

-- an entry to start from: the one that was found, or one with nothing in its fields
start-in-range : (o : Option NeighborEntry) (eui64 : Eui64) (now : ℕ) → ((e : NeighborEntry) → o ≡ Some e → InRange e) → InRange (start_in o eui64 now)
start-in-range None eui64 now h = record {
  link = record { samples = fresh-in-range; cost = omega arith };
  counts = record {
    failures = omega arith;
    connectivity = omega arith;
    diversity = omega arith;
    outbound = omega arith;
    inbound = omega arith;
    security = omega arith;
  };
  beacon = omega arith;
  transmitted = omega arith;
}
start-in-range (Some e) eui64 now h = h e refl

attached-in-range : (child : ChildDescriptor) (at : ℕ) (e : NeighborEntry) → InRange e → InRange (attached child at e)
attached-in-range child at e r = record {
  link = record { samples = r.link.samples; cost = r.link.cost };
  counts = r.counts;
  beacon = r.beacon;
  transmitted = r.transmitted;
}

-- the rules on rows
module _ (xs : List NeighborEntry) (h : FitRows xs) where
  pub refreshed-fit : (m : Option Eui64) (n : Option Nwk) (now : ℕ) → FitRows (deadlines.refresh_child_timeout m n now xs)
  refreshed-fit m n now = go (known m n xs) refl where
    by : (e : NeighborEntry) → lookup neighbor_key (neighbor_key e) xs ≡ Some e → (u : Option ℕ) → FitRows (deadlines.kept_by e u xs)
    by e l (Some t) = fit-back xs h (Keepalive t) tt (neighbor_key e) e l
    by e l None = h

    go : (o : Option NeighborEntry) → known m n xs ≡ o → FitRows (deadlines.refreshed now o xs)
    go None q = h
    go (Some e) q = by e (known-there xs h.fits.fit.ascending m n e q) (time_sum now e.device_timeout)

  pub retimed-fit : (nwk : Nwk) (timeout configuration now : ℕ) → FitRows (deadlines.set_child_timeout nwk timeout configuration now xs)
  retimed-fit nwk timeout configuration now = by (time_sum now timeout) where
    by : (u : Option ℕ) → FitRows (deadlines.retimed nwk timeout configuration u xs)
    by (Some t) = fit-change-first xs h (Timeout timeout configuration t) tt (fits (EndDeviceChildAt nwk))
    by None = h

  pub taken-fit : (eui64 : Eui64) → FitRows (moves.take_child eui64 xs)
  taken-fit eui64 = go (lookup neighbor_key eui64.0 xs) where
    go : (o : Option NeighborEntry) → FitRows (moves.taken eui64 o xs)
    go None = h
    go (Some e) = by-test FitRows (is_child_of e.relationship) (remove neighbor_key eui64.0 xs) xs (λ _. fit-remove xs h eui64.0) h

  pub upserted-fit : (child : ChildDescriptor) (now : ℕ) → FitRows (moves.upsert_child child now xs)
  upserted-fit child now = by (time_sum now child.device_timeout) where
    begun : NeighborEntry
    begun = start_in (lookup neighbor_key child.eui64.0 xs) child.eui64 now

    put_fit : (at : ℕ) → count_with neighbor_key child.eui64.0 xs ≤ 64 → FitRows (put neighbor_key (attached child at begun) xs)
    put_fit at room =
        fit-put xs h (attached child at begun)
        (attached-in-range child at begun (start-in-range (lookup neighbor_key child.eui64.0 xs) child.eui64 now (found-in-range xs h child.eui64.0)))
        (attached-sound child at begun (start-sound (lookup neighbor_key child.eui64.0 xs) child.eui64 now (found-sound xs h child.eui64.0)))
        (subst (λ (k : ℕ). count_with neighbor_key k xs ≤ 64) (sym (start-key child.eui64 now xs)) room)

    by : (u : Option ℕ) → FitRows (moves.upserted child now u xs)
    by (Some at) =
        by-test FitRows (leb (count_with neighbor_key child.eui64.0 xs) 64) (put neighbor_key (attached child at begun) xs) xs
        (λ e. put_fit at (leb-true _ 64 e)) h
    by None = h

-- the exported calls
module _ (s : Neighbors) (w : WellFormed s) where
  pub refresh-child-timeout-kept : (m : Option Eui64) (n : Option Nwk) (now : ℕ) → WellFormed (refresh_child_timeout s m n now).state
  unfolding refresh_child_timeout
  refresh-child-timeout-kept m n now =
      by-test (λ (x : TruthOutcome). WellFormed x.state) (well_formed s) _ _
      (λ _. rows-formed s w (deadlines.refresh_child_timeout m n now (rows s)) (refreshed-fit (rows s) (rows_fit s w) m n now)) w

  pub set-child-timeout-kept : (nwk : Nwk) (timeout configuration now : ℕ) → WellFormed (set_child_timeout s nwk timeout configuration now).state
  unfolding set_child_timeout
  set-child-timeout-kept nwk timeout configuration now =
      by-test (λ (x : TruthOutcome). WellFormed x.state) (well_formed s) _ _
      (λ _. rows-formed s w (deadlines.set_child_timeout nwk timeout configuration now (rows s)) (retimed-fit (rows s) (rows_fit s w) nwk timeout configuration now)) w

  pub take-child-kept : (eui64 : Eui64) → WellFormed (take_child s eui64).state
  unfolding take_child
  take-child-kept eui64 =
      by-test (λ (x : NwkOutcome). WellFormed x.state) (well_formed s) _ _
      (λ _. rows-formed s w (moves.take_child eui64 (rows s)) (taken-fit (rows s) (rows_fit s w) eui64)) w

  pub evict-timed-out-children-kept : (now : ℕ) → WellFormed (evict_timed_out_children s now).state
  unfolding evict_timed_out_children
  evict-timed-out-children-kept now =
      by-test (λ (x : Removal). WellFormed x.state) (well_formed s) _ _
      (λ _. rows-formed s w (keep (misses (TimedOut now)) (rows s)) (fit-keep (rows s) (rows_fit s w) (misses (TimedOut now)))) w

  pub upsert-child-kept : (child : ChildDescriptor) (now : ℕ) → WellFormed (upsert_child s child now).state
  unfolding upsert_child
  upsert-child-kept child now =
      by-test (λ (x : Outcome). WellFormed x.state) (well_formed s) _ _
      (λ _. rows-formed s w (moves.upsert_child child now (rows s)) (upserted-fit (rows s) (rows_fit s w) child now)) w
