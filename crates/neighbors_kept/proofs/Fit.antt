-- Rows that fit and are in range stay so when one that was found is changed and put back: it stands under its key, so there is a place for it, and
-- a change writes only what is within its width, since counters stop at 255 and a sample is a byte. So a state with such rows is well formed.
use Rattle.std.specs.Prelude.{Option, Some, None}
use Prim.Native.Nat.{ℕ, ◌<◌, ◌≤◌}
use native.Mathlib.Omega.{arith}
use mathlib.Core.Bool.{Bool, true}
use mathlib.Core.List.{List, map}
use mathlib.Core.Path.{◌≡◌, refl, sym, subst}
use Rattle.standard.specs.Ordered.{lookup, put, count_with}
use Rattle.standard.specs.Query.{first}
use Rattle.standard.specs.Rows.{put_back}
use Rattle.flat_map.proofs.Every.{every-lookup}
use Rattle.flat_map.proofs.Filter.{first-lookup}
use Rattle.flat_map.proofs.Fits.{room-known}
use Rattle.flat_map.proofs.Mapped.{each-found}
use Rattle.flat_map.proofs.Ordered.{lookup_key}
use Rattle.ring_buffer.proofs.Word.{push-in-range}
use Rattle.neighbor_table.specs.declared.NeighborEntry.{NeighborEntry}
use Rattle.neighbor_table.specs.Entry.{neighbor_key, blank_neighbor, is_sound}
use Rattle.neighbor_columns.specs.Codec.{InRange}
use Rattle.neighbor_columns.specs.Table.{FitRows}
use Rattle.neighbor_columns.proofs.Rows.{table-fit, table-formed, fit-put, fit-map}
use Rattle.waiting_table.specs.declared.WaitingEntry.{WaitingEntry}
use Rattle.waiting_columns.specs.Table as waiting
use Rattle.waiting_columns.proofs.Rows as waiting-rows
use Rattle.neighbor_changes.specs.declared.Change.{Change}
use Rattle.neighbor_changes.specs.declared.Change.TheVariants.{Sample, Outbound, Inbound, Failure, Address, Keepalive, Timeout}
use Rattle.neighbor_changes.specs.Change.{applied, forgiven}
use Rattle.neighbor_changes.proofs.Kept.{same_key, still-sound, forgiven-key, forgiven-sound}
use Rattle.neighbors.specs.declared.Neighbors.{Neighbors}
use Rattle.neighbors.specs.State.{WellFormed, table_in, waiting_in, rows, waits, state_of, with_rows}

-- what a change is handed is within its width: a sample is a byte
abbrev pub Small : Change → Type 0
Small (Sample lqi) = lqi < 256
Small Outbound = Unit {0}
Small Inbound = Unit {0}
Small Failure = Unit {0}
Small (Address nwk) = Unit {0}
Small (Keepalive at) = Unit {0}
Small (Timeout period configuration at) = Unit {0}

pub changed-in-range : (change : Change) → Small change → (e : NeighborEntry) → InRange e → InRange (applied change e)
unfolding applied
changed-in-range (Sample lqi) b e r = record {
  link = record { samples = push-in-range e.lqas lqi b r.link.samples; cost = r.link.cost };
  counts = r.counts;
  beacon = r.beacon;
  transmitted = r.transmitted;
}
changed-in-range Outbound b e r = record {
  link = r.link;
  counts = record {
    failures = r.counts.failures;
    connectivity = r.counts.connectivity;
    diversity = r.counts.diversity;
    outbound = omega arith;
    inbound = r.counts.inbound;
    security = r.counts.security;
  };
  beacon = r.beacon;
  transmitted = r.transmitted;
}
changed-in-range Inbound b e r = record {
  link = r.link;
  counts = record {
    failures = r.counts.failures;
    connectivity = r.counts.connectivity;
    diversity = r.counts.diversity;
    outbound = r.counts.outbound;
    inbound = omega arith;
    security = r.counts.security;
  };
  beacon = r.beacon;
  transmitted = r.transmitted;
}
changed-in-range Failure b e r = record {
  link = r.link;
  counts = record {
    failures = omega arith;
    connectivity = r.counts.connectivity;
    diversity = r.counts.diversity;
    outbound = r.counts.outbound;
    inbound = r.counts.inbound;
    security = r.counts.security;
  };
  beacon = r.beacon;
  transmitted = r.transmitted;
}
changed-in-range (Address nwk) b e r = record { link = r.link; counts = r.counts; beacon = r.beacon; transmitted = r.transmitted }
changed-in-range (Keepalive at) b e r = record {
  link = record { samples = r.link.samples; cost = r.link.cost };
  counts = r.counts;
  beacon = r.beacon;
  transmitted = r.transmitted;
}
changed-in-range (Timeout period configuration at) b e r = record {
  link = record { samples = r.link.samples; cost = r.link.cost };
  counts = record {
    failures = r.counts.failures;
    connectivity = r.counts.connectivity;
    diversity = r.counts.diversity;
    outbound = r.counts.outbound;
    inbound = r.counts.inbound;
    security = r.counts.security;
  };
  beacon = r.beacon;
  transmitted = r.transmitted;
}

forgiven-in-range : (e : NeighborEntry) → InRange e → InRange (forgiven e)
forgiven-in-range e r = record {
  link = r.link;
  counts = record {
    failures = omega arith;
    connectivity = r.counts.connectivity;
    diversity = r.counts.diversity;
    outbound = r.counts.outbound;
    inbound = r.counts.inbound;
    security = r.counts.security;
  };
  beacon = r.beacon;
  transmitted = r.transmitted;
}

module _ (xs : List NeighborEntry) (h : FitRows xs) where
  -- a row that is found is in range and sound, and has its place
  pub found-in-range : (k : ℕ) (e : NeighborEntry) → lookup neighbor_key k xs ≡ Some e → InRange e
  found-in-range k e l = each-found neighbor_key InRange k xs e h.fits.ranged l

  pub found-sound : (k : ℕ) (e : NeighborEntry) → lookup neighbor_key k xs ≡ Some e → is_sound e ≡ true
  found-sound k e l = every-lookup is_sound neighbor_key k xs e h.sound l

  pub found-room : (k : ℕ) (e : NeighborEntry) → lookup neighbor_key k xs ≡ Some e → count_with neighbor_key (neighbor_key e) xs ≤ 64
  found-room k e l =
      subst (λ (j : ℕ). count_with neighbor_key j xs ≤ 64) (sym (lookup_key neighbor_key k xs e l)) (room-known 64 neighbor_key blank_neighbor xs h.fits.fit k e l)

  pub fit-forgiven : FitRows (map forgiven xs)
  fit-forgiven = fit-map xs h forgiven forgiven-key forgiven-in-range forgiven-sound

  -- changed and put back
  module _ (change : Change) (b : Small change) where
    pub fit-back : (k : ℕ) (e : NeighborEntry) → lookup neighbor_key k xs ≡ Some e → FitRows (put neighbor_key (applied change e) xs)
    fit-back k e l =
        fit-put xs h (applied change e) (changed-in-range change b e (found-in-range k e l)) (still-sound change e (found-sound k e l))
        (subst (λ (j : ℕ). count_with neighbor_key j xs ≤ 64) (sym (same_key change e)) (found-room k e l))

    pub fit-change-at : (k : ℕ) → FitRows (put_back neighbor_key (applied change) (lookup neighbor_key k xs) xs)
    fit-change-at k = go (lookup neighbor_key k xs) refl where
      go : (o : Option NeighborEntry) → lookup neighbor_key k xs ≡ o → FitRows (put_back neighbor_key (applied change) o xs)
      go None q = h
      go (Some e) q = fit-back k e q

    pub fit-change-first : (fits : NeighborEntry → Bool) → FitRows (put_back neighbor_key (applied change) (first fits xs) xs)
    fit-change-first fits = go (first fits xs) refl where
      go : (o : Option NeighborEntry) → first fits xs ≡ o → FitRows (put_back neighbor_key (applied change) o xs)
      go None q = h
      go (Some e) q = fit-back (neighbor_key e) e (first-lookup neighbor_key fits xs e h.fits.fit.ascending q)

-- the state of rows that fit is well formed
pub state-formed : (xs : List NeighborEntry) (ws : List WaitingEntry) → FitRows xs → waiting.FitRows ws → WellFormed (state_of xs ws)
state-formed xs ws h k = record { table = table-formed xs h; pending = waiting-rows.table-formed ws k }

module _ (s : Neighbors) (w : WellFormed s) where
  pub rows_fit : FitRows (rows s)
  rows_fit = table-fit (table_in s) w.table

  pub waits-fit : waiting.FitRows (waits s)
  waits-fit = waiting-rows.table-fit (waiting_in s) w.pending

  pub rows-formed : (xs : List NeighborEntry) → FitRows xs → WellFormed (with_rows s xs)
  rows-formed xs h = record { table = table-formed xs h; pending = w.pending }
