-- A sample leaves a well-formed state well formed: a neighbour with one more sample is sound and in range, and so are samples that wait, for which
-- the lowest address makes room.
use Rattle.std.specs.Prelude.{Option, Some, None}
use Prim.Native.Nat.{ℕ, ◌<◌}
use mathlib.Core.List.{List}
use mathlib.Core.Path.{◌≡◌, refl}
use lib.Dec.{leb}
use Rattle.types.specs.declared.Nwk.{Nwk}
use Rattle.standard.specs.Ordered.{lookup, pop_first, count_with}
use Rattle.standard.specs.Query.{first}
use Rattle.standard.proofs.Picked.{by-test}
use Rattle.flat_map.proofs.Mapped.{each-found}
use Rattle.ring_buffer.specs.Ring.{fresh}
use Rattle.ring_buffer.proofs.Word.{fresh-in-range, push-in-range}
use Rattle.neighbor_table.specs.declared.NeighborEntry.{NeighborEntry}
use Rattle.waiting_table.specs.declared.WaitingEntry.{WaitingEntry}
use Rattle.waiting_table.specs.Entry.{waiting_key}
use Rattle.waiting_columns.specs.Codec.{InRange}
use Rattle.waiting_columns.specs.Table.{FitRows}
use Rattle.waiting_columns.proofs.Rows.{fit-put, fit-pop}
use Rattle.neighbor_queries.specs.declared.Filter.TheVariants.{Address}
use Rattle.neighbor_queries.specs.Filter.{fits}
use Rattle.neighbor_changes.specs.declared.Change.TheVariants.{Sample}
use Rattle.link_quality.specs.Rules.{room_for, one_more, waiting_after, waiting_unless, record_sample, record_waiting}
use Rattle.link_quality.proofs.Rows.{room-made, more-sound}
use Rattle.neighbors.specs.declared.Neighbors.{Neighbors}
use Rattle.neighbors.specs.declared.Outcome.{Outcome}
use Rattle.neighbors.specs.State.{WellFormed, well_formed, rows, waits}
use Rattle.neighbor_calls.specs.Samples.{record_lqa}
use Rattle.neighbors_kept.proofs.Fit.{fit-change-first, state-formed, rows_fit, waits-fit}

module _ (nwk : Nwk) (lqi : ℕ) (b : lqi < 256) (ws : List WaitingEntry) (h : FitRows ws) where
  room-fit : FitRows (room_for nwk ws)
  room-fit = by-test FitRows (leb (count_with waiting_key nwk.0 ws) 64) ws (pop_first ws) (λ _. h) (fit-pop ws h)

  more-in-range : InRange (one_more (lookup waiting_key nwk.0 (room_for nwk ws)) nwk lqi)
  more-in-range = go (lookup waiting_key nwk.0 (room_for nwk ws)) refl where
    go : (o : Option WaitingEntry) → lookup waiting_key nwk.0 (room_for nwk ws) ≡ o → InRange (one_more o nwk lqi)
    go None q = push-in-range fresh lqi b fresh-in-range
    go (Some e) q = push-in-range e.lqas lqi b (each-found waiting_key InRange nwk.0 (room_for nwk ws) e room-fit.fits.ranged q)

  after-fit : FitRows (waiting_after nwk lqi ws)
  after-fit =
      fit-put (room_for nwk ws) room-fit (one_more (lookup waiting_key nwk.0 (room_for nwk ws)) nwk lqi) more-in-range
      (more-sound nwk ws lqi h.sound) (room-made nwk ws h.fits.fit.small)

  -- by the neighbour that has the address, if there is one
  pub unless-fit : (o : Option NeighborEntry) → FitRows (waiting_unless o nwk lqi ws)
  unless-fit None = after-fit
  unless-fit (Some e) = h

pub record-lqa-kept : (s : Neighbors) → WellFormed s → (nwk : Nwk) (lqi : ℕ) → lqi < 256 → WellFormed (record_lqa s nwk lqi).state
unfolding record_lqa
record-lqa-kept s w nwk lqi b =
    by-test (λ (x : Outcome). WellFormed x.state) (well_formed s) _ _
    (λ _. state-formed (record_sample nwk lqi (rows s)) (record_waiting nwk lqi (rows s) (waits s))
    (fit-change-first (rows s) (rows_fit s w) (Sample lqi) b (fits (Address nwk)))
    (unless-fit nwk lqi b (waits s) (waits-fit s w) (first (fits (Address nwk)) (rows s)))) w
