-- The fresh state is well formed, and every change of neighbours leaves a well-formed state well formed: each is a step on the neighbours' rows that
-- keeps them fit, and the waiting samples stay as they were. The count of end device children is the number of rows that are such.
use Rattle.std.specs.Prelude.{Ok}
use mathlib.Core.Bool.{cond}
use mathlib.Core.List.{List, []}
use mathlib.Core.Path.{◌≡◌, ap}
use lib.ListN.{length}
use Rattle.types.specs.declared.Nwk.{Nwk}
use Rattle.types.specs.declared.Eui64.{Eui64}
use Rattle.types.specs.declared.Refusal.TheVariants.{StateIllFormed}
use Rattle.standard.specs.Ordered.{keep}
use Rattle.standard.proofs.Picked.{by-test}
use Rattle.flat_map.proofs.Query.{count_kept}
use Rattle.neighbor_table.specs.declared.NeighborEntry.{NeighborEntry}
use Rattle.neighbor_columns.specs.Table.{FitRows}
use Rattle.neighbor_columns.proofs.Rows.{fit_none, fit-remove}
use Rattle.waiting_columns.proofs.Rows as waiting
use Rattle.neighbor_queries.specs.declared.Filter.TheVariants.{Address, EndDeviceChild}
use Rattle.neighbor_queries.specs.Filter.{fits}
use Rattle.neighbor_changes.specs.declared.Change.{Change}
use Rattle.neighbor_changes.specs.declared.Change.TheVariants as changes
use Rattle.neighbor_changes.specs.Rules.{changed_at}
use Rattle.neighbors.specs.declared.Neighbors.{Neighbors}
use Rattle.neighbors.specs.declared.Outcome.{Outcome}
use Rattle.neighbors.specs.State.{WellFormed, well_formed, rows, fresh, done_with}
use Rattle.neighbors.specs.Queries.{end_device_child_count}
use Rattle.neighbors.specs.Changes.{refused, update_network_address, remove, record_outbound_activity, record_inbound_activity, record_transmit_failure, reset_transmit_failures}
use Rattle.neighbors.proofs.State.{state-told}
use Rattle.neighbors_kept.proofs.Fit.{Small, fit-forgiven, fit-change-at, fit-change-first, state-formed, rows_fit, rows-formed}

pub fresh-formed : WellFormed fresh
fresh-formed = state-formed [] [] fit_none waiting.fit_none

module _ (s : Neighbors) (w : WellFormed s) where
  -- a call that is done with rows that fit
  done-kept : (xs : List NeighborEntry) → FitRows xs → WellFormed (cond {A = Outcome} (well_formed s) (done_with s xs) (refused s StateIllFormed)).state
  done-kept xs h = by-test (λ (x : Outcome). WellFormed x.state) (well_formed s) (done_with s xs) (refused s StateIllFormed) (λ _. rows-formed s w xs h) w

  -- a change of the neighbour with an extended address
  changed-kept : (change : Change) → Small change → (eui64 : Eui64) → WellFormed (cond {A = Outcome} (well_formed s) (done_with s (changed_at change eui64 (rows s))) (refused s StateIllFormed)).state
  changed-kept change b eui64 = done-kept (changed_at change eui64 (rows s)) (fit-change-at (rows s) (rows_fit s w) change b eui64.0)

  pub update-network-address-kept : (eui64 : Eui64) (nwk : Nwk) → WellFormed (update_network_address s eui64 nwk).state
  unfolding update_network_address
  update-network-address-kept eui64 nwk = changed-kept (changes.Address nwk) tt eui64

  pub remove-kept : (eui64 : Eui64) → WellFormed (remove s eui64).state
  unfolding remove
  remove-kept eui64 = done-kept _ (fit-remove (rows s) (rows_fit s w) eui64.0)

  pub record-outbound-activity-kept : (eui64 : Eui64) → WellFormed (record_outbound_activity s eui64).state
  unfolding record_outbound_activity
  record-outbound-activity-kept eui64 = changed-kept changes.Outbound tt eui64

  pub record-inbound-activity-kept : (nwk : Nwk) → WellFormed (record_inbound_activity s nwk).state
  unfolding record_inbound_activity
  record-inbound-activity-kept nwk = done-kept _ (fit-change-first (rows s) (rows_fit s w) changes.Inbound tt (fits (Address nwk)))

  pub record-transmit-failure-kept : (eui64 : Eui64) → WellFormed (record_transmit_failure s eui64).state
  unfolding record_transmit_failure
  record-transmit-failure-kept eui64 = changed-kept changes.Failure tt eui64

  pub reset-transmit-failures-kept : WellFormed (reset_transmit_failures s).state
  unfolding reset_transmit_failures
  reset-transmit-failures-kept = done-kept _ (fit-forgiven (rows s) (rows_fit s w))

  -- the count of end device children is the number of rows that are such
  pub child-count : end_device_child_count s ≡ Ok (length (keep (fits EndDeviceChild) (rows s)))
  unfolding end_device_child_count
  child-count = rw ((state-told s).flag w) (ap Ok (count_kept (fits EndDeviceChild) (rows s)))
