-- A list gone through leaves a well-formed state well formed, since each address leaves the rows or takes one out; a list that is too long leaves them.
use Rattle.std.specs.Prelude.{Option, Some, None}
use mathlib.Core.Bool.{Bool, true, false, ◌&&◌}
use mathlib.Core.List.{List, [], ◌∷◌}
use lib.Dec.{ltb}
use lib.ListN.{take}
use Rattle.types.specs.declared.Eui64.{Eui64}
use Rattle.standard.specs.Ordered.{lookup}
use Rattle.standard.proofs.Picked.{by-test}
use Rattle.neighbor_table.specs.declared.NeighborEntry.{NeighborEntry}
use Rattle.neighbor_table.specs.Entry.{neighbor_key, is_end_device}
use Rattle.neighbor_columns.specs.Table.{FitRows}
use Rattle.neighbor_columns.proofs.Rows.{fit-remove}
use Rattle.neighbor_queries.specs.declared.Eui64List.{Eui64List}
use Rattle.parent_annce.specs.Settle.{Settling, claim, drop_one, settle_in, settle_one, settle_all, start}
use Rattle.parent_annce.specs.Rules.{settled_by}
use Rattle.neighbors.specs.declared.Neighbors.{Neighbors}
use Rattle.neighbors.specs.State.{WellFormed, well_formed, rows}
use Rattle.neighbor_calls.specs.declared.Removal.{Removal}
use Rattle.neighbor_calls.specs.declared.Announced.{Announced}
use Rattle.neighbor_calls.specs.Announcements.{remove_claimed_children, process_parent_annce}
use Rattle.neighbors_kept.proofs.Fit.{rows_fit, rows-formed}

abbrev Fit : Settling → Type 0
Fit x = FitRows x.rows

module _ (confirm : Bool) where
  step-fit : (eui64 : Eui64) (x : Settling) → Fit x → Fit (settle_one confirm eui64 x)
  unfolding settle_one
  step-fit eui64 x h = go (lookup neighbor_key eui64.0 x.rows) where
    go : (o : Option NeighborEntry) → Fit (settle_in confirm eui64 o x)
    go None = h
    go (Some e) =
        by-test Fit (is_end_device e.device_type) _ x
        (λ _. by-test Fit (confirm && e.keepalive_received) (claim eui64 x) (drop_one eui64 e x) (λ _. h) (fit-remove x.rows h eui64.0)) h

  all_fit : (list : List Eui64) (x : Settling) → Fit x → Fit (settle_all confirm list x)
  all_fit [] x h = h
  all_fit (a ∷ rest) x h = all_fit rest (settle_one confirm a x) (step-fit a x h)

  pub settled-fit : (list : Eui64List) (xs : List NeighborEntry) → FitRows xs → Fit (settled_by confirm list xs)
  settled-fit list xs h = by-test Fit (ltb 64 list.count) (start xs) (settle_all confirm (take list.count list.addresses) (start xs)) (λ _. h)
      (all_fit (take list.count list.addresses) (start xs) h)

module _ (s : Neighbors) (w : WellFormed s) (list : Eui64List) where
  pub remove-claimed-children-kept : WellFormed (remove_claimed_children s list).state
  unfolding remove_claimed_children
  remove-claimed-children-kept =
      by-test (λ (x : Removal). WellFormed x.state) (well_formed s) _ _
      (λ _. rows-formed s w (settled_by false list (rows s)).rows (settled-fit false list (rows s) (rows_fit s w))) w

  pub process-parent-annce-kept : WellFormed (process_parent_annce s list).state
  unfolding process_parent_annce
  process-parent-annce-kept =
      by-test (λ (x : Announced). WellFormed x.state) (well_formed s) _ _
      (λ _. rows-formed s w (settled_by true list (rows s)).rows (settled-fit true list (rows s) (rows_fit s w))) w
