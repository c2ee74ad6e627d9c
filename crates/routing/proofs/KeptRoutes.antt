-- The calls that change the route table alone, and the trigger counters, leave a well-formed state well formed:
-- the other tables are as they were, and the routes that a call leaves fit the route table.
use Prim.Native.Nat.{ℕ, ◌<◌}
use mathlib.Core.Bool.{cond}
use mathlib.Core.List.{List}
use Rattle.types.specs.declared.Nwk.{Nwk}
use Rattle.standard.specs.declared.RouteEntry.{RouteEntry}
use Rattle.standard.specs.Route.{decayed, unlinked}
use Rattle.route_table.specs.Table.{Fits}
use Rattle.route_table.proofs.Rows.{table-fit, table-formed, fits-map, decayed-key, unlinked-key, decayed-in-range, unlinked-in-range}
use Rattle.route_calls.proofs.Fits.{mark-discovery-failed-fits, record-usage-fits, note-source-routed-frame-fits, remove-route-fits, restore-route-fits, note-relayed-discovery-fits}
use Rattle.routing.specs.declared.Routing.{Routing}
use Rattle.routing.specs.declared.DoneOutcome.{DoneOutcome}
use Rattle.routing.specs.declared.ToldOutcome.{ToldOutcome}
use Rattle.routing.specs.Queries.{note_route_error, note_delivery_failure, reset_mtorr_triggers}
use Rattle.routing.specs.Routes.{routes_in, with_routes, mark_discovery_failed, record_usage, note_source_routed_frame, decay_activity, invalidate_via, restore_route, note_relayed_discovery, remove_route}
use Rattle.routing.specs.State.{WellFormed, well_formed, route_table}
use Rattle.standard.proofs.Picked.{by-test}

module _ (s : Routing) (w : WellFormed s) where
  fit : Fits (routes_in s)
  fit = table-fit (route_table s) w.routes

  put_in : (xs : List RouteEntry) → Fits xs → WellFormed (with_routes s xs)
  put_in xs f = record { routes = table-formed xs f; discoveries = w.discoveries; records = w.records }

  done : (x y : DoneOutcome) → WellFormed x.state → WellFormed y.state → WellFormed (cond (well_formed s) x y).state
  done x y p q = by-test (λ (z : DoneOutcome). WellFormed z.state) (well_formed s) x y (λ _. p) q

  told : (x y : ToldOutcome) → WellFormed x.state → WellFormed y.state → WellFormed (cond (well_formed s) x y).state
  told x y p q = by-test (λ (z : ToldOutcome). WellFormed z.state) (well_formed s) x y (λ _. p) q

  pub mark-discovery-failed-kept : (d : Nwk) → WellFormed (mark_discovery_failed s d).state
  unfolding mark_discovery_failed
  mark-discovery-failed-kept d = done _ _ (put_in _ (mark-discovery-failed-fits (routes_in s) fit d.0)) w

  pub record-usage-kept : (d : Nwk) → WellFormed (record_usage s d).state
  unfolding record_usage
  record-usage-kept d = done _ _ (put_in _ (record-usage-fits (routes_in s) fit d.0)) w

  pub note-source-routed-frame-kept : (d : Nwk) → WellFormed (note_source_routed_frame s d).state
  unfolding note_source_routed_frame
  note-source-routed-frame-kept d = done _ _ (put_in _ (note-source-routed-frame-fits (routes_in s) fit d.0)) w

  pub decay-activity-kept : WellFormed (decay_activity s).state
  unfolding decay_activity
  decay-activity-kept = done _ _ (put_in _ (fits-map (routes_in s) fit decayed decayed-key decayed-in-range)) w

  pub invalidate-via-kept : (hop : Nwk) → WellFormed (invalidate_via s hop).state
  unfolding invalidate_via
  invalidate-via-kept hop = done _ _ (put_in _ (fits-map (routes_in s) fit (unlinked hop) (unlinked-key hop) (unlinked-in-range hop))) w

  pub restore-route-kept : (d hop : Nwk) (cost : ℕ) → hop.0 < 65536 → cost < 256 → WellFormed (restore_route s d hop cost).state
  unfolding restore_route
  restore-route-kept d hop cost h c = done _ _ (put_in _ (restore-route-fits (routes_in s) fit d hop cost h c)) w

  pub note-relayed-discovery-kept : (d : Nwk) → WellFormed (note_relayed_discovery s d).state
  unfolding note_relayed_discovery
  note-relayed-discovery-kept d = done _ _ (put_in _ (note-relayed-discovery-fits (routes_in s) fit d)) w

  pub remove-route-kept : (d : Nwk) → WellFormed (remove_route s d).state
  unfolding remove_route
  remove-route-kept d = told _ _ (put_in _ (remove-route-fits (routes_in s) fit d.0)) w

  -- the counters are no part of well-formedness
  pub note-route-error-kept : (threshold : ℕ) → WellFormed (note_route_error s threshold).state
  unfolding note_route_error
  note-route-error-kept threshold = told _ _ (record { routes = w.routes; discoveries = w.discoveries; records = w.records }) w

  pub note-delivery-failure-kept : (threshold : ℕ) → WellFormed (note_delivery_failure s threshold).state
  unfolding note_delivery_failure
  note-delivery-failure-kept threshold = told _ _ (record { routes = w.routes; discoveries = w.discoveries; records = w.records }) w

  pub reset-mtorr-triggers-kept : WellFormed (reset_mtorr_triggers s).state
  unfolding reset_mtorr_triggers
  reset-mtorr-triggers-kept = done _ _ (record { routes = w.routes; discoveries = w.discoveries; records = w.records }) w
