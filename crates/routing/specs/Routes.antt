-- The exported calls that change the route table alone: refusal 10 for a state that is not well formed, else the call on the rows, put back.
-- Document 01, "Route rules" and "Refusal numbers".
-- Assumes nothing.
use Rattle.std.specs.Prelude.{ℕ, cond, List, map, Ok, Err}
use Rattle.types.specs.declared.Nwk.{Nwk}
use Rattle.types.specs.declared.Refusal.{Refusal}
use Rattle.types.specs.declared.Refusal.TheVariants.{StateIllFormed}
use Rattle.standard.specs.declared.RouteEntry.{RouteEntry}
use Rattle.standard.specs.declared.Status.TheVariants.{DiscoveryFailed}
use Rattle.standard.specs.Calls as calls
use Rattle.standard.specs.Calls.{change_route, note_relayed, has_route}
use Rattle.standard.specs.Ordered.{remove}
use Rattle.standard.specs.Route.{route_key, with_status, used, record_known, decayed, unlinked}
use Rattle.route_table.specs.Table.{rows_of, table_of}
use Rattle.route_calls.specs.Answer.{RouteStep, step_to}
use Rattle.routing.specs.declared.Routing.{Routing}
use Rattle.routing.specs.declared.DoneOutcome.{DoneOutcome}
use Rattle.routing.specs.declared.ToldOutcome.{ToldOutcome}
use Rattle.routing.specs.State.{well_formed, route_table, discovery_table, record_table, with_tables}

-- the routes of a state, and the state with routes in their place
abbrev pub routes_in : Routing → List RouteEntry
routes_in s = rows_of (route_table s)

abbrev pub with_routes : Routing → List RouteEntry → Routing
with_routes s xs = with_tables s (table_of xs) (discovery_table s) (record_table s)

abbrev pub done_with : Routing → List RouteEntry → DoneOutcome
done_with s xs = record { answer = Ok tt; state = with_routes s xs }

abbrev pub stepped_to : Routing → RouteStep → DoneOutcome
stepped_to s x = record { answer = x.answer; state = with_routes s x.rows }

abbrev pub refused_done : Routing → DoneOutcome
refused_done s = record { answer = Err StateIllFormed; state = s }

abbrev pub refused_told : Routing → Refusal → ToldOutcome
refused_told s n = record { answer = Err n; state = s }

-- No discovery of the way to a destination has brought one.
abbrev pub mark_discovery_failed_core : Routing → Nwk → DoneOutcome
mark_discovery_failed_core s destination = done_with s (change_route destination.0 (with_status DiscoveryFailed) (routes_in s))

unfoldable pub mark_discovery_failed : Routing → Nwk → DoneOutcome
mark_discovery_failed s destination = cond (well_formed s) (mark_discovery_failed_core s destination) (refused_done s)

-- A frame was forwarded along the route to a destination.
abbrev pub record_usage_core : Routing → Nwk → DoneOutcome
record_usage_core s destination = done_with s (change_route destination.0 used (routes_in s))

unfoldable pub record_usage : Routing → Nwk → DoneOutcome
record_usage s destination = cond (well_formed s) (record_usage_core s destination) (refused_done s)

-- A source-routed frame of a concentrator shows that it holds our record.
abbrev pub note_source_routed_frame_core : Routing → Nwk → DoneOutcome
note_source_routed_frame_core s concentrator = done_with s (change_route concentrator.0 record_known (routes_in s))

unfoldable pub note_source_routed_frame : Routing → Nwk → DoneOutcome
note_source_routed_frame s concentrator = cond (well_formed s) (note_source_routed_frame_core s concentrator) (refused_done s)

-- Once a link status period: the recent activity of every Active route goes down.
abbrev pub decay_activity_core : Routing → DoneOutcome
decay_activity_core s = done_with s (map decayed (routes_in s))

unfoldable pub decay_activity : Routing → DoneOutcome
decay_activity s = cond (well_formed s) (decay_activity_core s) (refused_done s)

-- A next hop is lost: every Active route by it is Inactive.
abbrev pub invalidate_via_core : Routing → Nwk → DoneOutcome
invalidate_via_core s hop = done_with s (map (unlinked hop) (routes_in s))

unfoldable pub invalidate_via : Routing → Nwk → DoneOutcome
invalidate_via s hop = cond (well_formed s) (invalidate_via_core s hop) (refused_done s)

-- A client hands back a route on startup; the whole entry is written anew.
abbrev pub restore_route_core : Routing → Nwk → Nwk → ℕ → DoneOutcome
restore_route_core s destination hop cost = stepped_to s (step_to (routes_in s) (calls.restore_route destination hop cost (routes_in s)))

unfoldable pub restore_route : Routing → Nwk → Nwk → ℕ → DoneOutcome
restore_route s destination hop cost = cond (well_formed s) (restore_route_core s destination hop cost) (refused_done s)

-- A search of another's was relayed: the route to its destination is underway, unless it is Active.
abbrev pub note_relayed_discovery_core : Routing → Nwk → DoneOutcome
note_relayed_discovery_core s destination = stepped_to s (step_to (routes_in s) (note_relayed destination (routes_in s)))

unfoldable pub note_relayed_discovery : Routing → Nwk → DoneOutcome
note_relayed_discovery s destination = cond (well_formed s) (note_relayed_discovery_core s destination) (refused_done s)

-- The route to a destination is removed; whether there was one.
abbrev pub remove_route_core : Routing → Nwk → ToldOutcome
remove_route_core s destination = record {
  answer = Ok (has_route destination.0 (routes_in s));
  state = with_routes s (remove route_key destination.0 (routes_in s));
}

unfoldable pub remove_route : Routing → Nwk → ToldOutcome
remove_route s destination = cond (well_formed s) (remove_route_core s destination) (refused_told s StateIllFormed)
