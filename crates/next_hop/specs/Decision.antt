-- The decision on the next hop of a unicast: the first of six steps that gives an answer, and what is left where none does.
-- Document 01, "Decision (001) and neighbours (003)": "Order: direct mode; forced host route; end device child (not merely any child); concentrator's route to D;
-- Active route; hint; then discard if discovery is suppressed, else discovery needed."
-- 05-3474, the section on a unicast frame (3.6.3.3 and 3.6.4.3 in the Rust's comments): a child, a route of the table, discovery if it is allowed.
-- Departures of the Rust from it, each a step of its own: `direct_step`, `forced_step` and `hint_step` are wishes of the host, which the standard
-- does not have; `record_step` goes before `active_step`, where the standard asks the routing table first; a policy may pass over both.
-- Assumes nothing.
use Rattle.std.specs.Prelude.{ℕ, ◌-◌, Bool, true, false, cond, not, ◌&&◌, ◌||◌, List, [], ◌∷◌, eqb, ltb, get_or, Option, Some, None, Result, Ok, Err}
use Rattle.types.specs.declared.Nwk.{Nwk}
use Rattle.types.specs.declared.Refusal.{Refusal}
use Rattle.types.specs.declared.Refusal.TheVariants.{EmptySourceRoute, ListTooLong, StoreDisagrees, StateIllFormed}
use Rattle.standard.specs.declared.RelayList.{RelayList}
use Rattle.standard.specs.declared.RouteEntry.{RouteEntry}
use Rattle.standard.specs.Calls.{hop_at}
use Rattle.standard.specs.Route.{nwk}
use Rattle.record_table.specs.Table.{RecordTable}
use Rattle.relay_store.specs.Store.{agrees}
use Rattle.route_calls.specs.Answer.{hop_answer}
use Rattle.route_record.specs.Answer.{way_to}
use Rattle.routing.specs.State.{record_table}
use Rattle.routing.specs.Routes.{routes_in}
use Rattle.routing.specs.declared.Routing.{Routing}
use Rattle.routing.specs.declared.RouteToAnswer.{RouteToAnswer}
use Rattle.routing.specs.declared.RouteToAnswer.TheVariants as way
use Rattle.routing.specs.declared.RouteToOutcome.{RouteToOutcome}
use Rattle.routing.specs.Records.{answer_in}
use Rattle.routing.specs.State as routing
use Rattle.neighbor_table.specs.declared.NeighborEntry.{NeighborEntry}
use Rattle.neighbors.specs.declared.Neighbors.{Neighbors}
use Rattle.neighbors.specs.State as neighbors
use Rattle.frame.specs.declared.NwkHeader.{NwkHeader}
use Rattle.frame.specs.Header.{is_suppressed, carries_long, source_routed}
use Rattle.relay_header.specs.Relayed.{is_end_device_child}
use Rattle.hop_choice.specs.declared.HostRoute.{HostRoute}
use Rattle.hop_choice.specs.declared.HostRoute.TheVariants as host
use Rattle.hop_choice.specs.declared.RouteDirective.{RouteDirective}
use Rattle.hop_choice.specs.declared.RouteDirective.TheVariants.{StackDecides, Hint, Force}
use Rattle.hop_choice.specs.declared.SendKind.{SendKind}
use Rattle.hop_choice.specs.declared.SendKind.TheVariants.{Direct, Route}
use Rattle.hop_choice.specs.Choice.{first_of}
use Rattle.next_hop.specs.declared.SendMode.{SendMode}
use Rattle.next_hop.specs.declared.NextHop.{NextHop}
use Rattle.next_hop.specs.declared.NextHop.TheVariants.{Resolved, NeedDiscovery, Discard}
use Rattle.hop_choice.specs.declared.Policy.{Policy}
use Rattle.next_hop.specs.declared.ResolveOutcome.{ResolveOutcome}

-- a hop, with the header as it came
abbrev pub hop_to : NwkHeader → Nwk → ResolveOutcome
hop_to h n = record { answer = Ok (Resolved n); header = h }

-- "All hand back the given state, header and store unchanged and no other answer."
abbrev pub refused_with : NwkHeader → Refusal → ResolveOutcome
refused_with h why = record { answer = Err why; header = h }

-- "the hop is the last relay"; 05-3474, section 3.6.4.3.1
abbrev pub last_relay : RelayList → Nwk
last_relay relays = get_or relays.addresses (relays.count - 1) (nwk 0)

-- "A source route sets flag, relay list, index n - 1 and suppressed discovery"
abbrev pub by_source_route : NwkHeader → RelayList → ResolveOutcome
by_source_route h relays = record { answer = Ok (Resolved (last_relay relays)); header = source_routed h relays }

-- a host route applied; 7, "an empty host source route is the one to be applied (the Rust unwraps)"
abbrev pub host_routed : NwkHeader → RelayList → HostRoute → ResolveOutcome
host_routed h relays (host.NextHop n) = hop_to h n
host_routed h relays host.SourceRoute = cond (eqb relays.count 0) (refused_with h EmptySourceRoute) (by_source_route h relays)

-- "direct mode": a wish of the host
abbrev pub direct_step : NwkHeader → SendKind → Option ResolveOutcome
direct_step h Direct = Some (hop_to h h.destination)
direct_step h (Route d) = None

-- "forced host route": a wish of the host
abbrev pub forced_step : NwkHeader → RelayList → SendKind → Option ResolveOutcome
forced_step h relays Direct = None
forced_step h relays (Route StackDecides) = None
forced_step h relays (Route (Hint r)) = None
forced_step h relays (Route (Force r)) = Some (host_routed h relays r)

-- "end device child (not merely any child)"; 05-3474, section 3.6.4.3: a router delivers to its end device child itself
abbrev pub child_step : List NeighborEntry → NwkHeader → Option ResolveOutcome
child_step near h = cond (is_end_device_child near h.destination) (Some (hop_to h h.destination)) None

-- what the route query says: a hop, a source route, 6, or nothing
abbrev pub from_way : NwkHeader → RelayList → Result RouteToAnswer Refusal → Option ResolveOutcome
from_way h relays (Err why) = Some (refused_with h why)
from_way h relays (Ok way.NoRoute) = None
from_way h relays (Ok (way.NextHop n)) = Some (hop_to h n)
from_way h relays (Ok way.SourceRoute) = Some (by_source_route h relays)

-- the route query on routes and records: that of a state, `route_to_core`, is this of its own
abbrev pub route_on : List RouteEntry → RecordTable → Nwk → ℕ → List ℕ → RouteToOutcome
route_on routes t d limit store = record { answer = answer_in routes d (way_to d limit t store).route; relays = (way_to d limit t store).relays }

-- "concentrator's route to D"; 05-3474, section 3.6.4.3.1; "Force-discovery skips the two table steps only."
unfoldable pub record_step : List RouteEntry → RecordTable → NwkHeader → Policy → List ℕ → Option ResolveOutcome
record_step routes t h p store =
    cond (p.is_concentrator && not p.force_route_discovery)
    (from_way h (route_on routes t h.destination p.max_source_route store).relays (route_on routes t h.destination p.max_source_route store).answer)
    None

-- what the look-up of an Active route says: a hop, 6 for 0xFFFF, or nothing
abbrev pub from_hop : NwkHeader → Result (Option Nwk) Refusal → Option ResolveOutcome
from_hop h (Ok None) = None
from_hop h (Ok (Some n)) = Some (hop_to h n)
from_hop h (Err why) = Some (refused_with h why)

-- "Active route"; 05-3474, section 3.6.4.3: the next hop of the routing table entry; "Force-discovery skips the two table steps only."
unfoldable pub active_step : List RouteEntry → NwkHeader → Policy → Option ResolveOutcome
active_step routes h p = cond p.force_route_discovery None (from_hop h (hop_answer (hop_at h.destination.0 routes)))

-- "hint": a wish of the host
abbrev pub hint_step : NwkHeader → RelayList → SendKind → Option ResolveOutcome
hint_step h relays Direct = None
hint_step h relays (Route StackDecides) = None
hint_step h relays (Route (Hint r)) = Some (host_routed h relays r)
hint_step h relays (Route (Force r)) = None

-- "then discard if discovery is suppressed, else discovery needed"; 05-3474, section 3.6.3.3
abbrev pub undiscovered : NwkHeader → ResolveOutcome
undiscovered h = record { answer = cond (is_suppressed h.frame_control.discover_route) (Ok Discard) (Ok NeedDiscovery); header = h }

-- document 01's order, on the rows of the tables
abbrev pub steps_of : List RouteEntry → RecordTable → List NeighborEntry → NwkHeader → RelayList → Policy → List ℕ → SendKind → List (Option ResolveOutcome)
steps_of routes t near h relays p store kind =
    direct_step h kind
    ∷ forced_step h relays kind
    ∷ child_step near h
    ∷ record_step routes t h p store
    ∷ active_step routes h p
    ∷ hint_step h relays kind
    ∷ []

-- the first step that gives an answer, or what is left
unfoldable pub decided_on : List RouteEntry → RecordTable → List NeighborEntry → NwkHeader → SendMode → Policy → List ℕ → ResolveOutcome
decided_on routes t near h m p store = first_of (steps_of routes t near h m.relays p store m.kind) (undiscovered h)

-- and of two states
abbrev pub decided : Routing → Neighbors → NwkHeader → SendMode → Policy → List ℕ → ResolveOutcome
decided r n h m p store = decided_on (routes_in r) (record_table r) (neighbors.rows n) h m p store

-- "a host source route .. at most 32 relays, applied or not"
abbrev pub host_long : RelayList → HostRoute → Bool
host_long relays (host.NextHop n) = false
host_long relays host.SourceRoute = ltb 32 relays.count

abbrev pub directive_long : RelayList → RouteDirective → Bool
directive_long relays StackDecides = false
directive_long relays (Hint r) = host_long relays r
directive_long relays (Force r) = host_long relays r

abbrev pub kind_long : RelayList → SendKind → Bool
kind_long relays Direct = false
kind_long relays (Route d) = directive_long relays d

abbrev pub names_long : SendMode → Bool
names_long m = kind_long m.relays m.kind

-- the refusals that no path decides, "tested in the table's order": 10 of either state, 9, 8; then the decision, with 6 and 7
unfoldable pub resolve : Routing → Neighbors → NwkHeader → SendMode → Policy → List ℕ → ResolveOutcome
resolve r n h m p store =
    cond (routing.well_formed r && neighbors.well_formed n)
    (cond (agrees (record_table r) store)
    (cond (names_long m || carries_long h) (refused_with h ListTooLong) (decided r n h m p store))
    (refused_with h StoreDisagrees))
    (refused_with h StateIllFormed)

-- "a default policy (concentrator yes, force discovery no, longest source route 12)"
abbrev pub default_policy : Policy
default_policy = record { is_concentrator = true; force_route_discovery = false; max_source_route = 12 }

abbrev pub resolve_default : Routing → Neighbors → NwkHeader → SendMode → List ℕ → ResolveOutcome
resolve_default r n h m store = resolve r n h m default_policy store
