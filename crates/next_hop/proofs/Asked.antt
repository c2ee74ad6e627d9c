-- Where the stack decides and the destination is no end device child, the decision is what the exported queries answer:
-- a concentrator's is the route query's, since that has asked the Active route itself where it gives none; any other's is the look-up's.
use Rattle.std.specs.Prelude.{Option, Some, None, Result, Ok, Err}
use Prim.Native.Nat.{ℕ}
use mathlib.Core.Bool.{true, false}
use mathlib.Core.List.{List, [], ◌∷◌}
use mathlib.Core.Path.{◌≡◌, refl}
use Rattle.standard.specs.declared.RecordRoute.{RecordRoute}
use Rattle.standard.specs.declared.RecordRoute.TheVariants as record-route
use Rattle.standard.specs.declared.RelayList.{RelayList}
use Rattle.standard.specs.Calls.{hop_at}
use Rattle.relay_store.specs.Store.{agrees}
use Rattle.route_calls.specs.Answer.{hop_answer}
use Rattle.route_record.specs.Answer.{way_to}
use Rattle.routing.specs.State.{record_table}
use Rattle.routing.specs.Routes.{routes_in}
use Rattle.routing.specs.declared.Routing.{Routing}
use Rattle.routing.specs.declared.RouteToOutcome.{RouteToOutcome}
use Rattle.routing.specs.Queries.{next_hop_of}
use Rattle.routing.specs.Records.{answer_by, route_to}
use Rattle.routing.specs.State as routes
use Rattle.neighbors.specs.declared.Neighbors.{Neighbors}
use Rattle.neighbors.specs.State as neighbours
use Rattle.frame.specs.declared.NwkHeader.{NwkHeader}
use Rattle.frame.specs.Header.{carries_long}
use Rattle.relay_header.specs.Relayed.{is_end_device_child}
use Rattle.hop_choice.specs.declared.RouteDirective.TheVariants.{StackDecides}
use Rattle.hop_choice.specs.declared.SendKind.TheVariants.{Route}
use Rattle.hop_choice.specs.Choice.{first_of}
use Rattle.next_hop.specs.declared.SendMode.{SendMode}
use Rattle.next_hop.specs.declared.ResolveOutcome.{ResolveOutcome}
use Rattle.next_hop.specs.Decision.{hop_to, refused_with, from_way, record_step, from_hop, active_step, undiscovered, decided_on, resolve}
use Rattle.types.specs.declared.Nwk.{Nwk}
use Rattle.types.specs.declared.Refusal.{Refusal}

-- what is made of the route query's answer, and of the look-up's
abbrev pub by_way : NwkHeader → RouteToOutcome → ResolveOutcome
by_way h x = first_of (from_way h x.relays x.answer ∷ []) (undiscovered h)

abbrev pub by_hop : NwkHeader → Result (Option Nwk) Refusal → ResolveOutcome
by_hop h (Err why) = refused_with h why
by_hop h (Ok None) = undiscovered h
by_hop h (Ok (Some n)) = hop_to h n

-- a route query that gives none has asked the Active route
asked-both : (r : Routing) (h : NwkHeader) (relays : RelayList) (w : Option RecordRoute) (x : Result (Option Nwk) Refusal)
    → hop_answer (hop_at h.destination.0 (routes_in r)) ≡ x
    → first_of (from_way h relays (answer_by r h.destination w) ∷ from_hop h x ∷ None ∷ []) (undiscovered h)
    ≡ first_of (from_way h relays (answer_by r h.destination w) ∷ []) (undiscovered h)
asked-both r h relays (Some record-route.Direct) x e = refl
asked-both r h relays (Some record-route.SourceRoute) x e = refl
asked-both r h relays None (Ok None) e = rw e
asked-both r h relays None (Ok (Some n)) e = rw e
asked-both r h relays None (Err why) e = rw e

asked-one : (h : NwkHeader) (x : Result (Option Nwk) Refusal) → first_of (from_hop h x ∷ None ∷ []) (undiscovered h) ≡ by_hop h (x)
asked-one h (Ok None) = refl
asked-one h (Ok (Some n)) = refl
asked-one h (Err why) = refl

module _ (r : Routing) (n : Neighbors) (h : NwkHeader) (relays : RelayList) (limit : ℕ) (store : List ℕ)
    (formed : routes.well_formed r ≡ true)
    (known : neighbours.well_formed n ≡ true)
    (agree : agrees (record_table r) store ≡ true)
    (short : carries_long h ≡ false)
    (apart : is_end_device_child (neighbours.rows n) h.destination ≡ false) where
  abbrev stack : SendMode
  stack = record { kind = Route StackDecides; relays = relays }

  pub concentrator-asks : resolve r n h stack (record { is_concentrator = true; force_route_discovery = false; max_source_route = limit }) store
      ≡ by_way h (route_to r h.destination limit store)
  unfolding resolve decided_on record_step active_step route_to
  concentrator-asks =
      rw (formed, known, agree, short, apart)
      (asked-both r h (way_to h.destination limit (record_table r) store).relays (way_to h.destination limit (record_table r) store).route
      (hop_answer (hop_at h.destination.0 (routes_in r))) refl)

  pub router-asks : resolve r n h stack (record { is_concentrator = false; force_route_discovery = false; max_source_route = limit }) store
      ≡ by_hop h (next_hop_of r h.destination)
  unfolding resolve decided_on record_step active_step next_hop_of
  router-asks = rw (formed, known, agree, short, apart) (asked-one h (hop_answer (hop_at h.destination.0 (routes_in r))))
