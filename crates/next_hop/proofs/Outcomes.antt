-- What holds of each kind of outcome holds of the decision: a plain hop, the refusals 6 and 7, a source route of the host or of the record,
-- and what is left at the end. Each step gives one of these or nothing, so the first that answers does.
use Rattle.std.specs.Prelude.{Option, Some, None, Result, Ok, Err}
use Prim.Native.Nat.{ℕ}
use mathlib.Core.Bool.{Bool, true, false, cond, not, ◌&&◌}
use mathlib.Core.List.{List, [], ◌∷◌}
use mathlib.Core.Path.{◌≡◌, refl, sym, subst}
use lib.Dec.{eqb}
use native.Mathlib.Omega.{arith}
use Rattle.types.specs.declared.Nwk.{Nwk}
use Rattle.types.specs.declared.Refusal.TheVariants.{UnknownNextHop, EmptySourceRoute}
use Rattle.standard.specs.declared.RecordRoute.{RecordRoute}
use Rattle.standard.specs.declared.RecordRoute.TheVariants as record-route
use Rattle.standard.specs.Calls.{hop_at, is_unknown}
use Rattle.flat_map.specs.Table.{Each}
use Rattle.route_calls.specs.Answer.{hop_answer}
use Rattle.route_record.specs.Answer.{way_to}
use Rattle.routing.specs.State.{record_table}
use Rattle.routing.specs.Routes.{routes_in}
use Rattle.routing.specs.declared.Routing.{Routing}
use Rattle.routing.specs.Records.{answer_by}
use Rattle.neighbors.specs.declared.Neighbors.{Neighbors}
use Rattle.neighbors.specs.State as neighbors
use Rattle.frame.specs.declared.NwkHeader.{NwkHeader}
use Rattle.relay_header.specs.Relayed.{is_end_device_child}
use Rattle.hop_choice.specs.declared.HostRoute.{HostRoute}
use Rattle.hop_choice.specs.declared.HostRoute.TheVariants as host
use Rattle.hop_choice.specs.declared.RouteDirective.TheVariants.{StackDecides, Hint, Force}
use Rattle.hop_choice.specs.declared.SendKind.{SendKind}
use Rattle.hop_choice.specs.declared.SendKind.TheVariants.{Direct, Route}
use Rattle.hop_choice.specs.Choice.{first_of}
use Rattle.next_hop.specs.declared.SendMode.{SendMode}
use Rattle.hop_choice.specs.declared.Policy.{Policy}
use Rattle.next_hop.specs.declared.ResolveOutcome.{ResolveOutcome}
use Rattle.next_hop.specs.Decision.{hop_to, refused_with, by_source_route, host_routed, direct_step, forced_step, from_way, record_step, from_hop, active_step, hint_step, undiscovered, steps_of, decided_on, decided}
use Rattle.next_hop.specs.Kept.{record_relays}
use Rattle.types.specs.declared.Refusal.{Refusal}

-- the hop of an Active route is refused for one reason alone: it is not known
only-unknown : (o : Option Nwk) (why : Refusal) → hop_answer o ≡ Err why → why ≡ UnknownNextHop
only-unknown None why e = absurd (let z : ◌≡◌ {A = ℕ} 0 1 = cc in omega arith)
only-unknown (Some hop) why e = go (is_unknown hop) e where
  go : (b : Bool) → ◌≡◌ {A = Result (Option Nwk) Refusal} (cond b (Err UnknownNextHop) (Ok (Some hop))) (Err why) → why ≡ UnknownNextHop
  go true q = cc
  go false q = absurd (let z : ◌≡◌ {A = ℕ} 0 1 = cc in omega arith)

module _ (r : Routing) (h : NwkHeader) (m : SendMode) (p : Policy) (store : List ℕ) (P : ResolveOutcome → Type 0)
    (plain : (next : Nwk) → P (hop_to h next))
    (six : P (refused_with h UnknownNextHop))
    (seven : P (refused_with h EmptySourceRoute))
    (of-host : P (by_source_route h m.relays))
    (of-record : P (by_source_route h (record_relays r h p store)))
    (end : P (undiscovered h)) where
  -- a step that gives an answer gives one that P holds of
  abbrev Gives : Option ResolveOutcome → Type 0
  Gives None = Unit {0}
  Gives (Some x) = P x

  first_gives : (steps : List (Option ResolveOutcome)) → Each Gives steps → P (first_of steps (undiscovered h))
  first_gives [] each = end
  first_gives (None ∷ steps) each = first_gives steps each.1
  first_gives (Some x ∷ steps) each = each.0

  by-list : (b : Bool) → P (cond b (refused_with h EmptySourceRoute) (by_source_route h m.relays))
  by-list true = seven
  by-list false = of-host

  by-host-route : (route : HostRoute) → P (host_routed h m.relays route)
  by-host-route (host.NextHop next) = plain next
  by-host-route host.SourceRoute = by-list (eqb m.relays.count 0)

  by-direct : (k : SendKind) → Gives (direct_step h k)
  by-direct Direct = plain _
  by-direct (Route d) = tt

  by-force : (k : SendKind) → Gives (forced_step h m.relays k)
  by-force Direct = tt
  by-force (Route StackDecides) = tt
  by-force (Route (Hint route)) = tt
  by-force (Route (Force route)) = by-host-route route

  by-hint : (k : SendKind) → Gives (hint_step h m.relays k)
  by-hint Direct = tt
  by-hint (Route StackDecides) = tt
  by-hint (Route (Hint route)) = by-host-route route
  by-hint (Route (Force route)) = tt

  by-child : (b : Bool) → Gives (cond b (Some (hop_to h h.destination)) None)
  by-child true = plain _
  by-child false = tt

  refused-six : (why : Refusal) → hop_answer (hop_at h.destination.0 (routes_in r)) ≡ Err why → P (refused_with h why)
  refused-six why e = subst (λ (v : Refusal). P (refused_with h v)) (sym (only-unknown (hop_at h.destination.0 (routes_in r)) why e)) six

  by-hop : (b : Bool) (x : Result (Option Nwk) Refusal) → hop_answer (hop_at h.destination.0 (routes_in r)) ≡ x → Gives (cond b None (from_hop h x))
  by-hop true x e = tt
  by-hop false (Ok None) e = tt
  by-hop false (Ok (Some next)) e = plain next
  by-hop false (Err why) e = refused-six why e

  by_way : (b : Bool) (w : Option RecordRoute) (x : Result (Option Nwk) Refusal) → hop_answer (hop_at h.destination.0 (routes_in r)) ≡ x
      → Gives (cond b (from_way h (record_relays r h p store) (answer_by r h.destination w)) None)
  by_way false w x e = tt
  by_way true (Some record-route.Direct) x e = plain _
  by_way true (Some record-route.SourceRoute) x e = of-record
  by_way true None (Ok None) e = rw e tt
  by_way true None (Ok (Some next)) e = rw e (plain next)
  by_way true None (Err why) e = rw e (refused-six why e)

  pub decided-by : (n : Neighbors) → P (decided r n h m p store)
  unfolding decided_on record_step active_step
  decided-by n =
      let active = hop_answer (hop_at h.destination.0 (routes_in r)) in
      let route = (way_to h.destination p.max_source_route (record_table r) store).route in
      let asks = p.is_concentrator && not p.force_route_discovery in
      first_gives (steps_of (routes_in r) (record_table r) (neighbors.rows n) h m.relays p store m.kind)
      (by-direct m.kind, (by-force m.kind, (by-child (is_end_device_child (neighbors.rows n) h.destination), (by_way asks route active refl, (by-hop p.force_route_discovery active refl, (by-hint m.kind, tt))))))
