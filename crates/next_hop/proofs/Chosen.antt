-- The outcome made of the choice is the decision, on the rows of tables that are together with their store. Step by step: each step of the choice
-- gives what the step of the decision gives, and where the record names no way the route query has asked the Active route already.
use Rattle.std.specs.Prelude.{Option, Some, None, Result, Ok, Err}
use Prim.Native.Nat.{ℕ}
use mathlib.Core.Bool.{Bool, true, false, cond, not, ◌&&◌}
use mathlib.Core.List.{List, [], ◌∷◌}
use mathlib.Core.Path.{◌≡◌, refl, ap, ◌∙◌}
use borrow.Author.Tests.{eqb-true, eqb-false, ltb-true, ltb-false}
use lib.Dec.{eqb, ltb}
use lib.ListN.{take, get_or}
use Rattle.types.specs.declared.Nwk.{Nwk}
use Rattle.types.specs.declared.Refusal.TheVariants.{EmptySourceRoute}
use Rattle.standard.specs.declared.RelayList.{RelayList}
use Rattle.standard.specs.declared.RouteEntry.{RouteEntry}
use Rattle.standard.specs.Calls.{hop_at}
use Rattle.standard.specs.Query.{some_fits}
use Rattle.flat_map.specs.Seek.{place_of}
use Rattle.record_table.specs.Table.{RecordTable}
use Rattle.relay_store.specs.Store.{relay_list}
use Rattle.relay_store.specs.Packed.{Together}
use Rattle.route_calls.specs.Answer.{hop_answer}
use Rattle.route_record.specs.declared.RecordWay.{RecordWay}
use Rattle.route_record.specs.Answer.{way_to}
use Rattle.route_record.proofs.Looked.{missing-way, found-direct, found-source, found_none}
use Rattle.routing.specs.Records as query
use Rattle.neighbor_table.specs.declared.NeighborEntry.{NeighborEntry}
use Rattle.neighbor_queries.specs.declared.Filter.TheVariants.{EndDeviceChildAt}
use Rattle.neighbor_queries.specs.Filter.{fits}
use Rattle.frame.specs.declared.NwkHeader.{NwkHeader}
use Rattle.frame.specs.Header.{is_suppressed}
use Rattle.hop_choice.specs.declared.HostRoute.{HostRoute}
use Rattle.hop_choice.specs.declared.HostRoute.TheVariants as host
use Rattle.hop_choice.specs.declared.RouteDirective.TheVariants.{StackDecides, Hint, Force}
use Rattle.hop_choice.specs.declared.SendKind.{SendKind}
use Rattle.hop_choice.specs.declared.SendKind.TheVariants.{Direct, Route}
use Rattle.hop_choice.specs.declared.Policy.{Policy}
use Rattle.hop_choice.specs.declared.RecordSays.{RecordSays}
use Rattle.hop_choice.specs.declared.RecordSays.TheVariants as says
use Rattle.hop_choice.specs.declared.Choice.{Choice}
use Rattle.hop_choice.specs.declared.Choice.TheVariants as choice
use Rattle.hop_choice.specs.Choice as choosing
use Rattle.hop_choice.specs.Choice.{first_of, hop_step, says_at, record_says, chosen}
use Rattle.next_hop.specs.declared.SendMode.{SendMode}
use Rattle.next_hop.specs.declared.NextHop.TheVariants.{NeedDiscovery, Discard}
use Rattle.next_hop.specs.declared.ResolveOutcome.{ResolveOutcome}
use Rattle.next_hop.specs.Decision.{hop_to, refused_with, by_source_route, host_routed, from_way, from_hop, record_step, active_step, hint_step, undiscovered, decided_on}
use Rattle.next_hop.specs.Made.{relays_in, made}
use Rattle.types.specs.declared.Refusal.{Refusal}

module _ (routes : List RouteEntry) (t : RecordTable) (store : List ℕ) (g : Together t store) (h : NwkHeader) (relays : RelayList) (p : Policy) where
  abbrev f : Result Choice Refusal → ResolveOutcome
  f = made h relays t.lengths store

  abbrev d : Nwk
  d = h.destination

  -- whether no route may be discovered
  abbrev shut : Bool
  shut = is_suppressed h.frame_control.discover_route

  abbrev active : Result (Option Nwk) Refusal
  active = hop_answer (hop_at d.0 routes)

  abbrev way : RecordWay
  way = way_to d p.max_source_route t store

  end-made : (b : Bool) → ◌≡◌ {A = ResolveOutcome} (f (cond b (Ok choice.Discard) (Ok choice.NeedDiscovery))) (record { answer = cond b (Ok Discard) (Ok NeedDiscovery); header = h })
  end-made true = refl
  end-made false = refl

  list-made : (b : Bool) → f (cond b (Err EmptySourceRoute) (Ok choice.ByHost)) ≡ cond b (refused_with h EmptySourceRoute) (by_source_route h relays)
  list-made true = refl
  list-made false = refl

  host-made : (r : HostRoute) → f (choosing.host_choice relays.count r) ≡ host_routed h relays r
  host-made (host.NextHop n) = refl
  host-made host.SourceRoute = list-made (eqb relays.count 0)

  module _ (k : SendKind) where
    abbrev hint : List (Option (Result Choice Refusal))
    hint = choosing.hint_step relays.count k ∷ []

    abbrev hint' : List (Option ResolveOutcome)
    hint' = hint_step h relays k ∷ []

  hint-made : (k : SendKind) → f (first_of (hint k) (choosing.undiscovered shut)) ≡ first_of (hint' k) (undiscovered h)
  hint-made Direct = end-made shut
  hint-made (Route StackDecides) = end-made shut
  hint-made (Route (Hint r)) = host-made r
  hint-made (Route (Force r)) = end-made shut

  module _ (k : SendKind) where
    -- the Active route
    hop-made : (x : Result (Option Nwk) Refusal) → f (first_of (hop_step x ∷ hint k) (choosing.undiscovered shut)) ≡ first_of (from_hop h x ∷ hint' k) (undiscovered h)
    hop-made (Ok None) = hint-made k
    hop-made (Ok (Some n)) = refl
    hop-made (Err why) = refl

    active-made : (force : Bool) → f (first_of (cond force None (hop_step active) ∷ hint k) (choosing.undiscovered shut)) ≡ first_of (cond force None (from_hop h active) ∷ hint' k) (undiscovered h)
    active-made true = hint-made k
    active-made false = hop-made active

    -- a record that names no way: the route query asks the Active route, and so does the next step
    twice-asked : (l : RelayList) (x : Result (Option Nwk) Refusal) → f (first_of (hop_step x ∷ hint k) (choosing.undiscovered shut)) ≡ first_of (from_way h l (query.hop_to x) ∷ from_hop h x ∷ hint' k) (undiscovered h)
    twice-asked l (Ok None) = hint-made k
    twice-asked l (Ok (Some n)) = refl
    twice-asked l (Err why) = refl

    -- what is made where a record is asked, by what it says and by the way that it names
    abbrev Same : RecordSays → RecordWay → Type 0
    Same x w =
        f (first_of (choosing.record_step d x ∷ hop_step active ∷ hint k) (choosing.undiscovered shut))
        ≡ first_of (from_way h w.relays (query.answer_in routes d w.route) ∷ from_hop h active ∷ hint' k) (undiscovered h)

    module _ (i : ℕ) (e : Ok i ≡ place_of (take t.count t.keys) d.0) where
      found-made : (b c : Bool) → eqb (get_or t.lengths i 0) 0 ≡ b → ltb (get_or t.lengths i 0) p.max_source_route ≡ c
          → Same (cond b says.Direct (cond c (says.Row i) says.Nothing)) way
      found-made true c o q = rw (← found-direct t store g d p.max_source_route (relay_list []) i e (eqb-true (get_or t.lengths i 0) 0 o) refl)
      found-made false true o q =
          rw (← found-source t store g d p.max_source_route (relays_in t.lengths store i) i e (eqb-false (get_or t.lengths i 0) 0 o) (ltb-true (get_or t.lengths i 0) p.max_source_route q) refl)
      found-made false false o q =
          rw (← found_none t store g d p.max_source_route (relay_list []) i e (eqb-false (get_or t.lengths i 0) 0 o) (ltb-false (get_or t.lengths i 0) p.max_source_route q) refl)
          (twice-asked (relay_list []) active)

    way-made : (at : Result ℕ ℕ) → at ≡ place_of (take t.count t.keys) d.0 → Same (says_at p.max_source_route t.lengths at) way
    way-made (Err i) e = rw (← missing-way t store g d p.max_source_route (relay_list []) i e refl) (twice-asked (relay_list []) active)
    way-made (Ok i) e = found-made i e (eqb (get_or t.lengths i 0) 0) (ltb (get_or t.lengths i 0) p.max_source_route) refl refl

    -- the two steps of the tables, by the policy
    policy-made : (c force : Bool)
        → f (first_of (choosing.record_step d (cond (c && not force) (says_at p.max_source_route t.lengths (place_of (take t.count t.keys) d.0)) says.Nothing) ∷ cond force None (hop_step active) ∷ hint k) (choosing.undiscovered shut))
        ≡ first_of (cond (c && not force) (from_way h way.relays (query.answer_in routes d way.route)) None ∷ cond force None (from_hop h active) ∷ hint' k) (undiscovered h)
    policy-made false force = active-made force
    policy-made true true = hint-made k
    policy-made true false = way-made (place_of (take t.count t.keys) d.0) refl

    child-made : (b : Bool)
        → f (first_of (cond b (Some (Ok (choice.Hop d))) None ∷ choosing.record_step d (record_says p t d) ∷ choosing.active_step routes d p ∷ hint k) (choosing.undiscovered shut))
        ≡ first_of (cond b (Some (hop_to h d)) None ∷ record_step routes t h p store ∷ active_step routes h p ∷ hint' k) (undiscovered h)
    unfolding record_says choosing.active_step record_step active_step
    child-made true = refl
    child-made false = policy-made p.is_concentrator p.force_route_discovery

  kind-made : (near : List NeighborEntry) (k : SendKind)
      → f (chosen routes t near d p relays.count shut k) ≡ decided_on routes t near h (record { kind = k; relays = relays }) p store
  unfolding chosen decided_on
  kind-made near Direct = refl
  kind-made near (Route (Force r)) = host-made r
  kind-made near (Route StackDecides) = child-made (Route StackDecides) (some_fits (fits (EndDeviceChildAt d)) near)
  kind-made near (Route (Hint r)) = child-made (Route (Hint r)) (some_fits (fits (EndDeviceChildAt d)) near)

pub chosen-decides : (routes : List RouteEntry) (t : RecordTable) (store : List ℕ) → Together t store → (near : List NeighborEntry) (h : NwkHeader) (m : SendMode) (p : Policy)
    → made h m.relays t.lengths store (chosen routes t near h.destination p m.relays.count (is_suppressed h.frame_control.discover_route) m.kind)
    ≡ decided_on routes t near h m p store
chosen-decides routes t store g near h m p = kind-made routes t store g h m.relays p near m.kind

-- the same of a choice and an outcome that are told
pub made-decides : (routes : List RouteEntry) (t : RecordTable) (store : List ℕ) → Together t store → (near : List NeighborEntry) (h : NwkHeader) (m : SendMode) (p : Policy)
    → (shut : Bool) → shut ≡ is_suppressed h.frame_control.discover_route
    → (x : Result Choice Refusal) → x ≡ chosen routes t near h.destination p m.relays.count shut m.kind
    → (r : ResolveOutcome) → r ≡ made h m.relays t.lengths store x
    → r ≡ decided_on routes t near h m p store
made-decides routes t store g near h m p shut o x q r e =
    e
    ∙ ap (made h m.relays t.lengths store) (q ∙ ap (λ (b : Bool). chosen routes t near h.destination p m.relays.count b m.kind) o)
    ∙ chosen-decides routes t store g near h m p
