-- Any reply, as a frame carries it, keeps every row's numbers within their fields: what it writes is its own sender and cost,
-- the discovery's sender and forward cost, or a row that was found or is made new, and all of those are within theirs.
use Rattle.std.specs.Prelude.{Option, Some, None, unwrap_or}
use Prim.Native.Nat.{ℕ, ◌<◌}
use native.Mathlib.Omega.{arith}
use mathlib.Core.Path.{◌≡◌, refl, ap}
use mathlib.Core.Bool.{Bool, true, false, cond}
use mathlib.Core.List.{List, [], ◌∷◌}
use lib.Dec.{leb, eqb}
use Rattle.types.specs.declared.Nwk.{Nwk}
use Rattle.standard.specs.declared.RouteEntry.{RouteEntry}
use Rattle.standard.specs.declared.DiscoveryEntry.{DiscoveryEntry}
use Rattle.standard.specs.declared.Status.TheVariants.{Inactive}
use Rattle.standard.specs.Ordered.{lookup, put}
use Rattle.standard.specs.Route.{route_key, unknown_hop, new_route, via, suits, considered}
use Rattle.standard.specs.Discovery.{discovery_key}
use Rattle.standard.specs.Reply.{settled, drop_ours}
use Rattle.standard.specs.Tables.{Tables}
use Rattle.flat_map.specs.Table.{Each}
use Rattle.flat_map.proofs.Each.{each-put}
use Rattle.flat_map.proofs.Mapped.{each-found}
use Rattle.route_table.specs.Codec as route
use Rattle.discovery_table.specs.Codec as discovery
use Rattle.two_searches.specs.Streams.{Search, Heard, Answer, hear}
use Rattle.two_searches.specs.Conditions.{search_key, Ranged}
use Rattle.two_searches.proofs.Puts.{puts}
use Rattle.two_searches.proofs.Touch.{Change, is_ours_of, view, found, leaves, establishing, relaying, decide_on, decide, hear-is}

-- rows that have a property, put among rows that have it
each_puts : {E : Type 0} (P : E → Type 0) (key_of : E → ℕ) (es xs : List E) → Each P es → Each P xs → Each P (puts key_of es xs)
each_puts P key_of [] xs h a = a
each_puts P key_of (e ∷ es) xs h a = each_puts P key_of es (put key_of e xs) h.1 (each-put P key_of e xs h.0 a)

pub via-in-range : (hop : Nwk) (cost : ℕ) (e : RouteEntry) → hop.0 < 65536 → cost < 256 → route.InRange e → route.InRange (via hop cost e)
via-in-range hop cost e h c r = record { hop = h; cost = c; recent = r.recent }

pub considered-in-range : (hop : Nwk) (cost : ℕ) (e : RouteEntry) → hop.0 < 65536 → cost < 256 → route.InRange e → route.InRange (considered hop cost e)
unfolding considered
considered-in-range hop cost e h c r = go (suits cost e) where
  go : (b : Bool) → route.InRange (cond b (via hop cost e) e)
  go true = via-in-range hop cost e h c r
  go false = r

pub settled-in-range : (cost : ℕ) (d : DiscoveryEntry) → cost < 256 → discovery.InRange d → discovery.InRange (settled cost d)
settled-in-range cost d c r = record { source = r.source; id = r.id; sender = r.sender; destination = r.destination; forward = r.forward; residual = c }

-- all rows of a change are within range
pub record InRange (c : Change) : Type 0 where
  pub routes : Each route.InRange c.routes
  pub discoveries : Each discovery.InRange c.discoveries

module _ (own : Nwk) (s : Search) (x : Heard) (t : Tables) (h : Ranged t) where
  -- the originator's route, found or made
  found-in-range : (r : RouteEntry) → route.InRange r → route.InRange (found s r (lookup route_key s.originator.0 t.routes))
  found-in-range r f = go (eqb (route_key r) s.originator.0) (lookup route_key s.originator.0 t.routes) refl where
    go : (b : Bool) (o : Option RouteEntry) → lookup route_key s.originator.0 t.routes ≡ o
        → route.InRange (unwrap_or (cond b (Some r) o) (new_route s.originator Inactive unknown_hop))
    go true o e = f
    go false None e = record { hop = omega arith; cost = omega arith; recent = omega arith }
    go false (Some q) e = each-found route_key route.InRange s.originator.0 t.routes q h.routes e

  -- what a reply puts
  pub change-in-range : InRange (decide own s x (view own s t)).1
  unfolding decide
  change-in-range =
      go (is_ours_of own s) (lookup discovery_key (search_key s) t.discoveries) refl (lookup route_key s.responder.0 t.routes) refl
    where
      pick : (c : Bool) (w : Answer × Change) → InRange w.1 → InRange (cond c leaves w).1
      pick true w k = record { routes = tt; discoveries = tt }
      pick false w k = k

      responder : (r : RouteEntry) → lookup route_key s.responder.0 t.routes ≡ Some r → route.InRange (via x.sender x.cost r)
      responder r f = via-in-range x.sender x.cost r x.short x.byte (each-found route_key route.InRange s.responder.0 t.routes r h.routes f)

      go : (b : Bool)
          → (d : Option DiscoveryEntry) → lookup discovery_key (search_key s) t.discoveries ≡ d
          → (r : Option RouteEntry) → lookup route_key s.responder.0 t.routes ≡ r
          → InRange (decide_on b s x d r (cond b None (lookup route_key s.originator.0 t.routes))).1
      go b None e r f = record { routes = tt; discoveries = tt }
      go b (Some d) e None f = record { routes = tt; discoveries = tt }
      go true (Some d) e (Some r) f =
          let k : discovery.InRange d = each-found discovery_key discovery.InRange (search_key s) t.discoveries d h.discoveries e in
          pick (drop_ours x.cost d r) (establishing x d r)
          (record { routes = (responder r f, tt); discoveries = (settled-in-range x.cost d x.byte k, tt) })
      go false (Some d) e (Some r) f =
          let k : discovery.InRange d = each-found discovery_key discovery.InRange (search_key s) t.discoveries d h.discoveries e in
          pick (leb d.residual_cost x.cost) (relaying x d r _)
          (record {
            routes = (
              responder r f,
              (considered-in-range d.sender_address d.forward_cost _ k.sender k.forward (found-in-range _ (responder r f)), tt),
            );
            discoveries = (settled-in-range x.cost d x.byte k, tt);
          })

  -- so the rows after it are within range
  pub ranged-kept : Ranged (hear own s x t).1
  ranged-kept =
      let c = (decide own s x (view own s t)).1 in
      rw (ap (λ q. q.1) (hear-is own s x t))
      (record {
        routes = each_puts route.InRange route_key c.routes t.routes change-in-range.routes h.routes;
        discoveries = each_puts discovery.InRange discovery_key c.discoveries t.discoveries change-in-range.discoveries h.discoveries;
      })
