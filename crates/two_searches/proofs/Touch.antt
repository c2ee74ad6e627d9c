-- What a reply touches: it reads the search's discovery, the responder's route and, for another node's search, the originator's route;
-- and whatever it puts, it puts under those same keys. Read off the rule by its cases.
use Rattle.std.specs.Prelude.{Option, Some, None, unwrap_or}
use Prim.Native.Nat.{ℕ}
use mathlib.Core.Path.{◌≡◌, refl, ◌∙◌}
use mathlib.Core.Logic.{◌⊎◌, inl, inr, ◌≢◌}
use mathlib.Core.Bool.{Bool, true, false, cond}
use mathlib.Core.List.{List, [], ◌∷◌}
use lib.Dec.{leb, eqb}
use borrow.Author.Tests.{eqb-true, eqb-false}
use Rattle.types.specs.declared.Nwk.{Nwk}
use Rattle.standard.specs.declared.RouteEntry.{RouteEntry}
use Rattle.standard.specs.declared.DiscoveryEntry.{DiscoveryEntry}
use Rattle.standard.specs.declared.Status.TheVariants.{Inactive}
use Rattle.standard.specs.declared.RouteReplyDisposition.TheVariants.{Established, Relay}
use Rattle.standard.specs.Ordered.{lookup}
use Rattle.standard.specs.Route.{route_key, unknown_hop, new_route, via, suits, considered, considering, news}
use Rattle.standard.specs.Discovery.{discovery_key}
use Rattle.standard.specs.Tables.{Tables}
use Rattle.standard.specs.Reply.{Replied, settled, drop_ours, reply_ours, reply_theirs, reply_to, reply}
use Rattle.flat_map.proofs.Ordered.{lookup_key}
use Rattle.two_searches.specs.Streams.{Search, Heard, Answer, told, hear}
use Rattle.two_searches.specs.Conditions.{search_key, HeldAs, RouteTo}
use Rattle.two_searches.specs.Exactly.{drop_answer}
use Rattle.two_searches.proofs.Puts.{puts, Within, lookup-put}

-- the rows that a reply puts
pub record Change : Type 0 where
  pub routes : List RouteEntry
  pub discoveries : List DiscoveryEntry

abbrev pub applied : Change → Tables → Tables
applied c t = record { routes = puts route_key c.routes t.routes; discoveries = puts discovery_key c.discoveries t.discoveries }

-- the rows that it reads
pub record View : Type 0 where
  pub discovery : Option DiscoveryEntry
  pub responder : Option RouteEntry
  pub originator : Option RouteEntry

abbrev pub is_ours_of : Nwk → Search → Bool
is_ours_of own s = eqb s.originator.0 own.0

abbrev pub view : Nwk → Search → Tables → View
view own s t = record {
  discovery = lookup discovery_key (search_key s) t.discoveries;
  responder = lookup route_key s.responder.0 t.routes;
  originator = cond (is_ours_of own s) None (lookup route_key s.originator.0 t.routes);
}

-- the originator's route as a relay finds it: the responder's, just written, if they are one
abbrev pub found : Search → RouteEntry → Option RouteEntry → RouteEntry
found s r o = unwrap_or (cond (eqb (route_key r) s.originator.0) (Some r) o) (new_route s.originator Inactive unknown_hop)

abbrev pub leaves : Answer × Change
leaves = (drop_answer, record { routes = []; discoveries = [] })

abbrev pub establishing : Heard → DiscoveryEntry → RouteEntry → Answer × Change
establishing x d r = (
  record { disposition = Established; update = news x.sender x.cost r },
  record { routes = via x.sender x.cost r ∷ []; discoveries = settled x.cost d ∷ [] },
)

abbrev pub relaying : Heard → DiscoveryEntry → RouteEntry → RouteEntry → Answer × Change
relaying x d r o = (
  record { disposition = Relay d.sender_address x.cost; update = considering d.sender_address d.forward_cost o },
  record { routes = via x.sender x.cost r ∷ considered d.sender_address d.forward_cost o ∷ []; discoveries = settled x.cost d ∷ [] },
)

-- the test by which a reply is dropped
abbrev pub drops : Bool → Heard → DiscoveryEntry → RouteEntry → Bool
drops true x d r = drop_ours x.cost d r
drops false x d r = leb d.residual_cost x.cost

-- what is done otherwise
abbrev pub taking : Bool → Search → Heard → DiscoveryEntry → RouteEntry → Option RouteEntry → Answer × Change
taking true s x d r o = establishing x d r
taking false s x d r o = relaying x d r (found s (via x.sender x.cost r) o)

abbrev pub decide_on : Bool → Search → Heard → Option DiscoveryEntry → Option RouteEntry → Option RouteEntry → Answer × Change
decide_on ours s x None r o = leaves
decide_on ours s x (Some d) None o = leaves
decide_on ours s x (Some d) (Some r) o = cond (drops ours x d r) leaves (taking ours s x d r o)

-- the answer and the rows to put, by the rows read
unfoldable pub decide : Nwk → Search → Heard → View → Answer × Change
decide own s x v = decide_on (is_ours_of own s) s x v.discovery v.responder v.originator

abbrev pub carried : Answer × Change → Tables → Answer × Tables
carried p t = (p.0, applied p.1 t)

told-cond : (c : Bool) (t : Tables) (p q : Replied) (v w : Answer × Change) → told p ≡ carried v t → told q ≡ carried w t
    → told (cond c p q) ≡ carried (cond c v w) t
told-cond true t p q v w e f = e
told-cond false t p q v w e f = f

pub hear-is : (own : Nwk) (s : Search) (x : Heard) (t : Tables) → hear own s x t ≡ carried (decide own s x (view own s t)) t
unfolding hear reply reply_to reply_ours reply_theirs decide
hear-is own s x t =
    go (is_ours_of own s) (lookup discovery_key (search_key s) t.discoveries) (lookup route_key s.responder.0 t.routes)
  where
    go : (b : Bool) (d : Option DiscoveryEntry) (r : Option RouteEntry)
        → told (reply_to b s.originator x.sender x.cost t d r)
        ≡ carried (decide_on b s x d r (cond b None (lookup route_key s.originator.0 t.routes))) t
    go b None r = refl
    go b (Some d) None = refl
    go true (Some d) (Some r) = told-cond (drop_ours x.cost d r) t _ _ leaves (establishing x d r) refl refl
    go false (Some d) (Some r) = told-cond (leb d.residual_cost x.cost) t _ _ leaves _ refl (rw lookup-put)

-- a reply to a search that is held, whose responder has a route
pub hear-held : (own : Nwk) (s : Search) (x : Heard) (t : Tables) (d : DiscoveryEntry) (r : RouteEntry) → HeldAs s d t → RouteTo s.responder r t
    → hear own s x t ≡ carried (cond (drops (is_ours_of own s) x d r) leaves (taking (is_ours_of own s) s x d r (view own s t).originator)) t
unfolding decide
hear-held own s x t d r h k = hear-is own s x t ∙ rw (h, k)

-- the keys of the routes that a search writes: the responder, and a foreign originator
abbrev pub RouteKeys : Nwk → Search → ℕ → Type 0
RouteKeys own s k = (k ≡ s.responder.0) ⊎ ((k ≡ s.originator.0) × (s.originator.0 ≢ own.0))

abbrev pub DiscoveryKeys : Search → ℕ → Type 0
DiscoveryKeys s k = k ≡ search_key s

-- all rows of a change stand under the search's own keys
pub record OwnKeys (own : Nwk) (s : Search) (c : Change) : Type 0 where
  pub routes : Within route_key (RouteKeys own s) c.routes
  pub discoveries : Within discovery_key (DiscoveryKeys s) c.discoveries

pub considered-key : (hop : Nwk) (cost : ℕ) (e : RouteEntry) → route_key (considered hop cost e) ≡ route_key e
unfolding considered
considered-key hop cost e = go (suits cost e) where
  go : (b : Bool) → route_key (cond b (via hop cost e) e) ≡ route_key e
  go true = refl
  go false = refl

pub found-key : (s : Search) (r : RouteEntry) (xs : List RouteEntry) → route_key (found s r (lookup route_key s.originator.0 xs)) ≡ s.originator.0
found-key s r xs = go (eqb (route_key r) s.originator.0) refl (lookup route_key s.originator.0 xs) refl where
  go : (b : Bool) → eqb (route_key r) s.originator.0 ≡ b → (o : Option RouteEntry) → lookup route_key s.originator.0 xs ≡ o
      → route_key (unwrap_or (cond b (Some r) o) (new_route s.originator Inactive unknown_hop)) ≡ s.originator.0
  go true e o f = eqb-true (route_key r) s.originator.0 e
  go false e None f = refl
  go false e (Some q) f = lookup_key route_key s.originator.0 xs q f

pub own_keys : (own : Nwk) (s : Search) (x : Heard) (t : Tables) → OwnKeys own s (decide own s x (view own s t)).1
unfolding decide
own_keys own s x t =
    go (is_ours_of own s) refl (lookup discovery_key (search_key s) t.discoveries) refl (lookup route_key s.responder.0 t.routes) refl
  where
    pick : (c : Bool) (w : Answer × Change) → OwnKeys own s w.1 → OwnKeys own s (cond c leaves w).1
    pick true w h = record { routes = tt; discoveries = tt }
    pick false w h = h

    go : (b : Bool) → is_ours_of own s ≡ b
        → (d : Option DiscoveryEntry) → lookup discovery_key (search_key s) t.discoveries ≡ d
        → (r : Option RouteEntry) → lookup route_key s.responder.0 t.routes ≡ r
        → OwnKeys own s (decide_on b s x d r (cond b None (lookup route_key s.originator.0 t.routes))).1
    go b m None e r f = record { routes = tt; discoveries = tt }
    go b m (Some d) e None f = record { routes = tt; discoveries = tt }
    go true m (Some d) e (Some r) f =
        pick (drop_ours x.cost d r) (establishing x d r)
        (record { routes = (inl (lookup_key route_key _ _ r f), tt); discoveries = (lookup_key discovery_key _ _ d e, tt) })
    go false m (Some d) e (Some r) f =
        pick (leb d.residual_cost x.cost) (relaying x d r _)
        (record {
          routes = (
            inl (lookup_key route_key _ _ r f),
            (inr (considered-key _ _ _ ∙ found-key s (via x.sender x.cost r) t.routes, eqb-false _ _ m), tt),
          );
          discoveries = (lookup_key discovery_key _ _ d e, tt);
        })
