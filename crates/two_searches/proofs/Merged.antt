-- However two streams of replies are merged, each is answered as alone and the tables end the same:
-- neither search puts a row under a key that the other reads or puts, so their steps are independent.
--
-- Not all of the conditions are needed for that. `merged-apart` wants no order of the rows, no held search, no route entry, no byte; and a
-- responder may be its own search's originator, or an originator that is us. What those conditions are for: a search that is held and
-- responders with route entries, for what is relayed (Exact, Own); foreign originators with route entries, for no refusal (Sizes).
use Rattle.std.specs.Prelude.{None}
use Prim.Native.Nat.{ℕ}
use mathlib.Core.Path.{◌≡◌, refl, sym, ap, ◌∙◌}
use mathlib.Core.Logic.{◌⊎◌, inl, inr, ◌≢◌}
use mathlib.Core.Bool.{Bool, true, false, cond}
use mathlib.Core.List.{List, [], ◌∷◌}
use native.Mathlib.Omega.{arith}
use borrow.Author.Tests.{eqb-false}
use Rattle.types.specs.declared.Nwk.{Nwk}
use Rattle.standard.specs.Ordered.{lookup}
use Rattle.standard.specs.Route.{route_key}
use Rattle.standard.specs.Discovery.{discovery_key}
use Rattle.standard.specs.Tables.{Tables}
use Rattle.two_searches.specs.Streams.{Search, Heard, hear, final, Merge, AsAlone, hear_both}
use Rattle.two_searches.specs.Conditions.{search_key, Conditions, Apart}
use Rattle.two_searches.specs.Steps.{Independent}
use Rattle.two_searches.proofs.Puts.{puts, lookup-puts, puts-comm}
use Rattle.two_searches.proofs.Touch.{Change, applied, is_ours_of, view, decide, hear-is, RouteKeys, DiscoveryKeys, OwnKeys, own_keys}
use Rattle.two_searches.proofs.Steps.{as-alone, same_end}

-- two addresses are one if their numbers are
pub one_address : (m n : Nwk) → m.0 ≡ n.0 → m ≡ n
one_address m n e = λ i. record { 0 = e i }

pub numbers-differ : (m n : Nwk) → m ≢ n → m.0 ≢ n.0
numbers-differ m n h e = h (one_address m n e)

pub addresses-differ : (m n : Nwk) → m.0 ≢ n.0 → m ≢ n
addresses-differ m n h e = h (ap (λ k. k.0) e)

pub apart-swap : (own : Nwk) (a b : Search) → Apart own a b → Apart own b a
apart-swap own a b p =
    record {
      keys-apart = λ e. p.keys-apart (sym e);
      responders-apart = λ e. p.responders-apart (sym e);
      first-responder-apart = p.second-responder-apart;
      second-responder-apart = p.first-responder-apart;
      originators-apart = λ e. e ∙ p.originators-apart (sym e);
    }

module _ (own : Nwk) (a b : Search) (p : Apart own a b) where
  -- no route key belongs to both
  routes-apart : (k : ℕ) → RouteKeys own a k → RouteKeys own b k → ⊥
  routes-apart k (inl e) (inl f) = p.responders-apart (one_address _ _ (sym e ∙ f))
  routes-apart k (inl e) (inr f) = p.first-responder-apart (addresses-differ _ _ f.1) (one_address _ _ (sym e ∙ f.0))
  routes-apart k (inr e) (inl f) = p.second-responder-apart (addresses-differ _ _ e.1) (one_address _ _ (sym f ∙ e.0))
  routes-apart k (inr e) (inr f) = e.1 (ap (λ n. n.0) (p.originators-apart (one_address _ _ (sym e.0 ∙ f.0))))

  discoveries-apart : (k : ℕ) → DiscoveryKeys a k → DiscoveryKeys b k → ⊥
  discoveries-apart k e f = p.keys-apart (sym e ∙ f)

  -- what the second search puts, the first does not see
  view-applied : (c : Change) → OwnKeys own b c → (t : Tables) → view own a (applied c t) ≡ view own a t
  view-applied c w t = λ i. record { discovery = d i; responder = r i; originator = o (is_ours_of own a) refl i } where
    d : lookup discovery_key (search_key a) (puts discovery_key c.discoveries t.discoveries) ≡ lookup discovery_key (search_key a) t.discoveries
    d = lookup-puts discovery_key (DiscoveryKeys b) (search_key a) (discoveries-apart (search_key a) refl) c.discoveries t.discoveries w.discoveries

    route : (k : ℕ) → RouteKeys own a k → lookup route_key k (puts route_key c.routes t.routes) ≡ lookup route_key k t.routes
    route k h = lookup-puts route_key (RouteKeys own b) k (routes-apart k h) c.routes t.routes w.routes

    r : lookup route_key a.responder.0 (puts route_key c.routes t.routes) ≡ lookup route_key a.responder.0 t.routes
    r = route _ (inl refl)

    o : (m : Bool) → is_ours_of own a ≡ m
        → cond m None (lookup route_key a.originator.0 (puts route_key c.routes t.routes)) ≡ cond m None (lookup route_key a.originator.0 t.routes)
    o true e = refl
    o false e = route _ (inr (refl, eqb-false _ _ e))

  applied-commute : (c e : Change) → OwnKeys own a c → OwnKeys own b e → (t : Tables) → applied c (applied e t) ≡ applied e (applied c t)
  applied-commute c e v w t = λ i. record {
    routes = puts-comm route_key (RouteKeys own a) (RouteKeys own b) routes-apart c.routes e.routes t.routes v.routes w.routes i;
    discoveries = puts-comm discovery_key (DiscoveryKeys a) (DiscoveryKeys b) discoveries-apart c.discoveries e.discoveries t.discoveries v.discoveries w.discoveries i;
  }

  -- a reply of the second search leaves what the first sees
  pub view-kept : (y : Heard) (t : Tables) → view own a (hear own b y t).1 ≡ view own a t
  view-kept y t = ap (λ q. view own a q.1) (hear-is own b y t) ∙ view-applied _ (own_keys own b y t) t

  -- and so its answer
  pub answer-kept : (x y : Heard) (t : Tables) → (hear own a x (hear own b y t).1).0 ≡ (hear own a x t).0
  answer-kept x y t =
      ap (λ q. q.0) (hear-is own a x (hear own b y t).1) ∙ ap (λ v. (decide own a x v).0) (view-kept y t)
      ∙ sym (ap (λ q. q.0) (hear-is own a x t))

-- one search's step after the other's puts what each would put alone
after_both : (own : Nwk) (a b : Search) → Apart own a b → (x y : Heard) (t : Tables)
    → (hear own a x (hear own b y t).1).1
    ≡ applied (decide own a x (view own a t)).1 (applied (decide own b y (view own b t)).1 t)
after_both own a b p x y t =
    ap (λ q. q.1) (hear-is own a x (hear own b y t).1)
    ∙ ap (λ v. applied (decide own a x v).1 (hear own b y t).1) (view-kept own a b p y t)
    ∙ ap (λ q. applied (decide own a x (view own a t)).1 q.1) (hear-is own b y t)

-- the steps of two searches that are apart are independent, whatever the tables hold
pub independent : (own : Nwk) (a b : Search) → Apart own a b → Independent (λ t. Unit {0}) (hear own a) (hear own b)
independent own a b p =
    record {
      first-keeps = λ x t h. tt;
      second-keeps = λ y t h. tt;
      first-answer = λ x y t h. answer-kept own a b p x y t;
      second-answer = λ x y t h. answer-kept own b a (apart-swap own a b p) y x t;
      commute = λ x y t h.
          after_both own a b p x y t
          ∙ applied-commute own a b p _ _ (own_keys own a x t) (own_keys own b y t) t
          ∙ sym (after_both own b a (apart-swap own a b p) y x t);
    }

-- the conditions keep two searches apart
pub conditions-apart : (own : Nwk) (a b : Search) (t : Tables) → Conditions own a b t → Apart own a b
conditions-apart own a b t c =
    record {
      keys-apart = λ e.
          let bytes = c.ids-are-bytes in
          c.pairs-differ (one_address a.originator b.originator (omega arith)) (omega arith);
      responders-apart = c.responders-differ;
      first-responder-apart = λ h. c.no-responder-is-originator.0.1;
      second-responder-apart = λ h. c.no-responder-is-originator.1.0;
      originators-apart = c.originators-differ;
    }

-- Demand 3: "However the streams are merged, each reply is answered as in its own stream alone, and the tables end the same."
pub merged : (own : Nwk) (a b : Search) (t : Tables) → Conditions own a b t
    → {xs ys : List Heard} {zs : List (Heard ⊎ Heard)} → Merge xs ys zs → AsAlone (hear own a) (hear own b) xs ys zs t
merged own a b t c m = as-alone (independent own a b (conditions-apart own a b t c)) m t tt

-- The same by what is needed alone, from any tables.
pub merged-apart : (own : Nwk) (a b : Search) → Apart own a b
    → {xs ys : List Heard} {zs : List (Heard ⊎ Heard)} → Merge xs ys zs → (t : Tables) → AsAlone (hear own a) (hear own b) xs ys zs t
merged-apart own a b p m t = as-alone (independent own a b p) m t tt

-- Two merges of the same streams leave the same tables.
pub merges-end-alike : (own : Nwk) (a b : Search) → Apart own a b
    → {xs ys : List Heard} {zs ws : List (Heard ⊎ Heard)} → Merge xs ys zs → Merge xs ys ws → (t : Tables)
    → final (hear_both own a b) zs t ≡ final (hear_both own a b) ws t
merges-end-alike own a b p m n t = same_end (independent own a b p) m n t tt

-- a stream of the second search leaves what the first sees
view-stream : (own : Nwk) (a b : Search) → Apart own a b → (ys : List Heard) (t : Tables) → view own a (final (hear own b) ys t) ≡ view own a t
unfolding final
view-stream own a b p [] t = refl
view-stream own a b p (y ∷ ys) t = view-stream own a b p ys (hear own b y t).1 ∙ view-kept own a b p y t

module _ (own : Nwk) (a b : Search) (p : Apart own a b) {xs ys : List Heard} {zs : List (Heard ⊎ Heard)} (m : Merge xs ys zs) (t : Tables) where
  -- After any merge each responder's route is what its own stream alone would leave.
  pub first-route : lookup route_key a.responder.0 (final (hear_both own a b) zs t).routes
      ≡ lookup route_key a.responder.0 (final (hear own a) xs t).routes
  first-route =
      ap (λ u. lookup route_key a.responder.0 u.routes) (merged-apart own a b p m t).end
      ∙ ap (λ v. v.responder) (view-stream own a b p ys (final (hear own a) xs t))

  pub second-route : lookup route_key b.responder.0 (final (hear_both own a b) zs t).routes
      ≡ lookup route_key b.responder.0 (final (hear own b) ys t).routes
  second-route =
      ap (λ u. lookup route_key b.responder.0 u.routes) (merged-apart own a b p m t).other-end
      ∙ ap (λ v. v.responder) (view-stream own b a (apart-swap own a b p) xs (final (hear own b) ys t))
