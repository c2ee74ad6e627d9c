-- Under the conditions no reply makes or removes a row, and the rows stay in order: every row is put where one stands already.
-- So no reply is refused for want of room, and the conditions hold after it as before.
use Rattle.std.specs.Prelude.{Some}
use Prim.Native.Nat.{ℕ}
use mathlib.Core.Path.{◌≡◌, refl, sym, ap, ◌∙◌, subst}
use mathlib.Core.Logic.{◌⊎◌, inl, inr}
use mathlib.Core.Bool.{Bool, true, false, cond}
use mathlib.Core.List.{List, [], ◌∷◌}
use lib.Dec.{eqb}
use lib.ListN.{length}
use Rattle.types.specs.declared.Nwk.{Nwk}
use Rattle.standard.specs.Ordered.{Ascending, lookup, put}
use Rattle.standard.specs.Route.{route_key}
use Rattle.standard.specs.Discovery.{discovery_key}
use Rattle.standard.specs.Tables.{Tables, InOrder}
use Rattle.flat_map.proofs.Ordered.{ascending-put, length-put, count-with-found}
use Rattle.two_searches.specs.Streams.{Search, Heard, hear, final, either, hear_both}
use Rattle.two_searches.specs.Conditions.{search_key, Held, Known, ForeignKnown, Conditions, Fits}
use Rattle.two_searches.proofs.Puts.{puts, Within, lookup-put}
use Rattle.two_searches.proofs.Touch.{Change, applied, view, decide, hear-is, RouteKeys, own_keys}
use Rattle.two_searches.proofs.Merged.{addresses-differ}
use Rattle.two_searches.proofs.Ranges.{ranged-kept}

module _ {E : Type 0} (key_of : E → ℕ) where
  -- there is a row under k
  abbrev Present : List E → ℕ → Type 0
  Present xs k = (e : E) × (lookup key_of k xs ≡ Some e)

  present-put : (k : ℕ) (e : E) (xs : List E) → Present xs k → Present (put key_of e xs) k
  present-put k e xs p = go (eqb (key_of e) k) (lookup-put key_of k e xs) where
    go : (b : Bool) → lookup key_of k (put key_of e xs) ≡ cond b (Some e) (lookup key_of k xs) → Present (put key_of e xs) k
    go true q = (e, q)
    go false q = (p.0, q ∙ p.1)

  pub present-puts : (k : ℕ) (es xs : List E) → Present xs k → Present (puts key_of es xs) k
  present-puts k [] xs p = p
  present-puts k (e ∷ es) xs p = present-puts k es (put key_of e xs) (present-put k e xs p)

  pub ascending-puts : (es xs : List E) → Ascending key_of xs → Ascending key_of (puts key_of es xs)
  ascending-puts [] xs a = a
  ascending-puts (e ∷ es) xs a = ascending-puts es (put key_of e xs) (ascending-put key_of e xs a)

  pub within-map : (K L : ℕ → Type 0) → ((k : ℕ) → K k → L k) → (es : List E) → Within key_of K es → Within key_of L es
  within-map K L f [] w = tt
  within-map K L f (e ∷ es) w = (f (key_of e) w.0, within-map K L f es w.1)

  -- rows put where rows stand add none
  pub length-puts : (es xs : List E) → Ascending key_of xs → Within key_of (Present xs) es → length (puts key_of es xs) ≡ length xs
  length-puts [] xs a w = refl
  length-puts (e ∷ es) xs a w =
      length-puts es (put key_of e xs) (ascending-put key_of e xs a) (within-map (Present xs) (Present (put key_of e xs)) (λ k. present-put k e xs) es w.1)
      ∙ length-put key_of e xs a ∙ count-with-found key_of (key_of e) w.0.0 xs w.0.1

module _ (own : Nwk) (s : Search) (x : Heard) (t : Tables) where
  -- what the reply puts
  abbrev change : Change
  change = (decide own s x (view own s t)).1

  after : (hear own s x t).1 ≡ applied change t
  after = ap (λ q. q.1) (hear-is own s x t)

  -- any reply, whatever the tables hold, keeps the order, and what is there stays there
  pub in-order-kept : InOrder t → InOrder (hear own s x t).1
  in-order-kept h =
      rw after
      (record { routes = ascending-puts route_key change.routes t.routes h.routes; discoveries = ascending-puts discovery_key change.discoveries t.discoveries h.discoveries })

  pub known_kept : (n : Nwk) → Known n t → Known n (hear own s x t).1
  known_kept n k = rw after (present-puts route_key n.0 change.routes t.routes k)

  pub held_kept : (q : Search) → Held q t → Held q (hear own s x t).1
  held_kept q k = rw after (present-puts discovery_key (search_key q) change.discoveries t.discoveries k)

  -- a reply to a search that is held, with the routes that it writes there already, leaves both tables' sizes
  pub sizes-kept : InOrder t → Held s t → Known s.responder t → ForeignKnown own s t
      → (length (hear own s x t).1.routes ≡ length t.routes) × (length (hear own s x t).1.discoveries ≡ length t.discoveries)
  sizes-kept h held known foreign =
      rw after (
        length-puts route_key change.routes t.routes h.routes (within-map route_key (RouteKeys own s) (Present route_key t.routes) route change.routes (own_keys own s x t).routes),
        length-puts discovery_key change.discoveries t.discoveries h.discoveries
            (within-map discovery_key (λ k. k ≡ search_key s) (Present discovery_key t.discoveries) discovery change.discoveries (own_keys own s x t).discoveries),
      )
    where
      route : (k : ℕ) → RouteKeys own s k → Present route_key t.routes k
      route k (inl e) = subst (Present route_key t.routes) (sym e) known
      route k (inr e) = subst (Present route_key t.routes) (sym e.0) (foreign (addresses-differ s.originator own e.1))

      discovery : (k : ℕ) → k ≡ search_key s → Present discovery_key t.discoveries k
      discovery k e = subst (Present discovery_key t.discoveries) (sym e) held

module _ (own : Nwk) (a b : Search) (t : Tables) where
  -- the conditions hold after any reply to any search
  pub conditions-kept : Conditions own a b t → (s : Search) (x : Heard) → Conditions own a b (hear own s x t).1
  conditions-kept c s x =
      record {
        pairs-differ = c.pairs-differ;
        ids-are-bytes = c.ids-are-bytes;
        held = (held_kept own s x t a c.held.0, held_kept own s x t b c.held.1);
        responders-differ = c.responders-differ;
        no-responder-is-originator = c.no-responder-is-originator;
        originators-differ = c.originators-differ;
        responders-known = (known_kept own s x t a.responder c.responders-known.0, known_kept own s x t b.responder c.responders-known.1);
        originators-known = (
          λ n. known_kept own s x t a.originator (c.originators-known.0 n),
          λ n. known_kept own s x t b.originator (c.originators-known.1 n),
        );
      }

  -- under the conditions a reply to either search leaves both tables' sizes
  pub same_size : Conditions own a b t → InOrder t → (x : Heard)
      → ((length (hear own a x t).1.routes ≡ length t.routes) × (length (hear own a x t).1.discoveries ≡ length t.discoveries))
      × ((length (hear own b x t).1.routes ≡ length t.routes) × (length (hear own b x t).1.discoveries ≡ length t.discoveries))
  same_size c h x = (
    sizes-kept own a x t h c.held.0 c.responders-known.0 c.originators-known.0,
    sizes-kept own b x t h c.held.1 c.responders-known.1 c.originators-known.1,
  )

  -- tables that fit still fit after a reply to either
  pub first_fits : (m n : ℕ) → Fits own a b m n t → (x : Heard) → Fits own a b m n (hear own a x t).1
  first_fits m n f x =
      let size = (same_size f.conditions f.in_order x).0 in
      record {
        conditions = conditions-kept f.conditions a x;
        in_order = in-order-kept own a x t f.in_order;
        in-range = ranged-kept own a x t f.in-range;
        routes-fit = rw size.0 f.routes-fit;
        discoveries-fit = rw size.1 f.discoveries-fit;
      }

  pub second_fits : (m n : ℕ) → Fits own a b m n t → (x : Heard) → Fits own a b m n (hear own b x t).1
  second_fits m n f x =
      let size = (same_size f.conditions f.in_order x).1 in
      record {
        conditions = conditions-kept f.conditions b x;
        in_order = in-order-kept own b x t f.in_order;
        in-range = ranged-kept own b x t f.in-range;
        routes-fit = rw size.0 f.routes-fit;
        discoveries-fit = rw size.1 f.discoveries-fit;
      }

-- and so they do after any merge
pub sizes-at-end : (own : Nwk) (a b : Search) (zs : List (Heard ⊎ Heard)) (t : Tables) → Conditions own a b t → InOrder t
    → (length (final (hear_both own a b) zs t).routes ≡ length t.routes)
    × (length (final (hear_both own a b) zs t).discoveries ≡ length t.discoveries)
    × InOrder (final (hear_both own a b) zs t)
unfolding final either
sizes-at-end own a b [] t c h = (refl, refl, h)
sizes-at-end own a b (inl x ∷ zs) t c h =
    let rest = sizes-at-end own a b zs (hear own a x t).1 (conditions-kept own a b t c a x) (in-order-kept own a x t h) in
    let size = (same_size own a b t c h x).0 in
    (rest.0 ∙ size.0, rest.1 ∙ size.1, rest.2)
sizes-at-end own a b (inr y ∷ zs) t c h =
    let rest = sizes-at-end own a b zs (hear own b y t).1 (conditions-kept own a b t c b y) (in-order-kept own b y t h) in
    let size = (same_size own a b t c h y).1 in
    (rest.0 ∙ size.0, rest.1 ∙ size.1, rest.2)
