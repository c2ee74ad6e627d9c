-- Which replies of a stream are taken, for our own search and another's alike: a reply is tested against the residual, and a reply taken
-- makes its cost the residual, so that the residual is always the lowest cost so far. By going through the stream.
use Rattle.std.specs.Prelude.{Option, Some, None}
use Prim.Native.Nat.{ℕ, zero, suc, ◌<◌, ◌≤◌}
use mathlib.Core.Path.{◌≡◌, refl, sym, ap, ◌∙◌}
use mathlib.Core.Logic.{◌⊎◌, inl, inr, ◌≢◌, ◌↔◌}
use mathlib.Core.Bool.{Bool, true, false, cond, false≢true}
use mathlib.Core.List.{List, [], ◌∷◌}
use native.Mathlib.Omega.{arith}
use lib.Dec.{leb, eqb}
use lib.ListN.{length}
use borrow.Author.Tests.{le-leb, lt-leb}
use Rattle.types.specs.declared.Nwk.{Nwk}
use Rattle.standard.specs.declared.RouteEntry.{RouteEntry}
use Rattle.standard.specs.declared.DiscoveryEntry.{DiscoveryEntry}
use Rattle.standard.specs.declared.RouteReplyDisposition.{RouteReplyDisposition}
use Rattle.standard.specs.declared.RouteReplyDisposition.TheVariants.{Drop, Established, Relay}
use Rattle.standard.specs.Ordered.{lookup, put}
use Rattle.standard.specs.Route.{route_key, is_active, via, considered}
use Rattle.standard.specs.Discovery.{discovery_key}
use Rattle.standard.specs.Tables.{Tables}
use Rattle.standard.specs.Reply.{settled}
use Rattle.flat_map.proofs.Compare.{below_or_not}
use Rattle.flat_map.proofs.Ordered.{lookup_key, lookup-put-same, lookup-put-other}
use Rattle.two_searches.specs.Streams.{Search, Heard, Answer, hear, answers, final}
use Rattle.two_searches.specs.Conditions.{search_key, HeldAs, RouteTo}
use Rattle.two_searches.specs.Exactly.{reply_at, drop_answer, answer_at, Beats, Last, Nowhere}
use Rattle.two_searches.proofs.Puts.{lookup-put}
use Rattle.two_searches.proofs.Touch.{Change, applied, is_ours_of, view, found, leaves, drops, taking, carried, hear-held, considered-key, found-key}

-- how a reply is taken: ours is established, another's relayed to the discovery's sender at the reply's cost
abbrev pub taken : Bool → DiscoveryEntry → Heard → RouteReplyDisposition
taken true d x = Established
taken false d x = Relay d.sender_address x.cost

-- the search s is held as d, and its responder's route is r
pub record Stands (s : Search) (d : DiscoveryEntry) (r : RouteEntry) (t : Tables) : Type 0 where
  pub discovery : HeldAs s d t
  pub route : RouteTo s.responder r t

module _ (own : Nwk) (s : Search) where
  module _ (x : Heard) (t : Tables) (d : DiscoveryEntry) (r : RouteEntry) (h : Stands s d r t) where
    -- what is done with a reply that is not dropped
    abbrev done : Answer × Change
    done = taking (is_ours_of own s) s x d r (view own s t).originator

    is-dropped : drops (is_ours_of own s) x d r ≡ true → hear own s x t ≡ (drop_answer, t)
    is-dropped e = hear-held own s x t d r h.discovery h.route ∙ ap (λ c. carried (cond c leaves done) t) e

    is-taken : drops (is_ours_of own s) x d r ≡ false → hear own s x t ≡ carried done t
    is-taken e = hear-held own s x t d r h.discovery h.route ∙ ap (λ c. carried (cond c leaves done) t) e

    done-disposition : done.0.disposition ≡ taken (is_ours_of own s) d x
    done-disposition = go (is_ours_of own s) (view own s t).originator where
      go : (b : Bool) (o : Option RouteEntry) → (taking b s x d r o).0.disposition ≡ taken b d x
      go true o = refl
      go false o = refl

    responder-key : route_key r ≡ s.responder.0
    responder-key = lookup_key route_key s.responder.0 t.routes r h.route

    -- the cost is the residual now
    done-discovery : HeldAs s (settled x.cost d) (applied done.1 t)
    done-discovery = go (is_ours_of own s) (view own s t).originator where
      put-there : lookup discovery_key (search_key s) (put discovery_key (settled x.cost d) t.discoveries) ≡ Some (settled x.cost d)
      put-there = rw (← lookup_key discovery_key (search_key s) t.discoveries d h.discovery) (lookup-put-same discovery_key (settled x.cost d) t.discoveries)

      go : (b : Bool) (o : Option RouteEntry) → HeldAs s (settled x.cost d) (applied (taking b s x d r o).1 t)
      go true o = put-there
      go false o = put-there

    -- the responder's route as it is written
    written-route : lookup route_key s.responder.0 (put route_key (via x.sender x.cost r) t.routes) ≡ Some (via x.sender x.cost r)
    written-route = rw (← responder-key) (lookup-put-same route_key (via x.sender x.cost r) t.routes)

    -- what a relay does to the originator's route leaves it, if the responder is not the originator
    done-route : (is_ours_of own s ≡ false → s.responder.0 ≢ s.originator.0) → RouteTo s.responder (via x.sender x.cost r) (applied done.1 t)
    done-route n = go (is_ours_of own s) n where
      go : (b : Bool) → (b ≡ false → s.responder.0 ≢ s.originator.0)
          → RouteTo s.responder (via x.sender x.cost r) (applied (taking b s x d r (cond b None (lookup route_key s.originator.0 t.routes))).1 t)
      go true n = written-route
      go false n =
          lookup-put-other route_key s.responder.0 _ (put route_key (via x.sender x.cost r) t.routes)
          (λ e. n refl (sym e ∙ considered-key _ _ _ ∙ found-key s (via x.sender x.cost r) t.routes))
          ∙ written-route

    -- and in any case there is one; of our own search it is Active
    done-known : (q : RouteEntry) × RouteTo s.responder q (applied done.1 t) × (is_ours_of own s ≡ true → is_active q.status ≡ true)
    done-known = go (is_ours_of own s) (view own s t).originator where
      over : (c : Bool) (e : RouteEntry) → eqb (route_key e) s.responder.0 ≡ c
          → (q : RouteEntry) × (lookup route_key s.responder.0 (put route_key e (put route_key (via x.sender x.cost r) t.routes)) ≡ Some q)
          × (false ≡ true → is_active q.status ≡ true)
      over true e m = (e, rw (lookup-put, m) refl, λ f. absurd (false≢true f))
      over false e m = (via x.sender x.cost r, rw (lookup-put, m) written-route, λ f. refl)

      go : (b : Bool) (o : Option RouteEntry)
          → (q : RouteEntry) × RouteTo s.responder q (applied (taking b s x d r o).1 t) × (b ≡ true → is_active q.status ≡ true)
      go true o = (via x.sender x.cost r, written-route, λ e. refl)
      go false o = over (eqb (route_key e) s.responder.0) e refl where
        e : RouteEntry
        e = considered d.sender_address d.forward_cost (found s (via x.sender x.cost r) o)

  -- the search is held as d and only the residual decides: the responder has a route, which is Active if the search is ours
  pub record Ready (d : DiscoveryEntry) (t : Tables) : Type 0 where
    pub route : RouteEntry
    pub stands : Stands s d route t
    pub active : is_ours_of own s ≡ true → is_active route.status ≡ true

  residual-decides : (x : Heard) (t : Tables) (d : DiscoveryEntry) (h : Ready d t) → drops (is_ours_of own s) x d h.route ≡ leb d.residual_cost x.cost
  residual-decides x t d h = go (is_ours_of own s) h.active where
    go : (b : Bool) → (b ≡ true → is_active h.route.status ≡ true) → drops b x d h.route ≡ leb d.residual_cost x.cost
    go true a = rw (a refl)
    go false a = refl

  not-below : (x : Heard) (t : Tables) (d : DiscoveryEntry) → Ready d t → d.residual_cost ≤ x.cost → hear own s x t ≡ (drop_answer, t)
  not-below x t d h l = is-dropped x t d h.route h.stands (residual-decides x t d h ∙ le-leb _ _ l)

  below : (x : Heard) (t : Tables) (d : DiscoveryEntry) → Ready d t → x.cost < d.residual_cost
      → ((hear own s x t).0.disposition ≡ taken (is_ours_of own s) d x) × Ready (settled x.cost d) (hear own s x t).1
  below x t d h l =
      let e = is-taken x t d h.route h.stands (residual-decides x t d h ∙ lt-leb _ _ l) in
      let k = done-known x t d h.route h.stands in
      rw e (
        done-disposition x t d h.route h.stands,
        record {
          route = k.0;
          stands = record { discovery = done-discovery x t d h.route h.stands; route = k.1 };
          active = k.2;
        },
      )

-- going one reply on: the residual falls to a lower cost, or stays under a higher one
beats-fallen : (n : ℕ) (x : Heard) (xs : List Heard) (i : ℕ) → x.cost < n → Beats x.cost xs i ↔ Beats n (x ∷ xs) (suc i)
beats-fallen n x xs i l = (
  λ h. record { start = omega (arith, h.start); earlier = λ j m. go h j m },
  λ h. record { start = h.earlier zero (omega arith); earlier = λ j m. h.earlier (suc j) (omega arith) },
)
  where
    go : Beats x.cost xs i → (j : ℕ) → j < suc i → (reply_at xs i).cost < (reply_at (x ∷ xs) j).cost
    go h zero m = h.start
    go h (suc j) m = h.earlier j (omega arith)

pub beats-stayed : (n : ℕ) (x : Heard) (xs : List Heard) (i : ℕ) → n ≤ x.cost → Beats n xs i ↔ Beats n (x ∷ xs) (suc i)
beats-stayed n x xs i l = (
  λ h. record { start = h.start; earlier = λ j m. go h j m },
  λ h. record { start = h.start; earlier = λ j m. h.earlier (suc j) (omega arith) },
)
  where
    go : Beats n xs i → (j : ℕ) → j < suc i → (reply_at xs i).cost < (reply_at (x ∷ xs) j).cost
    go h zero m = omega (arith, h.start)
    go h (suc j) m = h.earlier j (omega arith)

-- the rule with a mark for the answers that take a reply: no drop has it, and every answer that takes has
module _
    (own : Nwk)
    (s : Search)
    (mark : RouteReplyDisposition → Bool)
    (drop-unmarked : mark Drop ≡ false)
    (taken-marked : (d : DiscoveryEntry) (x : Heard) → mark (taken (is_ours_of own s) d x) ≡ true)
  where
    abbrev Marked : Answer → Type 0
    Marked r = mark r.disposition ≡ true

    drop-not-marked : Marked drop_answer → ⊥
    drop-not-marked e = false≢true (sym drop-unmarked ∙ e)

    -- a reply is taken exactly if it is below the residual and every earlier cost
    pub exactly : (xs : List Heard) (t : Tables) (d : DiscoveryEntry) → Ready own s d t
        → (i : ℕ) → i < length xs → Marked (answer_at (answers (hear own s) xs t) i) ↔ Beats d.residual_cost xs i
    unfolding answers
    exactly [] t d h i l = absurd (omega arith)
    exactly (x ∷ xs) t d h zero l = go (below_or_not x.cost d.residual_cost) where
      go : (x.cost < d.residual_cost) ⊎ (d.residual_cost ≤ x.cost) → Marked (hear own s x t).0 ↔ Beats d.residual_cost (x ∷ xs) zero
      go (inl m) = (
        λ e. record { start = m; earlier = λ j k. absurd (omega arith) },
        λ b. ap mark (below own s x t d h m).0 ∙ taken-marked d x,
      )
      go (inr m) = (
        λ e. absurd (drop-not-marked (rw (not-below own s x t d h m) at e)),
        λ b. absurd (omega (arith, b.start)),
      )
    exactly (x ∷ xs) t d h (suc i) l = go (λ u e k. exactly xs u e k i (omega arith)) (below_or_not x.cost d.residual_cost) where
      go : ((u : Tables) (e : DiscoveryEntry) → Ready own s e u → Marked (answer_at (answers (hear own s) xs u) i) ↔ Beats e.residual_cost xs i)
          → (x.cost < d.residual_cost) ⊎ (d.residual_cost ≤ x.cost)
          → Marked (answer_at (answers (hear own s) xs (hear own s x t).1) i) ↔ Beats d.residual_cost (x ∷ xs) (suc i)
      go rest (inl m) =
          let k = rest (hear own s x t).1 (settled x.cost d) (below own s x t d h m).1 in
          let b = beats-fallen d.residual_cost x xs i m in
          (λ e. b.0 (k.0 e), λ e. k.1 (b.1 e))
      go rest (inr m) =
          let k = rest t d h in
          let b = beats-stayed d.residual_cost x xs i m in
          rw (not-below own s x t d h m) (λ e. b.0 (k.0 e), λ e. k.1 (b.1 e))

    module _ (x : Heard) (t : Tables) (d : DiscoveryEntry) (r : RouteEntry) (h : Stands s d r t) where
      pub taken-is-marked : drops (is_ours_of own s) x d r ≡ false → Marked (hear own s x t).0
      taken-is-marked e = ap (λ q. mark q.0.disposition) (is-taken own s x t d r h e) ∙ ap mark (done-disposition own s x t d r h) ∙ taken-marked d x

      dropped-is-unmarked : drops (is_ours_of own s) x d r ≡ true → Marked (hear own s x t).0 → ⊥
      dropped-is-unmarked e m = drop-not-marked (rw (is-dropped own s x t d r h e) at m)

      -- after a reply that is taken the search stands by its cost and its sender
      pub stands_after : (is_ours_of own s ≡ false → s.responder.0 ≢ s.originator.0) → drops (is_ours_of own s) x d r ≡ false
          → Stands s (settled x.cost d) (via x.sender x.cost r) (hear own s x t).1
      stands_after n e = rw (is-taken own s x t d r h e) (record { discovery = done-discovery own s x t d r h; route = done-route own s x t d r h n })

    -- a stream of which nothing is taken leaves the tables as they were
    pub nothing-taken : (xs : List Heard) (t : Tables) (d : DiscoveryEntry) (r : RouteEntry) → Stands s d r t
        → Nowhere Marked (answers (hear own s) xs t) → final (hear own s) xs t ≡ t
    unfolding answers final
    nothing-taken [] t d r h n = refl
    nothing-taken (x ∷ xs) t d r h n = go (drops (is_ours_of own s) x d r) refl (nothing-taken xs t d r h) where
      later : Nowhere Marked (answers (hear own s) xs (hear own s x t).1)
      later = λ i l. n (suc i) (omega arith)

      go : (c : Bool) → drops (is_ours_of own s) x d r ≡ c → (Nowhere Marked (answers (hear own s) xs t) → final (hear own s) xs t ≡ t)
          → final (hear own s) xs (hear own s x t).1 ≡ t
      go true e rest = rw (is-dropped own s x t d r h e) (rest (rw (is-dropped own s x t d r h e) at later))
      go false e rest = absurd (n zero (omega arith) (taken-is-marked x t d r h e))

    -- the last one taken is the responder's route: Active, by its sender, at its cost; the rest of the entry as it was
    pub last_taken : (is_ours_of own s ≡ false → s.responder.0 ≢ s.originator.0)
        → (xs : List Heard) (t : Tables) (d : DiscoveryEntry) (r : RouteEntry) → Stands s d r t
        → (i : ℕ) → Last Marked (answers (hear own s) xs t) i
        → RouteTo s.responder (via (reply_at xs i).sender (reply_at xs i).cost r) (final (hear own s) xs t)
    unfolding answers final
    last_taken n [] t d r h i l = absurd (drop-not-marked l.here)
    last_taken n (x ∷ xs) t d r h zero l = go (drops (is_ours_of own s) x d r) refl where
      None : Nowhere Marked (answers (hear own s) xs (hear own s x t).1)
      None = λ j m. l.none-later (suc j) (omega arith) (omega arith)

      go : (c : Bool) → drops (is_ours_of own s) x d r ≡ c → RouteTo s.responder (via x.sender x.cost r) (final (hear own s) xs (hear own s x t).1)
      go true e = absurd (dropped-is-unmarked x t d r h e l.here)
      go false e =
          let k = stands_after x t d r h n e in
          rw (nothing-taken xs (hear own s x t).1 (settled x.cost d) (via x.sender x.cost r) k None) k.route
    last_taken n (x ∷ xs) t d r h (suc i) l = go (drops (is_ours_of own s) x d r) refl (λ u e q k. last_taken n xs u e q k i) where
      rest-last : Last Marked (answers (hear own s) xs (hear own s x t).1) i
      rest-last = record { here = l.here; none-later = λ j m k. l.none-later (suc j) (omega arith) (omega arith) }

      go : (c : Bool) → drops (is_ours_of own s) x d r ≡ c
          → ((u : Tables) (e : DiscoveryEntry) (q : RouteEntry) → Stands s e q u → Last Marked (answers (hear own s) xs u) i
          → RouteTo s.responder (via (reply_at xs i).sender (reply_at xs i).cost q) (final (hear own s) xs u))
          → RouteTo s.responder (via (reply_at xs i).sender (reply_at xs i).cost r) (final (hear own s) xs (hear own s x t).1)
      go true e rest = rw (is-dropped own s x t d r h e) (rest t d r h (rw (is-dropped own s x t d r h e) at rest-last))
      go false e rest = rest (hear own s x t).1 (settled x.cost d) (via x.sender x.cost r) (stands_after x t d r h n e) rest-last

-- every answer takes the reply or is a plain drop
module _ (own : Nwk) (s : Search) where
  same-hop : (b : Bool) (c : ℕ) (d : DiscoveryEntry) (x : Heard) → taken b (settled c d) x ≡ taken b d x
  same-hop true c d x = refl
  same-hop false c d x = refl

  pub taken-or-dropped : (xs : List Heard) (t : Tables) (d : DiscoveryEntry) (r : RouteEntry) → Stands s d r t
      → (i : ℕ) → i < length xs
      → ((answer_at (answers (hear own s) xs t) i).disposition ≡ taken (is_ours_of own s) d (reply_at xs i)) ⊎ (answer_at (answers (hear own s) xs t) i ≡ drop_answer)
  unfolding answers
  taken-or-dropped [] t d r h i l = absurd (omega arith)
  taken-or-dropped (x ∷ xs) t d r h zero l = go (drops (is_ours_of own s) x d r) refl where
    go : (c : Bool) → drops (is_ours_of own s) x d r ≡ c → ((hear own s x t).0.disposition ≡ taken (is_ours_of own s) d x) ⊎ ((hear own s x t).0 ≡ drop_answer)
    go true e = inr (ap (λ q. q.0) (is-dropped own s x t d r h e))
    go false e = inl (ap (λ q. q.0.disposition) (is-taken own s x t d r h e) ∙ done-disposition own s x t d r h)
  taken-or-dropped (x ∷ xs) t d r h (suc i) l = go (drops (is_ours_of own s) x d r) refl (λ u e q k. taken-or-dropped xs u e q k i (omega arith)) where
    Either : Tables → DiscoveryEntry → Type 0
    Either u e =
        ((answer_at (answers (hear own s) xs u) i).disposition ≡ taken (is_ours_of own s) e (reply_at xs i)) ⊎ (answer_at (answers (hear own s) xs u) i ≡ drop_answer)

    hop : (u : Tables) → Either u (settled x.cost d) → Either u d
    hop u (inl e) = inl (e ∙ same-hop (is_ours_of own s) x.cost d (reply_at xs i))
    hop u (inr e) = inr e

    go : (c : Bool) → drops (is_ours_of own s) x d r ≡ c
        → ((u : Tables) (e : DiscoveryEntry) (q : RouteEntry) → Stands s e q u → Either u e) → Either (hear own s x t).1 d
    go true e rest = rw (is-dropped own s x t d r h e) (rest t d r h)
    go false e rest =
        let k = done-known own s x t d r h in
        let after : Stands s (settled x.cost d) k.0 (hear own s x t).1
        = rw (is-taken own s x t d r h e) (record { discovery = done-discovery own s x t d r h; route = k.1 }) in
        hop (hear own s x t).1 (rest (hear own s x t).1 (settled x.cost d) k.0 after)
