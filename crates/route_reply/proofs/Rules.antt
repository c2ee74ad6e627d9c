-- The rule's outcomes on columns: columns that hold an outcome's rows have room for them, so the outcome is answered, and
-- it is refused exactly if the originator's route has no room. What is written goes over rows that are there, so the room stays.
use Rattle.std.specs.Prelude.{Option, Some, None, Result, Ok, Err}
use Prim.Native.Nat.{ℕ, suc, ◌<◌, ◌≤◌}
use native.Mathlib.Omega.{arith}
use mathlib.Core.Bool.{Bool, true, false, cond}
use mathlib.Core.List.{List, [], ◌∷◌}
use mathlib.Core.Path.{◌≡◌, refl, sym, ap, ◌∙◌, subst}
use borrow.Author.Tests.{le-leb, lt-leb, leb-true, eq-eqb, ne_eqb}
use lib.Dec.{leb}
use lib.ListN.{length, take, get_or}
use Rattle.types.specs.declared.Nwk.{Nwk}
use Rattle.types.specs.declared.Refusal.TheVariants.{RouteTableFull}
use Rattle.standard.specs.declared.DiscoveryEntry.{DiscoveryEntry}
use Rattle.standard.specs.declared.RouteEntry.{RouteEntry}
use Rattle.standard.specs.declared.RouteReplyDisposition.TheVariants.{Drop, Established, Relay}
use Rattle.standard.specs.Discovery.{pair_key, discovery_key}
use Rattle.standard.specs.Ordered.{Ascending, lookup, put, count_with}
use Rattle.standard.specs.Reply.{Replied, dropped, written, established, relayed_to, drop_ours, reply_ours, reply_theirs, reply_to, reply}
use Rattle.standard.specs.Route.{route_key, route_or, via, considered, considering, news}
use Rattle.standard.specs.Tables.{Tables}
use Rattle.flat_map.specs.Seek.{place_of}
use Rattle.flat_map.proofs.Compare.{Tri, lt, eq, gt, tri}
use Rattle.flat_map.proofs.Ordered.{lookup_key, lookup-put-same, lookup-put-other, count-with-missing, count-with-found, length-put, ascending-put}
use Rattle.columns.specs.Room.{room_for}
use Rattle.columns.proofs.Rows.{room-told}
use Rattle.route_table.specs.Codec.{route_in, route_of, route_numbers, Clean, InRange}
use Rattle.route_table.specs.Table as route-spec
use Rattle.route_table.proofs.Codec.{codec}
use Rattle.route_table.proofs.Rows as routes
use Rattle.discovery_table.specs.Codec.{discovery_in}
use Rattle.discovery_table.proofs.Rows as discoveries
use Rattle.search_tables.specs.Packed.{SearchTables, WellFormed, tables_of, Holds}
use Rattle.search_tables.proofs.Packing.{route-or-key, considered-key, both_hold, holds-itself}
use Rattle.route_reply.specs.Answer.{answered, Leaves, Held}
use Rattle.types.specs.declared.Refusal.{Refusal}
use Rattle.standard.specs.declared.RouteUpdate.{RouteUpdate}
use Rattle.standard.specs.declared.RouteReplyDisposition.{RouteReplyDisposition}

-- what is said of a reply that is not refused
abbrev answer_of : RouteReplyDisposition → Option RouteUpdate → Result (RouteReplyDisposition × Option RouteUpdate) Refusal
answer_of d u = Ok (d, u)

-- an outcome by the room that its routes have
pub answered-by : (t : Tables) (x : Replied) (b : Bool) → leb (length x.tables.routes) 64 ≡ b
    → answered t x ≡ cond b (record { answer = Ok (x.disposition, x.update); tables = x.tables }) (record { answer = Err RouteTableFull; tables = t })
unfolding answered
answered-by t x b e = rw e

-- columns that hold an outcome's rows, and those of a call that is refused
module _ (s : SearchTables) (t : Tables) (x : Replied) (a : Result (RouteReplyDisposition × Option RouteUpdate) Refusal) where
  pub leaves-answer : a ≡ (Ok (x.disposition, x.update)) → Holds s x.tables → Leaves s a (answered t x)
  leaves-answer p h = subst (Leaves s a) (sym (answered-by t x true fits)) (record { said = p; left = h }) where
    fits : leb (length x.tables.routes) 64 ≡ true
    fits = le-leb (length x.tables.routes) 64 (omega (arith, h.formed.routes.ordered.small, routes.many s.routes h.formed.routes, ap (λ (y : Tables). length y.routes) h.rows))

  pub leaves-refusal : a ≡ Err RouteTableFull → Holds s t → leb (length x.tables.routes) 64 ≡ false → Leaves s a (answered t x)
  leaves-refusal p h b = subst (Leaves s a) (sym (answered-by t x false b)) (record { said = p; left = h })

-- a row over one of its key leaves every count as it was
module _ {E : Type 0} (key_of : E → ℕ) (xs : List E) (up : Ascending key_of xs) (e d : E) (h : lookup key_of (key_of e) xs ≡ Some d) where
  length_over : length (put key_of e xs) ≡ length xs
  length_over = length-put key_of e xs up ∙ count-with-found key_of (key_of e) d xs h

  pub count-over : (k : ℕ) → count_with key_of k (put key_of e xs) ≡ count_with key_of k xs
  count-over k = go (tri (key_of e) k) where
    by : (key_of e ≡ k → ⊥) → (o : Option E) → lookup key_of k xs ≡ o → count_with key_of k (put key_of e xs) ≡ count_with key_of k xs
    by n None q =
        count-with-missing key_of k (put key_of e xs) (lookup-put-other key_of k e xs n ∙ q)
        ∙ ap suc length_over
        ∙ sym (count-with-missing key_of k xs q)
    by n (Some x) q =
        count-with-found key_of k x (put key_of e xs) (lookup-put-other key_of k e xs n ∙ q)
        ∙ length_over
        ∙ sym (count-with-found key_of k x xs q)

    go : Tri (key_of e) k → count_with key_of k (put key_of e xs) ≡ count_with key_of k xs
    go (lt p) = by (λ q. omega arith) (lookup key_of k xs) refl
    go (gt p) = by (λ q. omega arith) (lookup key_of k xs) refl
    go (eq p) =
        subst (λ (n : ℕ). count_with key_of n (put key_of e xs) ≡ count_with key_of n xs) p
        (count-with-found key_of (key_of e) e (put key_of e xs) (lookup-put-same key_of e xs) ∙ length_over ∙ sym (count-with-found key_of (key_of e) d xs h))

-- the room for a route, by its place
pub route-room : (t : route-spec.RouteTable) → route-spec.WellFormed t → (k : ℕ) (p : Result ℕ ℕ) → p ≡ place_of (take t.count t.keys) k
    → leb (count_with route_key k (route-spec.rows_of t)) 64 ≡ room_for p t.count 64
route-room t w k p q = room-told 64 3 route_key route-spec.blank_route route_of route_numbers Clean InRange codec t.keys (t.words ∷ t.usage ∷ []) t.count (routes.table-sound t w) k p q

-- the originator's route after it considered a hop stands under the originator
pub after-key : (originator hop : Nwk) (forward : ℕ) (t : Tables) → route_key (considered hop forward (route_or originator t.routes)) ≡ originator.0
after-key originator hop forward t = considered-key hop forward (route_or originator t.routes) ∙ route-or-key originator t

-- and can be put at the originator's place, where there is room
pub may-put : (s : SearchTables) → WellFormed s → (originator hop : Nwk) (forward : ℕ) (p : Result ℕ ℕ) → p ≡ place_of (take s.routes.count s.routes.keys) originator.0 → room_for p s.routes.count 64 ≡ true
    → (o e : RouteEntry) → o ≡ route_or originator (tables_of s).routes → e ≡ considered hop forward o
    → (p ≡ place_of (take s.routes.count s.routes.keys) (route_key e)) × (count_with route_key (route_key e) (tables_of s).routes ≤ 64)
may-put s w originator hop forward p q room o e po pe = (
  q ∙ ap (place_of (take s.routes.count s.routes.keys)) (sym key),
  subst (λ (n : ℕ). count_with route_key n (tables_of s).routes ≤ 64) (sym key) (leb-true (count_with route_key originator.0 (tables_of s).routes) 64 (route-room s.routes w.routes originator.0 p q ∙ room)),
) where
  key : route_key e ≡ originator.0
  key = ap route_key (pe ∙ ap (considered hop forward) po) ∙ after-key originator hop forward (tables_of s)

-- a reply that changes nothing
module _ (s : SearchTables) (w : WellFormed s) where
  pub leaves-dropped : (x : Replied) → dropped (tables_of s) ≡ x → Leaves s (Ok (Drop, None)) (answered (tables_of s) x)
  leaves-dropped x q = subst (λ (y : Replied). Leaves s (Ok (Drop, None)) (answered (tables_of s) y)) q (leaves-answer s (tables_of s) (dropped (tables_of s)) (Ok (Drop, None)) refl (holds-itself s w))

  module _ (sender : Nwk) (cost : ℕ) (d : DiscoveryEntry) (e : RouteEntry) where
    pub ours-dropped : drop_ours cost d e ≡ true → Leaves s (Ok (Drop, None)) (answered (tables_of s) (reply_ours sender cost d e (tables_of s)))
    unfolding reply_ours
    ours-dropped b = leaves-dropped _ (rw b)

    pub theirs-dropped : (originator : Nwk) → d.residual_cost ≤ cost → Leaves s (Ok (Drop, None)) (answered (tables_of s) (reply_theirs originator sender cost d e (tables_of s)))
    unfolding reply_theirs
    theirs-dropped originator h = leaves-dropped _ (rw (le-leb _ _ h))

    -- the originator has no room, before the responder's route is written over itself or after
    pub theirs-refused : (originator : Nwk) (i j : ℕ) → Held s i d j e → cost < d.residual_cost → (p : Result ℕ ℕ) → p ≡ place_of (take s.routes.count s.routes.keys) originator.0
        → room_for p s.routes.count 64 ≡ false → Leaves s (Err RouteTableFull) (answered (tables_of s) (reply_theirs originator sender cost d e (tables_of s)))
    unfolding reply_theirs
    theirs-refused originator i j held h p q full =
        rw (lt-leb _ _ h)
        (leaves-refusal s (tables_of s) (relayed_to originator d.sender_address cost d.forward_cost after) (Err RouteTableFull) refl (holds-itself s w) room) where
          after : Tables
          after = written sender cost d e (tables_of s)

          up : Ascending route_key (tables_of s).routes
          up = (routes.table-fit s.routes w.routes).fit.ascending

          long : length (put route_key (considered d.sender_address d.forward_cost (route_or originator after.routes)) after.routes) ≡ count_with route_key originator.0 (tables_of s).routes
          long =
              length-put route_key _ after.routes (ascending-put route_key (via sender cost e) (tables_of s).routes up)
              ∙ ap (λ (n : ℕ). count_with route_key n after.routes) (after-key originator d.sender_address d.forward_cost after)
              ∙ count-over route_key (tables_of s).routes up (via sender cost e) _ (routes.found-row s.routes w.routes (route_key e) j held.route) originator.0

          room : leb (length (put route_key (considered d.sender_address d.forward_cost (route_or originator after.routes)) after.routes)) 64 ≡ false
          room = ap (λ (n : ℕ). leb n 64) long ∙ route-room s.routes w.routes originator.0 p q ∙ full

-- a reply that is taken: the columns s hold what is written
module _ (s : SearchTables) (t : Tables) (sender : Nwk) (cost : ℕ) (d : DiscoveryEntry) (e : RouteEntry) (h : Holds s (written sender cost d e t)) (u : Option RouteUpdate) where
  pub ours-taken : drop_ours cost d e ≡ false → u ≡ news sender cost e → Leaves s (Ok (Established, u)) (answered t (reply_ours sender cost d e t))
  unfolding reply_ours
  ours-taken b p = rw b (leaves-answer s t (established sender cost d e t) (Ok (Established, u)) (ap (answer_of Established) p) h)

  -- the originator's route put into them
  pub theirs-taken : (originator : Nwk) (r : route-spec.RouteTable) (o f : RouteEntry) → o ≡ route_or originator (tables_of s).routes → f ≡ considered d.sender_address d.forward_cost o
      → cost < d.residual_cost → route-spec.Holds r (put route_key f (tables_of s).routes) → u ≡ considering d.sender_address d.forward_cost o
      → Leaves (record { routes = r; discoveries = s.discoveries }) (Ok (Relay d.sender_address cost, u)) (answered t (reply_theirs originator sender cost d e t))
  unfolding reply_theirs
  theirs-taken originator r o f po pf b k p =
      rw (lt-leb _ _ b)
      (subst (λ (y : Tables). Leaves (record { routes = r; discoveries = s.discoveries }) (Ok (Relay d.sender_address cost, u)) (answered t (relayed_to originator d.sender_address cost d.forward_cost y))) h.rows
      (leaves-answer _ t (relayed_to originator d.sender_address cost d.forward_cost (tables_of s)) _
      (ap (answer_of (Relay d.sender_address cost)) (p ∙ ap (considering d.sender_address d.forward_cost) po))
      (both_hold _ _ (subst (λ (x : RouteEntry). route-spec.Holds r (put route_key x (tables_of s).routes)) (pf ∙ ap (considered d.sender_address d.forward_cost) po) k) (record { formed = h.formed.discoveries; rows = refl }))))

-- one outcome for another that is the same
pub leaves-as : (s : SearchTables) (t : Tables) (a : Result (RouteReplyDisposition × Option RouteUpdate) Refusal) (x y : Replied) → x ≡ y → Leaves s a (answered t x) → Leaves s a (answered t y)
leaves-as s t a x y q = subst (λ (z : Replied). Leaves s a (answered t z)) q

-- the rule, by the places of its pair and of its responder
module _ (s : SearchTables) (w : WellFormed s) (own originator responder sender : Nwk) (id cost : ℕ) where
  abbrev outcome : Replied
  outcome = reply own originator id responder sender cost (tables_of s)

  pub no-pair : (i : ℕ) → Err i ≡ place_of (take s.discoveries.count s.discoveries.keys) (pair_key originator id) → Leaves s (Ok (Drop, None)) (answered (tables_of s) outcome)
  unfolding reply reply_to
  no-pair i p = leaves-dropped s w outcome (rw (discoveries.missing-row s.discoveries w.discoveries (pair_key originator id) i p))

  module _ (i : ℕ) (p : Ok i ≡ place_of (take s.discoveries.count s.discoveries.keys) (pair_key originator id)) where
    pair : lookup discovery_key (pair_key originator id) (tables_of s).discoveries ≡ Some (discovery_in (get_or s.discoveries.keys i 0) (get_or s.discoveries.words i 0) (get_or s.discoveries.ends i 0))
    pair = discoveries.found-row s.discoveries w.discoveries (pair_key originator id) i p

    pub no-route : (j : ℕ) → Err j ≡ place_of (take s.routes.count s.routes.keys) responder.0 → Leaves s (Ok (Drop, None)) (answered (tables_of s) outcome)
    unfolding reply reply_to
    no-route j q = leaves-dropped s w outcome (rw (pair, routes.missing-row s.routes w.routes responder.0 j q))

    module _
        (j : ℕ)
        (q : Ok j ≡ place_of (take s.routes.count s.routes.keys) responder.0)
        (d : DiscoveryEntry)
        (e : RouteEntry)
        (pd : d ≡ discovery_in (get_or s.discoveries.keys i 0) (get_or s.discoveries.words i 0) (get_or s.discoveries.ends i 0))
        (pe : e ≡ route_in (get_or s.routes.keys j 0) (get_or s.routes.words j 0) (get_or s.routes.usage j 0))
      where
        route : lookup route_key responder.0 (tables_of s).routes ≡ Some (route_in (get_or s.routes.keys j 0) (get_or s.routes.words j 0) (get_or s.routes.usage j 0))
        route = routes.found-row s.routes w.routes responder.0 j q

        -- what stands in a place is held under its own key
        pub held : Held s i d j e
        held = record {
          discovery = p ∙ ap (place_of (take s.discoveries.count s.discoveries.keys)) (sym (ap discovery_key pd ∙ lookup_key discovery_key (pair_key originator id) (tables_of s).discoveries _ pair));
          route = q ∙ ap (place_of (take s.routes.count s.routes.keys)) (sym (ap route_key pe ∙ lookup_key route_key responder.0 (tables_of s).routes _ route));
        }

        pub ours : originator.0 ≡ own.0 → reply_ours sender cost d e (tables_of s) ≡ outcome
        unfolding reply reply_to
        ours h = rw (eq-eqb _ _ h, pair, route, pd, pe)

        pub theirs : (originator.0 ≡ own.0 → ⊥) → reply_theirs originator sender cost d e (tables_of s) ≡ outcome
        unfolding reply reply_to
        theirs h = rw (ne_eqb _ _ h, pair, route, pd, pe)
