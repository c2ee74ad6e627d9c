-- Every call leaves a well-formed state well formed: a refusal hands the state back, and any other outcome puts back rows that fit, since each
-- rule keeps the order, room was tested, and what it writes is within its width where what the caller hands in is.
use Rattle.std.specs.Prelude.{Option, Some, None}
use Prim.Native.Nat.{ℕ, ◌<◌, ◌≤◌}
use native.Mathlib.Nat.{mod-lt}
use native.Mathlib.Omega.{arith}
use mathlib.Core.Path.{◌≡◌, refl}
use borrow.Author.Tests.{leb-true}
use lib.Dec.{leb, eqb, ltb}
use lib.ListN.{length}
use Rattle.types.specs.declared.Nwk.{Nwk}
use Rattle.types.specs.Clock.{time_sum}
use Rattle.standard.specs.declared.DiscoveryEntry.{DiscoveryEntry}
use Rattle.standard.specs.declared.RouteEntry.{RouteEntry}
use Rattle.standard.specs.declared.ManyToOne.{ManyToOne}
use Rattle.standard.specs.declared.Status.TheVariants.{DiscoveryUnderway}
use Rattle.standard.specs.Begin.{begin, advertise, kept_or, own_discovery}
use Rattle.standard.specs.Discovery.{pair_key, discovery_key}
use Rattle.standard.specs.Expiry.{expired}
use Rattle.standard.specs.Ordered.{lookup, put}
use Rattle.standard.specs.Reply.{Replied, dropped, settled, written, established, relayed_to, drop_ours, reply_ours, reply_theirs, reply_to, reply}
use Rattle.standard.specs.Request.{Requested, accepting, new_discovery, reached, flagged, request_to, request}
use Rattle.standard.specs.Route.{nwk, route_key, route_or, with_status, via, considered}
use Rattle.standard.specs.Tables.{Tables, InOrder}
use Rattle.standard.specs.Time.{sum_made}
use Rattle.standard.proofs.Picked.{by-test}
use Rattle.flat_map.specs.Table.{Each}
use Rattle.flat_map.proofs.Each.{each-put}
use Rattle.flat_map.proofs.Fits.{room-known}
use Rattle.flat_map.proofs.Mapped.{each-found}
use Rattle.flat_map.proofs.Ordered.{ascending-put, lookup_key}
use Rattle.route_table.specs.Codec as route
use Rattle.route_table.specs.Table.{blank_route}
use Rattle.route_table.proofs.Rows as routes
use Rattle.discovery_table.specs.Codec as discovery
use Rattle.discovery_table.specs.Table.{blank_discovery}
use Rattle.discovery_table.proofs.Rows as discoveries
use Rattle.search_tables.specs.Packed as search
use Rattle.search_tables.proofs.Packing.{search-fits, packed-formed}
use Rattle.expiry.proofs.Fit.{expired-fits}
use Rattle.route_calls.proofs.Fits.{status-in-range, found-in-range, route-or-in-range}
use Rattle.route_reply.specs.Answer as reply-spec
use Rattle.route_request.specs.Answer as request-spec
use Rattle.route_begin.specs.Answer as begin-spec
use Rattle.routing.specs.declared.Routing.{Routing}
use Rattle.routing.specs.declared.RouteReplyOutcome.{RouteReplyOutcome}
use Rattle.routing.specs.declared.RouteRequestOutcome.{RouteRequestOutcome}
use Rattle.routing.specs.declared.BeginOutcome.{BeginOutcome}
use Rattle.routing.specs.Search.{accept_route_reply, accept_route_request, begun_as, begin_discovery, begin_many_to_one_advertisement, next_id}
use Rattle.routing.specs.State.{WellFormed, well_formed, search_of, rows_in, with_rows}
use Rattle.routing.proofs.Ranged.{via-in-range, considered-in-range, reached-in-range, new-in-range, flagged-in-range, settled-in-range, own-in-range}
use Rattle.routing.proofs.State.{search-formed, put_back}

-- rows that fit, but for the room that they want
record Ready (t : Tables) : Type 0 where
  order : InOrder t
  routes : Each route.InRange t.routes
  discoveries : Each discovery.InRange t.discoveries

fits-ready : (t : Tables) → search.Fits t → Ready t
fits-ready t f = record {
  order = record { routes = f.routes.fit.ascending; discoveries = f.discoveries.fit.ascending };
  routes = f.routes.ranged;
  discoveries = f.discoveries.ranged;
}

ready-fits : (t : Tables) → Ready t → length t.routes ≤ 64 → length t.discoveries ≤ 32 → search.Fits t
ready-fits t r m n = record {
  routes = record { fit = record { small = m; ascending = r.order.routes }; ranged = r.routes };
  discoveries = record { fit = record { small = n; ascending = r.order.discoveries }; ranged = r.discoveries };
}

module _ (t : Tables) (r : Ready t) where
  put-route : (e : RouteEntry) → route.InRange e → Ready (record { routes = put route_key e t.routes; discoveries = t.discoveries })
  put-route e h = record {
    order = record { routes = ascending-put route_key e t.routes r.order.routes; discoveries = r.order.discoveries };
    routes = each-put route.InRange route_key e t.routes h r.routes;
    discoveries = r.discoveries;
  }

  put-discovery : (d : DiscoveryEntry) → discovery.InRange d → Ready (record { routes = t.routes; discoveries = put discovery_key d t.discoveries })
  put-discovery d h = record {
    order = record { routes = r.order.routes; discoveries = ascending-put discovery_key d t.discoveries r.order.discoveries };
    routes = r.routes;
    discoveries = each-put discovery.InRange discovery_key d t.discoveries h r.discoveries;
  }

put_both : (t : Tables) → Ready t → (e : RouteEntry) → route.InRange e → (d : DiscoveryEntry) → discovery.InRange d
    → Ready (record { routes = put route_key e t.routes; discoveries = put discovery_key d t.discoveries })
put_both t r e h d k = put-route (record { routes = t.routes; discoveries = put discovery_key d t.discoveries }) (put-discovery t r d k) e h

-- a reply: what is written goes over rows that are there, so at most the originator's route wants room
record Left (x : Replied) : Type 0 where
  ready : Ready x.tables
  small : length x.tables.discoveries ≤ 32

module _ (t : Tables) (f : search.Fits t) (sender : Nwk) (cost : ℕ) (hs : sender.0 < 65536) (hc : cost < 256) where
  dropped-left : Left (dropped t)
  dropped-left = record { ready = fits-ready t f; small = f.discoveries.fit.small }

  module _
      (k : ℕ)
      (d : DiscoveryEntry)
      (p : lookup discovery_key k t.discoveries ≡ Some d)
      (j : ℕ)
      (r : RouteEntry)
      (q : lookup route_key j t.routes ≡ Some r)
    where
      known : discovery.InRange d
      known = each-found discovery_key discovery.InRange k t.discoveries d f.discoveries.ranged p

      written-fits : search.Fits (written sender cost d r t)
      written-fits = record {
        routes =
            routes.fits-put t.routes f.routes (via sender cost r) (via-in-range sender cost hs hc r (found-in-range t.routes f.routes j r q))
            (rw (lookup_key route_key j t.routes r q) (room-known 64 route_key blank_route t.routes f.routes.fit j r q));
        discoveries =
            discoveries.fits-put t.discoveries f.discoveries (settled cost d) (settled-in-range cost hc d known)
            (rw (lookup_key discovery_key k t.discoveries d p) (room-known 32 discovery_key blank_discovery t.discoveries f.discoveries.fit k d p));
      }

      ours-left : Left (reply_ours sender cost d r t)
      unfolding reply_ours
      ours-left =
          by-test Left (drop_ours cost d r) (dropped t) (established sender cost d r t) (λ _. dropped-left)
          (record { ready = fits-ready (written sender cost d r t) written-fits; small = written-fits.discoveries.fit.small })

      theirs-left : (originator : Nwk) → Left (reply_theirs originator sender cost d r t)
      unfolding reply_theirs
      theirs-left originator =
          by-test Left (leb d.residual_cost cost) (dropped t)
          (relayed_to originator d.sender_address cost d.forward_cost (written sender cost d r t))
          (λ _. dropped-left)
          (record {
            ready =
                put-route (written sender cost d r t) (fits-ready (written sender cost d r t) written-fits)
                (considered d.sender_address d.forward_cost (route_or originator (written sender cost d r t).routes))
                (considered-in-range d.sender_address d.forward_cost known.sender known.forward (route_or originator (written sender cost d r t).routes)
                (route-or-in-range (written sender cost d r t).routes written-fits.routes originator));
            small = written-fits.discoveries.fit.small;
          })

  reply-left : (own originator : Nwk) (id : ℕ) (responder : Nwk) → Left (reply own originator id responder sender cost t)
  unfolding reply reply_to
  reply-left own originator id responder =
      go (lookup discovery_key (pair_key originator id) t.discoveries) refl (lookup route_key responder.0 t.routes) refl where
        go : (d : Option DiscoveryEntry) → lookup discovery_key (pair_key originator id) t.discoveries ≡ d → (r : Option RouteEntry) → lookup route_key responder.0 t.routes ≡ r
            → Left (reply_to (eqb originator.0 own.0) originator sender cost t d r)
        go None p r q = dropped-left
        go (Some d) p None q = dropped-left
        go (Some d) p (Some r) q =
            by-test Left (eqb originator.0 own.0) (reply_ours sender cost d r t) (reply_theirs originator sender cost d r t)
            (λ _. ours-left (pair_key originator id) d p responder.0 r q)
            (theirs-left (pair_key originator id) d p responder.0 r q originator)

-- a request, a search and an advertisement, on rows whose expiry is done
module _ (t : Tables) (f : search.Fits t) where
  module _ (originator : Nwk) (id : ℕ) (destination sender : Nwk) (cost : ℕ) (ho : originator.0 < 65536) (hi : id < 256) (hd : destination.0 < 65536) (hs : sender.0 < 65536) (hc : cost < 256) (m : ManyToOne) where
    accepting-ready : (d : DiscoveryEntry) → discovery.InRange d → Ready (accepting originator sender cost m d t).tables
    accepting-ready d h =
        put_both t (fits-ready t f) (flagged m (considered sender cost (route_or originator t.routes)))
        (flagged-in-range m (considered sender cost (route_or originator t.routes))
        (considered-in-range sender cost hs hc (route_or originator t.routes) (route-or-in-range t.routes f.routes originator)))
        d h

    request-ready : (expires : ℕ) → Ready (request originator id destination sender cost m expires t).tables
    unfolding request request_to
    request-ready expires = go (lookup discovery_key (pair_key originator id) t.discoveries) refl where
      go : (d : Option DiscoveryEntry) → lookup discovery_key (pair_key originator id) t.discoveries ≡ d → Ready (request_to originator id destination sender cost m expires t d).tables
      go None p = accepting-ready (new_discovery originator id sender cost expires destination) (new-in-range sender cost hs hc originator id expires destination ho hi hd)
      go (Some d) p =
          by-test (λ (x : Requested). Ready x.tables) (ltb d.forward_cost cost) _ (accepting originator sender cost m (reached sender cost d) t)
          (λ _. fits-ready t f)
          (accepting-ready (reached sender cost d) (reached-in-range sender cost hs hc d (each-found discovery_key discovery.InRange (pair_key originator id) t.discoveries d f.discoveries.ranged p)))

  module _ (own : Nwk) (id : ℕ) (ho : own.0 < 65536) (hi : id < 256) (expires : ℕ) where
    begin-ready : (destination : Nwk) → destination.0 < 65536 → Ready (begin own id destination expires t)
    unfolding begin
    begin-ready destination hd =
        put-route (record { routes = t.routes; discoveries = kept_or (lookup discovery_key (pair_key own id) t.discoveries) (own_discovery own id expires destination) t.discoveries })
        (go (lookup discovery_key (pair_key own id) t.discoveries))
        (with_status DiscoveryUnderway (route_or destination t.routes))
        (status-in-range DiscoveryUnderway (route_or destination t.routes) (route-or-in-range t.routes f.routes destination)) where
          go : (d : Option DiscoveryEntry) → Ready (record { routes = t.routes; discoveries = kept_or d (own_discovery own id expires destination) t.discoveries })
          go None = put-discovery t (fits-ready t f) (own_discovery own id expires destination) (own-in-range own id expires destination ho hi hd)
          go (Some d) = fits-ready t f

    advertise-ready : Ready (advertise own id expires t)
    unfolding advertise
    advertise-ready = put-discovery t (fits-ready t f) (own_discovery own id expires (nwk 0xFFFC)) (own-in-range own id expires (nwk 0xFFFC) ho hi (omega arith))

-- the exported calls
module _ (s : Routing) (w : WellFormed s) where
  start : search.Fits (rows_in s)
  start = search-fits (search_of s) (search-formed s w)

  back : (t : Tables) → search.Fits t → WellFormed (with_rows s t)
  back t f = put_back s (search.packed t) w (packed-formed t f)

  same : WellFormed (with_rows s (rows_in s))
  same = back (rows_in s) start

  left : (now : ℕ) → search.Fits (expired now (rows_in s))
  left now = expired-fits now (rows_in s) start

  pub reply-kept : (own originator : Nwk) (id : ℕ) (responder sender : Nwk) (cost : ℕ) → sender.0 < 65536 → cost < 256
      → WellFormed (accept_route_reply s own originator id responder sender cost).state
  unfolding accept_route_reply reply-spec.answered
  reply-kept own originator id responder sender cost hs hc =
      by-test (λ (x : RouteReplyOutcome). WellFormed x.state) (well_formed s) _ _
      (λ _. by-test (λ (x : reply-spec.ReplyStep). WellFormed (with_rows s x.tables)) (leb (length x.tables.routes) 64) _ _
      (λ m. back x.tables (ready-fits x.tables l.ready (leb-true _ 64 m) l.small)) same) w where
        x : Replied
        x = reply own originator id responder sender cost (rows_in s)

        l : Left (reply own originator id responder sender cost (rows_in s))
        l = reply-left (rows_in s) start sender cost hs hc own originator id responder

  requested-kept : (x : Requested) → Ready x.tables → WellFormed (with_rows s (request-spec.answered (rows_in s) x).tables)
  unfolding request-spec.answered
  requested-kept x r =
      by-test (λ (y : request-spec.RequestStep). WellFormed (with_rows s y.tables)) (leb (length x.tables.routes) 64) _ _
      (λ m. by-test (λ (y : request-spec.RequestStep). WellFormed (with_rows s y.tables)) (leb (length x.tables.discoveries) 32) _ _
      (λ n. back x.tables (ready-fits x.tables r (leb-true _ 64 m) (leb-true _ 32 n))) same) same

  pub request-kept : (originator : Nwk) (id : ℕ) (destination sender : Nwk) (cost : ℕ) (m : ManyToOne) (now span : ℕ)
      → originator.0 < 65536 → id < 256 → destination.0 < 65536 → sender.0 < 65536 → cost < 256
      → WellFormed (accept_route_request s originator id destination sender cost m now span).state
  unfolding accept_route_request request-spec.requested request-spec.requested_on
  request-kept originator id destination sender cost m now span ho hi hd hs hc =
      by-test (λ (x : RouteRequestOutcome). WellFormed x.state) (well_formed s) _ _
      (λ _. go (sum_made (lookup discovery_key (pair_key originator id) (expired now (rows_in s)).discoveries) (time_sum now span))) w where
        go : (u : Option ℕ) → WellFormed (with_rows s (request-spec.by_time (rows_in s) u (λ (e : ℕ). request originator id destination sender cost m e (expired now (rows_in s)))).tables)
        go (Some e) =
            requested-kept (request originator id destination sender cost m e (expired now (rows_in s)))
            (request-ready (expired now (rows_in s)) (left now) originator id destination sender cost ho hi hd hs hc m e)
        go None = same

  -- what was begun, by its answer
  begun_kept : (id : ℕ) (t : Tables) → Ready t → WellFormed (begun_as s id (begin-spec.begun_with (rows_in s) id t)).state
  unfolding begin-spec.begun_with
  begun_kept id t r =
      by-test (λ (y : begin-spec.BeginStep). WellFormed (begun_as s id y).state) (leb (length t.routes) 64) _ _
      (λ m. by-test (λ (y : begin-spec.BeginStep). WellFormed (begun_as s id y).state) (leb (length t.discoveries) 32) _ _
      (λ n. let v = back t (ready-fits t r (leb-true _ 64 m) (leb-true _ 32 n)) in record { routes = v.routes; discoveries = v.discoveries; records = v.records }) w) w

  by-sum : (id : ℕ) (u : Option ℕ) (rule : ℕ → Tables) → ((e : ℕ) → Ready (rule e)) → WellFormed (begun_as s id (begin-spec.by_time (rows_in s) u id rule)).state
  by-sum id (Some e) rule r = begun_kept id (rule e) (r e)
  by-sum id None rule r = w

  next_small : next_id s < 256
  next_small = mod-lt _ (omega arith)

  pub begin-kept : (own destination : Nwk) (now span : ℕ) → own.0 < 65536 → destination.0 < 65536 → WellFormed (begin_discovery s own destination now span).state
  unfolding begin_discovery begin-spec.begun begin-spec.begun_on
  begin-kept own destination now span ho hd =
      by-test (λ (x : BeginOutcome). WellFormed x.state) (well_formed s) _ _
      (λ _. by-sum (next_id s) (sum_made (lookup discovery_key (pair_key own (next_id s)) (expired now (rows_in s)).discoveries) (time_sum now span)) (λ (e : ℕ). begin own (next_id s) destination e (expired now (rows_in s)))
      (λ e. begin-ready (expired now (rows_in s)) (left now) own (next_id s) ho next_small e destination hd)) w

  pub advertise-kept : (own : Nwk) (now span : ℕ) → own.0 < 65536 → WellFormed (begin_many_to_one_advertisement s own now span).state
  unfolding begin_many_to_one_advertisement begin-spec.advertised
  advertise-kept own now span ho =
      by-test (λ (x : BeginOutcome). WellFormed x.state) (well_formed s) _ _
      (λ _. by-sum (next_id s) (time_sum now span) (λ (e : ℕ). advertise own (next_id s) e (expired now (rows_in s)))
      (λ e. advertise-ready (expired now (rows_in s)) (left now) own (next_id s) ho next_small e)) w
