-- The outcome by the room that the rows want once expiry is made: one under the destination in the routes, one under the pair in the discoveries.
-- Rows that columns hold fit, so a search that is made in columns has begun.
use Rattle.std.specs.Prelude.{Some, None, Result, Ok, Err}
use Prim.Native.Nat.{ℕ, ◌≤◌}
use mathlib.Core.Bool.{Bool, true, false, cond}
use mathlib.Core.List.{List, []}
use mathlib.Core.Path.{◌≡◌, refl, sym, ap, ◌∙◌, subst}
use borrow.Author.Tests.{le-leb, leb-true}
use lib.Dec.{leb}
use lib.ListN.{length}
use Rattle.types.specs.declared.Nwk.{Nwk}
use Rattle.types.specs.declared.Refusal.{Refusal}
use Rattle.types.specs.declared.Refusal.TheVariants.{RouteTableFull, DiscoveryTableFull}
use Rattle.types.specs.Clock.{time_sum}
use Rattle.standard.specs.declared.DiscoveryEntry.{DiscoveryEntry}
use Rattle.standard.specs.declared.RouteEntry.{RouteEntry}
use Rattle.standard.specs.declared.Status.TheVariants.{DiscoveryUnderway}
use Rattle.standard.specs.Begin.{own_discovery, begin, advertise}
use Rattle.standard.specs.Discovery.{pair_key, discovery_key, live}
use Rattle.standard.specs.Expiry.{expired}
use Rattle.standard.specs.Ordered.{lookup, put, count_with, keep}
use Rattle.standard.specs.Route.{nwk, route_key, route_or, with_status}
use Rattle.standard.specs.Tables.{Tables}
use Rattle.route_table.specs.Table as route
use Rattle.discovery_table.specs.Table as discovery
use Rattle.search_tables.specs.Packed.{SearchTables, WellFormed, tables_of, Fits, Holds, InKey}
use Rattle.search_tables.proofs.Packing.{search-fits, route-or-key, routes-after, discoveries-after, both_hold, holds-itself}
use Rattle.expiry.proofs.Fit.{expired-fits}
use Rattle.route_begin.specs.Answer.{BeginStep, refused, begun_with, by_time, begun_on, begun, advertised, Leaves}
use Rattle.route_begin.specs.Marked.{marked_routes, marked, noted, began_new}

begun-by : (old : Tables) (id : ℕ) (t : Tables) (a b : Bool) → leb (length t.routes) 64 ≡ a → leb (length t.discoveries) 32 ≡ b
    → begun_with old id t ≡ cond a (cond b (record { answer = Ok id; tables = t }) (refused old DiscoveryTableFull)) (refused old RouteTableFull)
unfolding begun_with
begun-by old id t a b p q = rw (p, q)

-- a step that is another one
pub leaves-as : (s : SearchTables) (answer : Result ℕ Refusal) (x y : BeginStep) → x ≡ y → Leaves s answer x → Leaves s answer y
leaves-as s answer x y q l = subst (λ (z : BeginStep). Leaves s answer z) q l

-- a refusal writes nothing
pub leaves-refused : (s : SearchTables) → WellFormed s → (why : Refusal) (x : BeginStep) → x ≡ refused (tables_of s) why → Leaves s (Err why) x
leaves-refused s w why x q = leaves-as s (Err why) (refused (tables_of s) why) x (sym q) (record { said = refl; left = holds-itself s w })

-- the route that is marked stands under its destination
pub marked-key : (destination : Nwk) (xs : List RouteEntry) → route_key (with_status DiscoveryUnderway (route_or destination xs)) ≡ destination.0
marked-key destination xs = route-or-key destination (record { routes = xs; discoveries = [] })

-- what is made in the tables that the expiry leaves
module _ (now : ℕ) (old : Tables) (left : SearchTables) (h : Holds left (expired now old)) where
  pub route-place : (k : ℕ) → leb (count_with route_key k (expired now old).routes) 64 ≡ true → count_with route_key k (tables_of left).routes ≤ 64
  route-place k e = subst (λ (t : Tables). count_with route_key k t.routes ≤ 64) (sym h.rows) (leb-true _ 64 e)

  pub discovery-place : (k : ℕ) → leb (count_with discovery_key k (keep (live now) old.discoveries)) 32 ≡ true → count_with discovery_key k (tables_of left).discoveries ≤ 32
  unfolding expired
  discovery-place k e = subst (λ (t : Tables). count_with discovery_key k t.discoveries ≤ 32) (sym h.rows) (leb-true _ 32 e)

  leaves-begun : (s : SearchTables) (id : ℕ) (t : Tables) → Holds s t → Leaves s (Ok id) (begun_with old id t)
  leaves-begun s id t held =
      leaves-as s (Ok id) (record { answer = Ok id; tables = t }) (begun_with old id t)
      (sym (begun-by old id t true true (le-leb (length t.routes) 64 f.routes.fit.small) (le-leb (length t.discoveries) 32 f.discoveries.fit.small)))
      (record { said = refl; left = held }) where
        f : Fits t
        f = subst Fits held.rows (search-fits s held.formed)

  marked-left : (destination : Nwk) (u : route.RouteTable) → route.Holds u (marked_routes destination (tables_of left).routes) → route.Holds u (marked_routes destination (expired now old).routes)
  marked-left destination u held = subst (λ (t : Tables). route.Holds u (marked_routes destination t.routes)) h.rows held

  noted-left : (d : DiscoveryEntry) (v : discovery.DiscoveryTable) → discovery.Holds v (put discovery_key d (tables_of left).discoveries) → discovery.Holds v (put discovery_key d (expired now old).discoveries)
  noted-left d v held = subst (λ (t : Tables). discovery.Holds v (put discovery_key d t.discoveries)) h.rows held

  pub leaves-marked : (id : ℕ) (destination : Nwk) (u : route.RouteTable) → route.Holds u (marked_routes destination (tables_of left).routes)
      → Leaves (record { routes = u; discoveries = left.discoveries }) (Ok id) (begun_with old id (marked destination (expired now old)))
  leaves-marked id destination u held =
      leaves-begun (record { routes = u; discoveries = left.discoveries }) id (marked destination (expired now old))
      (both_hold (record { routes = u; discoveries = left.discoveries }) (marked destination (expired now old)) (marked-left destination u held)
      (record { formed = h.formed.discoveries; rows = ap (λ (t : Tables). t.discoveries) h.rows }))

  pub leaves-noted : (id : ℕ) (d : DiscoveryEntry) (v : discovery.DiscoveryTable) → discovery.Holds v (put discovery_key d (tables_of left).discoveries)
      → Leaves (record { routes = left.routes; discoveries = v }) (Ok id) (begun_with old id (noted d (expired now old)))
  leaves-noted id d v kept =
      leaves-begun (record { routes = left.routes; discoveries = v }) id (noted d (expired now old))
      (both_hold (record { routes = left.routes; discoveries = v }) (noted d (expired now old))
      (record { formed = h.formed.routes; rows = ap (λ (t : Tables). t.routes) h.rows }) (noted-left d v kept))

  pub leaves-both : (id : ℕ) (d : DiscoveryEntry) (destination : Nwk) (s : SearchTables) → route.Holds s.routes (marked_routes destination (tables_of left).routes)
      → discovery.Holds s.discoveries (put discovery_key d (tables_of left).discoveries) → Leaves s (Ok id) (begun_with old id (noted d (marked destination (expired now old))))
  leaves-both id d destination s held kept =
      leaves-begun s id (noted d (marked destination (expired now old)))
      (both_hold s (noted d (marked destination (expired now old))) (marked-left destination s.routes held) (noted-left d s.discoveries kept))

-- before the expiry, by what it would leave
module _ (now : ℕ) (s : SearchTables) (w : WellFormed s) where
  left-fits : Fits (expired now (tables_of s))
  left-fits = expired-fits now (tables_of s) (search-fits s w)

  module _ (destination : Nwk) where
    marked-room : leb (length (marked_routes destination (expired now (tables_of s)).routes)) 64 ≡ leb (count_with route_key destination.0 (expired now (tables_of s)).routes) 64
    marked-room =
        ap (λ (n : ℕ). leb n 64)
        (routes-after (expired now (tables_of s)) left-fits destination.0 (with_status DiscoveryUnderway (route_or destination (expired now (tables_of s)).routes)) (marked-key destination (expired now (tables_of s)).routes))

    -- whatever the discoveries are
    pub full-routes : (id : ℕ) (ds : List DiscoveryEntry) → leb (count_with route_key destination.0 (expired now (tables_of s)).routes) 64 ≡ false
        → begun_with (tables_of s) id (record { routes = marked_routes destination (expired now (tables_of s)).routes; discoveries = ds }) ≡ refused (tables_of s) RouteTableFull
    full-routes id ds e =
        begun-by (tables_of s) id (record { routes = marked_routes destination (expired now (tables_of s)).routes; discoveries = ds }) false _ (marked-room ∙ e) refl

  module _ (own : Nwk) (id : ℕ) (d : DiscoveryEntry) (k : InKey d own id) (full : leb (count_with discovery_key (pair_key own id) (keep (live now) (tables_of s).discoveries)) 32 ≡ false) where
    noted-room : leb (length (put discovery_key d (expired now (tables_of s)).discoveries)) 32 ≡ false
    unfolding expired
    noted-room = ap (λ (n : ℕ). leb n 32) (discoveries-after (expired now (tables_of s)) left-fits (pair_key own id) d k) ∙ full

    pub full-noted : begun_with (tables_of s) id (noted d (expired now (tables_of s))) ≡ refused (tables_of s) DiscoveryTableFull
    full-noted = begun-by (tables_of s) id (noted d (expired now (tables_of s))) true false (le-leb _ 64 left-fits.routes.fit.small) noted-room

    pub full-both : (destination : Nwk) → leb (count_with route_key destination.0 (expired now (tables_of s)).routes) 64 ≡ true
        → begun_with (tables_of s) id (noted d (marked destination (expired now (tables_of s)))) ≡ refused (tables_of s) DiscoveryTableFull
    full-both destination free = begun-by (tables_of s) id (noted d (marked destination (expired now (tables_of s)))) true false (marked-room destination ∙ free) noted-room

-- the rules, by what the expiry leaves under the pair
module _ (own : Nwk) (id : ℕ) (now span : ℕ) (old : Tables) where
  pub begun-known : (destination : Nwk) (d : DiscoveryEntry) → lookup discovery_key (pair_key own id) (keep (live now) old.discoveries) ≡ Some d
      → begun old own id destination now span ≡ begun_with old id (marked destination (expired now old))
  unfolding begun begun_on begin expired
  begun-known destination d e = rw e

  pub begun-new : (destination : Nwk) → lookup discovery_key (pair_key own id) (keep (live now) old.discoveries) ≡ None
      → begun old own id destination now span ≡ by_time old (time_sum now span) id (began_new own id destination (expired now old))
  unfolding begun begun_on begin expired
  begun-new destination e = rw e

  pub advertised-is : advertised old own id now span ≡ by_time old (time_sum now span) id (λ (expires : ℕ). noted (own_discovery own id expires (nwk 0xFFFC)) (expired now old))
  unfolding advertised advertise
  advertised-is = refl
