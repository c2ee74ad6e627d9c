-- What expiry would leave, asked of the rows as they are: whether a route stays, what is found under a pair, and whether there is room.
-- Each is a law of what a filter leaves, for these rows.
use Rattle.std.specs.Prelude.{Some, None, Ok, Err}
use Prim.Native.Nat.{ℕ, ◌<◌, ◌≤◌}
use native.Mathlib.Omega.{arith}
use mathlib.Core.Bool.{Bool, true, false, not, ◌&&◌}
use mathlib.Core.List.{List}
use mathlib.Core.Path.{◌≡◌, refl, sym, ap, ◌∙◌}
use lib.Dec.{leb}
use lib.ListN.{take}
use Rattle.flat_map.specs.Seek.{place_of}
use Rattle.flat_map.proofs.Left.{some_left, found_left, gone-left, missing-left, room-free, room-there, room-freed}
use Rattle.standard.specs.declared.RouteEntry.{RouteEntry}
use Rattle.standard.specs.declared.DiscoveryEntry.{DiscoveryEntry}
use Rattle.standard.specs.Discovery.{discovery_key, live, is_over, names, awaits}
use Rattle.standard.specs.Expiry.{stays, expired}
use Rattle.standard.specs.Ordered.{lookup, count_with, keep}
use Rattle.standard.specs.Query.{some_fits}
use Rattle.standard.specs.Route.{is_underway, route_key}
use Rattle.route_table.proofs.Rows as routes
use Rattle.discovery_table.specs.Table as discovery
use Rattle.discovery_table.proofs.Rows as discoveries
use Rattle.search_tables.specs.Packed.{SearchTables, WellFormed, tables_of}

-- a discovery that is left and names a destination is live and names it
pub named-left : (now k : ℕ) (ds : List DiscoveryEntry) → some_fits (names k) (keep (live now) ds) ≡ some_fits (awaits k now) ds
named-left now k ds = some_left (live now) (names k) ds

-- the three questions, in their order
module _ (now : ℕ) (ds : List DiscoveryEntry) (e : RouteEntry) where
  pub idle-stays : is_underway e.status ≡ false → stays ds (keep (live now) ds) e ≡ true
  idle-stays h = ap (λ (a : Bool). not (a && (some_fits (names (route_key e)) ds && not (some_fits (names (route_key e)) (keep (live now) ds))))) h

  pub unnamed-stays : is_underway e.status ≡ true → some_fits (names (route_key e)) ds ≡ false → stays ds (keep (live now) ds) e ≡ true
  unnamed-stays h n = λ z. not (h z && (n z && not (some_fits (names (route_key e)) (keep (live now) ds))))

  pub awaited-stays : is_underway e.status ≡ true → some_fits (names (route_key e)) ds ≡ true → stays ds (keep (live now) ds) e ≡ some_fits (awaits (route_key e) now) ds
  awaited-stays h n = (λ z. not (h z && (n z && not (named-left now (route_key e) ds z)))) ∙ twice (some_fits (awaits (route_key e) now) ds) where
    twice : (b : Bool) → not (not b) ≡ b
    twice true = refl
    twice false = refl

-- what stands under a pair once expiry is made
module _ (now k : ℕ) (t : discovery.DiscoveryTable) (w : discovery.WellFormed t) where
  pub live-missing : None ≡ (lookup discovery_key k (discovery.rows_of t)) → None ≡ lookup discovery_key k (keep (live now) (discovery.rows_of t))
  live-missing q = (sym (missing-left discovery_key (live now) k (discovery.rows_of t) (discoveries.looked-missing _ q)))

  pub live-over : (d : DiscoveryEntry) → Some d ≡ (lookup discovery_key k (discovery.rows_of t)) → live now d ≡ false
      → None ≡ lookup discovery_key k (keep (live now) (discovery.rows_of t))
  live-over d q h = (sym (gone-left discovery_key (live now) k (discovery.rows_of t) d (discoveries.table-fit t w).fit.ascending (discoveries.looked-found _ d q) h))

  pub live-found : (d : DiscoveryEntry) → Some d ≡ (lookup discovery_key k (discovery.rows_of t)) → live now d ≡ true
      → Some d ≡ lookup discovery_key k (keep (live now) (discovery.rows_of t))
  live-found d q h = (sym (found_left discovery_key (live now) k (discovery.rows_of t) d (discoveries.looked-found _ d q) h))

  -- room for it
  pub discovery-free : t.count < 32 → true ≡ leb (count_with discovery_key k (keep (live now) (discovery.rows_of t))) 32
  discovery-free h = sym (room-free discovery_key (live now) k 32 (discovery.rows_of t) (omega (arith, h, discoveries.many t w)))

  pub discovery-there : (i : ℕ) → Ok i ≡ place_of (take t.count t.keys) k → true ≡ leb (count_with discovery_key k (keep (live now) (discovery.rows_of t))) 32
  discovery-there i p = sym (room-there discovery_key (live now) k 32 (discovery.rows_of t) _ (discoveries.table-fit t w).fit.small (discoveries.found-row t w k i p))

  pub discovery-freed : 32 ≤ t.count → (i : ℕ) → Err i ≡ place_of (take t.count t.keys) k
      → some_fits (is_over now) (discovery.rows_of t) ≡ leb (count_with discovery_key k (keep (live now) (discovery.rows_of t))) 32
  discovery-freed h i p = sym (room-freed discovery_key (live now) k 32 (discovery.rows_of t) (omega (arith, h, w.ordered.small, discoveries.many t w)) (discoveries.missing-row t w k i p))

-- whether a route goes
abbrev pub goes : ℕ → List DiscoveryEntry → RouteEntry → Bool
goes now ds e = not (stays ds (keep (live now) ds) e)

-- room for a route once expiry is made
module _ (now k : ℕ) (s : SearchTables) (w : WellFormed s) where
  pub route-free : s.routes.count < 64 → true ≡ leb (count_with route_key k (expired now (tables_of s)).routes) 64
  unfolding expired
  route-free h =
      sym (room-free route_key (stays (tables_of s).discoveries (keep (live now) (tables_of s).discoveries)) k 64 (tables_of s).routes
      (omega (arith, h, routes.many s.routes w.routes)))

  pub route-there : (i : ℕ) → Ok i ≡ place_of (take s.routes.count s.routes.keys) k → true ≡ leb (count_with route_key k (expired now (tables_of s)).routes) 64
  unfolding expired
  route-there i p =
      sym (room-there route_key (stays (tables_of s).discoveries (keep (live now) (tables_of s).discoveries)) k 64 (tables_of s).routes _
      (routes.table-fit s.routes w.routes).fit.small (routes.found-row s.routes w.routes k i p))

  pub route-freed : 64 ≤ s.routes.count → (i : ℕ) → Err i ≡ place_of (take s.routes.count s.routes.keys) k
      → some_fits (goes now (tables_of s).discoveries) (tables_of s).routes ≡ leb (count_with route_key k (expired now (tables_of s)).routes) 64
  unfolding expired
  route-freed h i p =
      sym (room-freed route_key (stays (tables_of s).discoveries (keep (live now) (tables_of s).discoveries)) k 64 (tables_of s).routes
      (omega (arith, h, w.routes.ordered.small, routes.many s.routes w.routes)) (routes.missing-row s.routes w.routes k i p))
