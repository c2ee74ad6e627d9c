-- What expiry leaves of rows that fit two tables fits them too: it only drops rows.
-- Where no discovery goes, no route goes.
use Prim.Native.Nat.{ℕ}
use mathlib.Core.Bool.{Bool, true, false, not, ◌&&◌}
use mathlib.Core.List.{List}
use mathlib.Core.Path.{◌≡◌, refl, sym, ap, ◌∙◌}
use Rattle.flat_map.proofs.Fits.{keep-every}
use Rattle.flat_map.proofs.Left.{all_left}
use Rattle.standard.specs.declared.RouteEntry.{RouteEntry}
use Rattle.standard.specs.declared.DiscoveryEntry.{DiscoveryEntry}
use Rattle.standard.specs.Discovery.{live, is_over, names}
use Rattle.standard.specs.Expiry.{stays, expired}
use Rattle.standard.specs.Ordered.{keep}
use Rattle.standard.specs.Query.{some_fits}
use Rattle.standard.specs.Route.{is_underway, route_key}
use Rattle.standard.specs.Tables.{Tables}
use Rattle.route_table.specs.Table as route
use Rattle.discovery_table.specs.Table as discovery
use Rattle.route_table.proofs.Rows as routes
use Rattle.discovery_table.proofs.Rows as discoveries
use Rattle.search_tables.specs.Packed.{SearchTables, WellFormed, tables_of, Fits, Holds}
use Rattle.search_tables.proofs.Packing.{both_hold}

pub expired-fits : (now : ℕ) (t : Tables) → Fits t → Fits (expired now t)
unfolding expired
expired-fits now t h = record {
  routes = routes.fits-keep t.routes h.routes (stays t.discoveries (keep (live now) t.discoveries));
  discoveries = discoveries.fits-keep t.discoveries h.discoveries (live now);
}

-- a route for which no discovery went
pub waits-on : (ds : List DiscoveryEntry) (e : RouteEntry) → stays ds ds e ≡ true
waits-on ds e = go (is_underway e.status) (some_fits (names (route_key e)) ds) where
  go : (a b : Bool) → not (a && (b && not b)) ≡ true
  go false b = refl
  go true false = refl
  go true true = refl

pub nothing-over : (now : ℕ) (t : Tables) → keep (live now) t.discoveries ≡ t.discoveries → expired now t ≡ t
unfolding expired
nothing-over now t e = λ z. record { routes = whole z; discoveries = e z } where
  whole : keep (stays t.discoveries (keep (live now) t.discoveries)) t.routes ≡ t.routes
  whole =
      ap (λ (left : List DiscoveryEntry). keep (stays t.discoveries left) t.routes) e
      ∙ keep-every (stays t.discoveries t.discoveries) (waits-on t.discoveries) t.routes

-- asked of the discoveries
pub none_over : (now : ℕ) (t : Tables) → some_fits (is_over now) t.discoveries ≡ false → expired now t ≡ t
none_over now t e = nothing-over now t (all_left (live now) t.discoveries e)

-- tables where none is over hold what expiry would leave
pub holds-all : (now : ℕ) (s : SearchTables) → WellFormed s → some_fits (is_over now) (tables_of s).discoveries ≡ false → Holds s (expired now (tables_of s))
holds-all now s w e = record { formed = w; rows = sym (none_over now (tables_of s) e) }

-- routes and discoveries that are left, side by side
pub both_left : (now : ℕ) (t : Tables) (s : SearchTables) → route.Holds s.routes (expired now t).routes → discovery.Holds s.discoveries (keep (live now) t.discoveries) → Holds s (expired now t)
unfolding expired
both_left now t s r d = both_hold s (expired now t) r d
