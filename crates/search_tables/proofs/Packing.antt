-- Well-formed tables are their rows, packed; rows that fit, packed, are well-formed tables whose rows they are.
-- Both are the laws of the two tables, side by side.
use Rattle.std.specs.Prelude.{Option, Some, None, unwrap_or}
use Prim.Native.Nat.{ℕ}
use mathlib.Core.Bool.{Bool, true, false, cond}
use mathlib.Core.Path.{◌≡◌, refl, ap, ◌∙◌}
use Rattle.types.specs.declared.Nwk.{Nwk}
use Rattle.standard.specs.declared.RouteEntry.{RouteEntry}
use lib.ListN.{length}
use Rattle.standard.specs.declared.DiscoveryEntry.{DiscoveryEntry}
use Rattle.standard.specs.declared.ManyToOne.{ManyToOne}
use Rattle.standard.specs.declared.ManyToOne.TheVariants.{NotManyToOne, SenderSupportsRouteRecordTable, SenderDoesntSupportRouteRecordTable, Reserved}
use Rattle.standard.specs.Discovery.{discovery_key}
use Rattle.standard.specs.Ordered.{lookup, put, count_with}
use Rattle.standard.specs.Request.{flagged}
use Rattle.standard.specs.Route.{route_key, route_or, new_route, unknown_hop, suits, via, considered}
use Rattle.standard.specs.declared.Status.TheVariants.{Inactive}
use Rattle.standard.specs.Tables.{Tables}
use Rattle.flat_map.proofs.Ordered.{lookup_key, length-put}
use Rattle.route_table.specs.Table as route-spec
use Rattle.discovery_table.specs.Table as discovery-spec
use Rattle.route_table.proofs.Rows as routes
use Rattle.discovery_table.proofs.Rows as discoveries
use Rattle.search_tables.specs.Packed.{SearchTables, WellFormed, tables_of, packed, Fits, Holds}

pub search-view : (t : SearchTables) → WellFormed t → t ≡ packed (tables_of t)
search-view t w = λ z. record { routes = routes.table-view t.routes w.routes z; discoveries = discoveries.table-view t.discoveries w.discoveries z }

pub search-fits : (t : SearchTables) → WellFormed t → Fits (tables_of t)
search-fits t w = record { routes = routes.table-fit t.routes w.routes; discoveries = discoveries.table-fit t.discoveries w.discoveries }

pub packed-formed : (t : Tables) → Fits t → WellFormed (packed t)
packed-formed t f = record { routes = routes.table-formed t.routes f.routes; discoveries = discoveries.table-formed t.discoveries f.discoveries }

pub packed-rows : (t : Tables) → Fits t → tables_of (packed t) ≡ t
packed-rows t f = λ z. record { routes = routes.table-rows t.routes f.routes z; discoveries = discoveries.table-rows t.discoveries f.discoveries z }

-- the route to d, made or found, stands under d
pub route-or-key : (d : Nwk) (t : Tables) → route_key (route_or d t.routes) ≡ d.0
route-or-key d t = go (lookup route_key d.0 t.routes) refl where
  go : (o : Option RouteEntry) → lookup route_key d.0 t.routes ≡ o → route_key (unwrap_or o (new_route d Inactive unknown_hop)) ≡ d.0
  go None e = refl
  go (Some x) e = lookup_key route_key d.0 t.routes x e

-- what a candidate, a status and a many-to-one field change is not the destination
pub considered-key : (hop : Nwk) (cost : ℕ) (e : RouteEntry) → route_key (considered hop cost e) ≡ route_key e
unfolding considered
considered-key hop cost e = go (suits cost e) where
  go : (b : Bool) → route_key (cond b (via hop cost e) e) ≡ route_key e
  go true = refl
  go false = refl

pub flagged-key : (m : ManyToOne) (e : RouteEntry) → route_key (flagged m e) ≡ route_key e
flagged-key NotManyToOne e = refl
flagged-key SenderSupportsRouteRecordTable e = refl
flagged-key SenderDoesntSupportRouteRecordTable e = refl
flagged-key Reserved e = refl

-- how many rows there are after a row under a key was put
module _ (t : Tables) (f : Fits t) where
  pub routes-after : (k : ℕ) (e : RouteEntry) → route_key e ≡ k → length (put route_key e t.routes) ≡ count_with route_key k t.routes
  routes-after k e q = length-put route_key e t.routes f.routes.fit.ascending ∙ ap (λ (n : ℕ). count_with route_key n t.routes) q

  pub discoveries-after : (k : ℕ) (d : DiscoveryEntry) → discovery_key d ≡ k → length (put discovery_key d t.discoveries) ≡ count_with discovery_key k t.discoveries
  discoveries-after k d q = length-put discovery_key d t.discoveries f.discoveries.fit.ascending ∙ ap (λ (n : ℕ). count_with discovery_key n t.discoveries) q

-- tables that hold rows are the rows, packed
pub holds-packed : (s : SearchTables) (t : Tables) → Holds s t → s ≡ packed t
holds-packed s t h = search-view s h.formed ∙ ap packed h.rows

-- what the two tables hold, side by side
pub both_hold : (s : SearchTables) (t : Tables) → route-spec.Holds s.routes t.routes → discovery-spec.Holds s.discoveries t.discoveries → Holds s t
both_hold s t r d = record {
  formed = record { routes = r.formed; discoveries = d.formed };
  rows = λ z. record { routes = r.rows z; discoveries = d.rows z };
}

pub holds-itself : (s : SearchTables) → WellFormed s → Holds s (tables_of s)
holds-itself s w = record { formed = w; rows = refl }
