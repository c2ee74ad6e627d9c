-- What expiry leaves of the routes and the discoveries.
-- Document 01, "Route rules": "Expiry removes every discovery with expiration at or before now. For each removed destination that no
-- remaining discovery names, a DiscoveryUnderway route is removed." 05-3474 section 3.6.4.5.1.7.
-- Assumes nothing.
use Rattle.std.specs.Prelude.{ℕ, Bool, not, ◌&&◌, List}
use Rattle.standard.specs.declared.RouteEntry.{RouteEntry}
use Rattle.standard.specs.declared.DiscoveryEntry.{DiscoveryEntry}
use Rattle.standard.specs.Discovery.{live, names}
use Rattle.standard.specs.Ordered.{keep}
use Rattle.standard.specs.Query.{some_fits}
use Rattle.standard.specs.Route.{is_underway, route_key}
use Rattle.standard.specs.Tables.{Tables}

-- a route goes where it is underway, a discovery named its destination, and none that is left does
abbrev pub stays : List DiscoveryEntry → List DiscoveryEntry → RouteEntry → Bool
stays before left e = not (is_underway e.status && (some_fits (names (route_key e)) before && not (some_fits (names (route_key e)) left)))

unfoldable pub expired : ℕ → Tables → Tables
expired now t = record {
  routes = keep (stays t.discoveries (keep (live now) t.discoveries)) t.routes;
  discoveries = keep (live now) t.discoveries;
}
