-- What the rules of route search read and write: the routes and the discoveries, as ordered rows.
-- Assumes nothing.
use Rattle.std.specs.Prelude.{List}
use Rattle.standard.specs.declared.RouteEntry.{RouteEntry}
use Rattle.standard.specs.declared.DiscoveryEntry.{DiscoveryEntry}
use Rattle.standard.specs.Ordered.{Ascending}
use Rattle.standard.specs.Route.{route_key}
use Rattle.standard.specs.Discovery.{discovery_key}

pub record Tables : Type 0 where
  pub routes : List RouteEntry
  pub discoveries : List DiscoveryEntry

-- both are in order
pub record InOrder (t : Tables) : Type 0 where
  pub routes : Ascending route_key t.routes
  pub discoveries : Ascending discovery_key t.discoveries
