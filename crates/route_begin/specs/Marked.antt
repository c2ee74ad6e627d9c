-- The two steps of a search: the route marked, the discovery stored. Together they are the rule.
-- Assumes nothing.
use Rattle.std.specs.Prelude.{ℕ, List}
use Rattle.types.specs.declared.Nwk.{Nwk}
use Rattle.standard.specs.declared.DiscoveryEntry.{DiscoveryEntry}
use Rattle.standard.specs.declared.RouteEntry.{RouteEntry}
use Rattle.standard.specs.declared.Status.TheVariants.{DiscoveryUnderway}
use Rattle.standard.specs.Begin.{own_discovery}
use Rattle.standard.specs.Discovery.{discovery_key}
use Rattle.standard.specs.Ordered.{put}
use Rattle.standard.specs.Route.{route_key, route_or, with_status}
use Rattle.standard.specs.Tables.{Tables}

abbrev pub marked_routes : Nwk → List RouteEntry → List RouteEntry
marked_routes destination xs = put route_key (with_status DiscoveryUnderway (route_or destination xs)) xs

abbrev pub marked : Nwk → Tables → Tables
marked destination t = record { routes = marked_routes destination t.routes; discoveries = t.discoveries }

abbrev pub noted : DiscoveryEntry → Tables → Tables
noted d t = record { routes = t.routes; discoveries = put discovery_key d t.discoveries }

-- a search whose id is free
abbrev pub began_new : Nwk → ℕ → Nwk → Tables → ℕ → Tables
began_new own id destination t expires = noted (own_discovery own id expires destination) (marked destination t)
