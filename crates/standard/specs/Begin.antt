-- A search of our own and a many-to-one advertisement, on tables whose expiry is done.
-- Document 01, "Route rules", "Begin discovery"; 05-3474 section 3.6.4.5.1 (initiation of route discovery).
-- Assumes nothing.
use Rattle.std.specs.Prelude.{ℕ, List, Option, Some, None}
use Rattle.types.specs.declared.Nwk.{Nwk}
use Rattle.standard.specs.declared.DiscoveryEntry.{DiscoveryEntry}
use Rattle.standard.specs.declared.Status.TheVariants.{DiscoveryUnderway}
use Rattle.standard.specs.Ordered.{lookup, put}
use Rattle.standard.specs.Route.{nwk, unknown_hop, route_key, route_or, with_status}
use Rattle.standard.specs.Discovery.{pair_key, discovery_key}
use Rattle.standard.specs.Request.{new_discovery}
use Rattle.standard.specs.Tables.{Tables}

-- a discovery of our own: no sender, forward cost 0
abbrev pub own_discovery : Nwk → ℕ → ℕ → Nwk → DiscoveryEntry
own_discovery own id expires destination = new_discovery own id unknown_hop 0 expires destination

-- "A live entry under own address and that id is kept as it is."
abbrev pub kept_or : Option DiscoveryEntry → DiscoveryEntry → List DiscoveryEntry → List DiscoveryEntry
kept_or None e ds = put discovery_key e ds
kept_or (Some d) e ds = ds

-- "the route becomes DiscoveryUnderway, made with hop 0xFFFF and cost 255 if absent"
unfoldable pub begin : Nwk → ℕ → Nwk → ℕ → Tables → Tables
begin own id destination expires t = record {
  routes = put route_key (with_status DiscoveryUnderway (route_or destination t.routes)) t.routes;
  discoveries = kept_or (lookup discovery_key (pair_key own id) t.discoveries) (own_discovery own id expires destination) t.discoveries;
}

-- "A many-to-one advertisement .. makes no route, and overwrites it, with destination 0xFFFC."
unfoldable pub advertise : Nwk → ℕ → ℕ → Tables → Tables
advertise own id expires t = record {
  routes = t.routes;
  discoveries = put discovery_key (own_discovery own id expires (nwk 0xFFFC)) t.discoveries;
}
