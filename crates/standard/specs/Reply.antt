-- The rule of a route reply: what is done with it, what is reported, and the tables after it.
-- Document 01, "Route rules", "Route reply"; 05-3474 section 3.6.4.5.2 (receipt of a route reply).
-- The departures of the Rust from the specification are pieces of their own: `reply` makes no expiry, `drop_ours`, `written`; docs/DIFFERENCES.md names them.
-- Assumes nothing.
use Rattle.std.specs.Prelude.{ℕ, Bool, cond, ◌&&◌, leb, eqb, Option, Some, None}
use Rattle.types.specs.declared.Nwk.{Nwk}
use Rattle.standard.specs.declared.RouteEntry.{RouteEntry}
use Rattle.standard.specs.declared.DiscoveryEntry.{DiscoveryEntry}
use Rattle.standard.specs.declared.RouteReplyDisposition.{RouteReplyDisposition}
use Rattle.standard.specs.declared.RouteReplyDisposition.TheVariants.{Drop, Established, Relay}
use Rattle.standard.specs.Ordered.{lookup, put}
use Rattle.standard.specs.Route.{route_key, route_or, is_active, via, considered, considering, news}
use Rattle.standard.specs.Discovery.{pair_key, discovery_key}
use Rattle.standard.specs.Tables.{Tables}
use Rattle.standard.specs.declared.RouteUpdate.{RouteUpdate}

pub record Replied : Type 0 where
  pub disposition : RouteReplyDisposition
  pub update : Option RouteUpdate
  pub tables : Tables

-- "A drop changes nothing."
abbrev pub dropped : Tables → Replied
dropped t = record { disposition = Drop; update = None; tables = t }

-- the discovery, the cost left from here to the responder noted
abbrev pub settled : ℕ → DiscoveryEntry → DiscoveryEntry
settled cost d = record {
  route_request_id = d.route_request_id;
  source_address = d.source_address;
  sender_address = d.sender_address;
  forward_cost = d.forward_cost;
  residual_cost = cost;
  expiration_time = d.expiration_time;
  destination_address = d.destination_address;
}

-- "Established and relay both write Active, sender and cost to the responder's route and the cost to the residual."
abbrev pub written : Nwk → ℕ → DiscoveryEntry → RouteEntry → Tables → Tables
written sender cost d r t = record {
  routes = put route_key (via sender cost r) t.routes;
  discoveries = put discovery_key (settled cost d) t.discoveries;
}

-- our own search: the responder's route is established, and "only the responder's route" can be its update
abbrev pub established : Nwk → ℕ → DiscoveryEntry → RouteEntry → Tables → Replied
established sender cost d r t = record { disposition = Established; update = news sender cost r; tables = written sender cost d r t }

-- another's: "Relay then lets the originator's route, made if absent, consider the discovery's sender and forward cost; only that can be a relay's update"
abbrev pub relayed_to : Nwk → Nwk → ℕ → ℕ → Tables → Replied
relayed_to originator hop cost forward t = record {
  disposition = Relay hop cost;
  update = considering hop forward (route_or originator t.routes);
  tables = record {
    routes = put route_key (considered hop forward (route_or originator t.routes)) t.routes;
    discoveries = t.discoveries;
  };
}

-- "Own originator: drop if the route is Active and cost is not below the residual; else established."
abbrev pub drop_ours : ℕ → DiscoveryEntry → RouteEntry → Bool
drop_ours cost d r = is_active r.status && leb d.residual_cost cost

unfoldable pub reply_ours : Nwk → ℕ → DiscoveryEntry → RouteEntry → Tables → Replied
reply_ours sender cost d r t = cond (drop_ours cost d r) (dropped t) (established sender cost d r t)

-- "Another's: drop if cost is not below the residual; else relay to the discovery's sender."
unfoldable pub reply_theirs : Nwk → Nwk → ℕ → DiscoveryEntry → RouteEntry → Tables → Replied
reply_theirs originator sender cost d r t =
    cond (leb d.residual_cost cost) (dropped t)
    (relayed_to originator d.sender_address cost d.forward_cost (written sender cost d r t))

-- "No pair or no route to the responder: drop."
unfoldable pub reply_to : Bool → Nwk → Nwk → ℕ → Tables → Option DiscoveryEntry → Option RouteEntry → Replied
reply_to ours originator sender cost t None r = dropped t
reply_to ours originator sender cost t (Some d) None = dropped t
reply_to ours originator sender cost t (Some d) (Some r) =
    cond ours (reply_ours sender cost d r t) (reply_theirs originator sender cost d r t)

-- a reply to the search (originator, id) that names its responder, heard from a sender at a cost, by the node own; "no expiry"
unfoldable pub reply : Nwk → Nwk → ℕ → Nwk → Nwk → ℕ → Tables → Replied
reply own originator id responder sender cost t =
    reply_to (eqb originator.0 own.0) originator sender cost t
    (lookup discovery_key (pair_key originator id) t.discoveries)
    (lookup route_key responder.0 t.routes)
