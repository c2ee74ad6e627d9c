-- What the rules of route search write is within its width where what the caller hands in is: each field is one of those, one of a row that is there, or fixed.
use Prim.Native.Nat.{ℕ, ◌<◌}
use native.Mathlib.Omega.{arith}
use Rattle.types.specs.declared.Nwk.{Nwk}
use Rattle.standard.specs.declared.DiscoveryEntry.{DiscoveryEntry}
use Rattle.standard.specs.declared.RouteEntry.{RouteEntry}
use Rattle.standard.specs.declared.ManyToOne.{ManyToOne}
use Rattle.standard.specs.declared.ManyToOne.TheVariants.{NotManyToOne, SenderSupportsRouteRecordTable, SenderDoesntSupportRouteRecordTable, Reserved}
use Rattle.standard.specs.Begin.{own_discovery}
use Rattle.standard.specs.Reply.{settled}
use Rattle.standard.specs.Request.{new_discovery, reached, flagged}
use Rattle.standard.specs.Route.{suits, via, considered}
use Rattle.standard.proofs.Picked.{by-test}
use Rattle.route_table.specs.Codec as route
use Rattle.discovery_table.specs.Codec as discovery

module _ (hop : Nwk) (cost : ℕ) (h : hop.0 < 65536) (c : cost < 256) where
  pub via-in-range : (e : RouteEntry) → route.InRange e → route.InRange (via hop cost e)
  via-in-range e r = record { hop = h; cost = c; recent = r.recent }

  pub considered-in-range : (e : RouteEntry) → route.InRange e → route.InRange (considered hop cost e)
  unfolding considered
  considered-in-range e r = by-test route.InRange (suits cost e) (via hop cost e) e (λ _. via-in-range e r) r

  pub reached-in-range : (d : DiscoveryEntry) → discovery.InRange d → discovery.InRange (reached hop cost d)
  reached-in-range d r = record { source = r.source; id = r.id; sender = h; destination = r.destination; forward = c; residual = r.residual }

  module _ (source : Nwk) (id expires : ℕ) (destination : Nwk) (s : source.0 < 65536) (i : id < 256) (d : destination.0 < 65536) where
    pub new-in-range : discovery.InRange (new_discovery source id hop cost expires destination)
    new-in-range = record { source = s; id = i; sender = h; destination = d; forward = c; residual = omega arith }

pub flagged-in-range : (m : ManyToOne) (e : RouteEntry) → route.InRange e → route.InRange (flagged m e)
flagged-in-range NotManyToOne e r = r
flagged-in-range SenderSupportsRouteRecordTable e r = record { hop = r.hop; cost = r.cost; recent = r.recent }
flagged-in-range SenderDoesntSupportRouteRecordTable e r = record { hop = r.hop; cost = r.cost; recent = r.recent }
flagged-in-range Reserved e r = record { hop = r.hop; cost = r.cost; recent = r.recent }

pub settled-in-range : (cost : ℕ) → cost < 256 → (d : DiscoveryEntry) → discovery.InRange d → discovery.InRange (settled cost d)
settled-in-range cost c d r = record { source = r.source; id = r.id; sender = r.sender; destination = r.destination; forward = r.forward; residual = c }

pub own-in-range : (own : Nwk) (id expires : ℕ) (destination : Nwk) → own.0 < 65536 → id < 256 → destination.0 < 65536 → discovery.InRange (own_discovery own id expires destination)
own-in-range own id expires destination s i d = new-in-range _ 0 (omega arith) (omega arith) own id expires destination s i d
