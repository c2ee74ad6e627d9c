-- P8: "expiration equal to now: removed; one millisecond later than now: kept."
use Prim.Native.Nat.{ℕ, ◌+◌}
use mathlib.Core.List.{List, [], ◌∷◌}
use mathlib.Core.Path.{◌≡◌, refl}
use native.Mathlib.Omega.{arith}
use borrow.Author.Tests.{lt-ltb, le-ltb}
use Rattle.standard.specs.declared.DiscoveryEntry.{DiscoveryEntry}
use Rattle.standard.specs.declared.RouteEntry.{RouteEntry}
use Rattle.standard.specs.declared.Status.TheVariants.{DiscoveryUnderway}
use Rattle.standard.specs.Begin.{begin, own_discovery}
use Rattle.standard.specs.Discovery.{live}
use Rattle.standard.specs.Expiry.{expired}
use Rattle.standard.specs.Ordered.{lookup, put, keep}
use Rattle.standard.specs.Query.{some_fits}
use Rattle.standard.specs.Route.{nwk}
use Rattle.route_table.specs.Table as routes
use Rattle.discovery_table.specs.Table as discoveries
use Rattle.record_table.specs.Table as records
use Rattle.route_begin.specs.Answer.{begun, begun_on, begun_with}
use Rattle.columns.specs.Columns.{places, ordered}
use Rattle.route_table.specs.Codec.{route_word, route_in}
use Rattle.discovery_table.specs.Codec.{discovery_word, discovery_in}
use Rattle.routing.specs.declared.Routing.{Routing}
use Rattle.routing.specs.Search.{begin_discovery}
use Rattle.routing.specs.State.{well_formed, fresh}
use Rattle.bench_table.proofs.Calls.{own, moment, span, route, routes_of, searches_of}

-- what expiry does to any discovery d, whatever else the tables hold
module _ (d : DiscoveryEntry) (ds : List DiscoveryEntry) (rs : List RouteEntry) (now : ℕ) where
  pub p8-equal : d.expiration_time ≡ now → (expired now (record { routes = rs; discoveries = d ∷ ds })).discoveries ≡ keep (live now) ds
  unfolding expired
  p8-equal e = rw (le-ltb now d.expiration_time (omega arith))

  pub p8-later : d.expiration_time ≡ now + 1 → (expired now (record { routes = rs; discoveries = d ∷ ds })).discoveries ≡ d ∷ keep (live now) ds
  unfolding expired
  p8-later e = rw (lt-ltb now d.expiration_time (omega arith))

-- a search begun at 5,000 expires at 15,000
abbrev pub begins : Routing
begins = (begin_discovery fresh own (nwk 0x4444) moment span).state

pub p8-begun : searches_of begins ≡ own_discovery own 1 15000 (nwk 0x4444) ∷ []
unfolding begin_discovery begun begun_on begun_with begin expired some_fits well_formed ordered places route_word route_in discovery_word discovery_in routes.table_of discoveries.table_of records.table_of lookup put
p8-begun = refl

-- another search, begun at 15,000: the first is gone, and its route that was underway with it
abbrev pub at : Routing
at = (begin_discovery begins own (nwk 0x5555) 15000 span).state

pub p8-at-searches : searches_of at ≡ own_discovery own 2 25000 (nwk 0x5555) ∷ []
unfolding begin_discovery begun begun_on begun_with begin expired some_fits well_formed ordered places route_word route_in discovery_word discovery_in routes.table_of discoveries.table_of records.table_of lookup put
p8-at-searches = refl

pub p8-at-routes : routes_of at ≡ route 0x5555 DiscoveryUnderway 0xFFFF 255 ∷ []
unfolding begin_discovery begun begun_on begun_with begin expired some_fits well_formed ordered places route_word route_in discovery_word discovery_in routes.table_of discoveries.table_of records.table_of lookup put
p8-at-routes = refl

-- begun one millisecond before that: both are there
abbrev pub before : Routing
before = (begin_discovery begins own (nwk 0x5555) 14999 span).state

pub p8-before-searches : searches_of before ≡ own_discovery own 1 15000 (nwk 0x4444) ∷ own_discovery own 2 24999 (nwk 0x5555) ∷ []
unfolding begin_discovery begun begun_on begun_with begin expired some_fits well_formed ordered places route_word route_in discovery_word discovery_in routes.table_of discoveries.table_of records.table_of lookup put
p8-before-searches = refl

pub p8-before-routes : routes_of before ≡ route 0x4444 DiscoveryUnderway 0xFFFF 255 ∷ route 0x5555 DiscoveryUnderway 0xFFFF 255 ∷ []
unfolding begin_discovery begun begun_on begun_with begin expired some_fits well_formed ordered places route_word route_in discovery_word discovery_in routes.table_of discoveries.table_of records.table_of lookup put
p8-before-routes = refl
