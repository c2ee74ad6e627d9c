-- What is asked of tables as they are seen, before a step, is asked of the tables that are lent: they are the same.
use Rattle.std.specs.Prelude.{Option}
use Prim.Native.Nat.{ℕ}
use mathlib.Core.Bool.{Bool}
use mathlib.Core.Path.{◌≡◌, sym, ap, ◌∙◌}
use lib.Dec.{leb}
use Rattle.standard.specs.declared.DiscoveryEntry.{DiscoveryEntry}
use Rattle.standard.specs.Discovery.{discovery_key, live}
use Rattle.standard.specs.Expiry.{expired}
use Rattle.standard.specs.Ordered.{lookup, count_with, keep}
use Rattle.standard.specs.Route.{route_key}
use Rattle.route_table.specs.declared.RoutesSeen.{RoutesSeen}
use Rattle.route_table.specs.Lent as routes
use Rattle.discovery_table.specs.declared.DiscoveriesSeen.{DiscoveriesSeen}
use Rattle.discovery_table.specs.Table.{DiscoveryTable, rows_of}
use Rattle.discovery_table.specs.Lent as discoveries
use Rattle.search_tables.specs.Packed.{SearchTables, tables_of}
use Rattle.search_tables.specs.Lent.{seen}

pub asked-route : (now k : ℕ) (r : RoutesSeen) (d : DiscoveriesSeen) (s : SearchTables) → routes.seen_table r ≡ s.routes → discoveries.seen_table d ≡ s.discoveries
    → (a b : Bool) → a ≡ leb (count_with route_key k (expired now (tables_of (seen r d))).routes) 64 → a ≡ b
    → leb (count_with route_key k (expired now (tables_of s)).routes) 64 ≡ b
asked-route now k r d s p q a b h e = (λ z. leb (count_with route_key k (expired now (tables_of (record { routes = sym p z; discoveries = sym q z }))).routes) 64) ∙ sym h ∙ e

pub asked-discovery : (now k : ℕ) (d : DiscoveriesSeen) (t : DiscoveryTable) → discoveries.seen_table d ≡ t
    → (a b : Bool) → a ≡ leb (count_with discovery_key k (keep (live now) (discoveries.seen_discoveries d))) 32 → a ≡ b
    → leb (count_with discovery_key k (keep (live now) (rows_of t))) 32 ≡ b
asked-discovery now k d t p a b h e = ap (λ (x : DiscoveryTable). leb (count_with discovery_key k (keep (live now) (rows_of x))) 32) (sym p) ∙ sym h ∙ e

pub asked-live : (now k : ℕ) (d : DiscoveriesSeen) (t : DiscoveryTable) → discoveries.seen_table d ≡ t
    → (o : Option DiscoveryEntry) → o ≡ lookup discovery_key k (keep (live now) (discoveries.seen_discoveries d)) → o ≡ lookup discovery_key k (keep (live now) (rows_of t))
asked-live now k d t p o h = h ∙ ap (λ (x : DiscoveryTable). lookup discovery_key k (keep (live now) (rows_of x))) p
