-- Tables that are lent are well formed, which their types say; a call on a call keeps the memory, as each does; and when the loan is over, the
-- columns are the tables that it left.
use Prim.Native.Nat.{ℕ}
use mathlib.Core.List.{List}
use mathlib.Core.Path.{◌≡◌, refl, sym, ◌∙◌, subst}
use Rattle.route_table.specs.declared.Routes.{Routes}
use Rattle.route_table.specs.declared.RoutesSeen.{RoutesSeen}
use Rattle.route_table.specs.Lent as routes
use Rattle.route_table.proofs.Lent as routes-lent
use Rattle.discovery_table.specs.declared.Discoveries.{Discoveries}
use Rattle.discovery_table.specs.declared.DiscoveryValues.{DiscoveryValues}
use Rattle.discovery_table.specs.declared.DiscoveriesSeen.{DiscoveriesSeen}
use Rattle.discovery_table.specs.Lent as discoveries
use Rattle.discovery_table.proofs.Lent as discoveries-lent
use Rattle.standard.specs.Tables.{Tables}
use Rattle.search_tables.specs.Packed.{SearchTables, in_columns, WellFormed, Holds}
use Rattle.search_tables.specs.Lent.{lent, lent_values, seen, SameMemory, SameValues}

pub formed : (r : Routes) (d : Discoveries) → WellFormed (lent r d)
formed r d = record { routes = routes-lent.formed r; discoveries = discoveries-lent.formed d }

pub values-formed : (r : Routes) (d : DiscoveryValues) → WellFormed (lent_values r d)
values-formed r d = record { routes = routes-lent.formed r; discoveries = discoveries-lent.values-formed d }

pub seen-formed : (r : RoutesSeen) (d : DiscoveriesSeen) → WellFormed (seen r d)
seen-formed r d = record { routes = routes-lent.seen-formed r; discoveries = discoveries-lent.seen-formed d }

-- nothing is written
pub unmoved : (r : Routes) (d : Discoveries) → SameMemory r r d d
unmoved r d = record { routes = record { keys = refl; words = refl; usage = refl }; discoveries = record { keys = refl; words = refl; ends = refl } }

pub values-unmoved : (r : Routes) (d : DiscoveryValues) → SameValues r r d d
values-unmoved r d = record { routes = record { keys = refl; words = refl; usage = refl }; keys = refl; words = refl; ends = refl; count = refl }

-- one call after another
pub routes-on : (a b c : Routes) → routes.SameColumns a b → routes.SameColumns b c → routes.SameColumns a c
routes-on a b c p q = record { keys = q.keys ∙ p.keys; words = q.words ∙ p.words; usage = q.usage ∙ p.usage }

pub discoveries-on : (a b c : Discoveries) → discoveries.SameColumns a b → discoveries.SameColumns b c → discoveries.SameColumns a c
discoveries-on a b c p q = record { keys = q.keys ∙ p.keys; words = q.words ∙ p.words; ends = q.ends ∙ p.ends }

pub memory-on : (r s t : Routes) (d e f : Discoveries) → SameMemory r s d e → SameMemory s t e f → SameMemory r t d f
memory-on r s t d e f p q = record { routes = routes-on r s t p.routes q.routes; discoveries = discoveries-on d e f p.discoveries q.discoveries }

-- the columns when both loans are over
pub given-back : (r : Routes) (d : Discoveries) (rk rw ru dk dw de : List ℕ)
    → rk ≡ r.keys.now → rw ≡ r.words.now → ru ≡ r.usage.now → dk ≡ d.keys.now → dw ≡ d.words.now → de ≡ d.ends.now
    → lent r d ≡ in_columns rk rw ru r.count dk dw de d.count
given-back r d rk rw ru dk dw de p q u k w e = λ z. in_columns (sym p z) (sym q z) (sym u z) r.count (sym k z) (sym w z) (sym e z) d.count

pub values-given-back : (r r' : Routes) (d d' : DiscoveryValues) → SameValues r r' d d' → (rk rw ru dw de : List ℕ)
    → rk ≡ r'.keys.now → rw ≡ r'.words.now → ru ≡ r'.usage.now → dw ≡ d'.words.now → de ≡ d'.ends.now
    → lent_values r' d' ≡ in_columns rk rw ru r'.count d.keys.now dw de d.count
values-given-back r r' d d' m rk rw ru dw de p q u w e = λ z. in_columns (sym p z) (sym q z) (sym u z) r'.count ((m.keys z).now) (sym w z) (sym e z) (m.count z)

-- and hold what these do
pub holds-back : (s u : SearchTables) → s ≡ u → (t : Tables) → Holds s t → Holds u t
holds-back s u p t h = subst (λ (x : SearchTables). Holds x t) p h
