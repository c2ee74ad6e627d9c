-- The state's test tells its well-formedness, table by table, and the part for route search is well formed with it; a well-formed state is its
-- rows, put into columns; a fresh state is well formed, and so is one whose tables are put back well formed.
use Prim.Native.Nat.{ℕ}
use mathlib.Core.Bool.{Bool, true}
use mathlib.Core.List.{List}
use mathlib.Core.Path.{◌≡◌, refl, ap}
use Rattle.standard.specs.declared.RouteEntry.{RouteEntry}
use Rattle.standard.specs.Records.{RouteRecord}
use Rattle.standard.specs.Tables.{Tables}
use Rattle.standard.specs.Tells.{Tells}
use Rattle.standard.proofs.Tells.{tells_both, tells-so}
use Rattle.route_table.specs.Table as route-spec
use Rattle.discovery_table.specs.Table as discovery-spec
use Rattle.record_table.specs.Table as record-spec
use Rattle.columns.specs.Columns.{ordered}
use Rattle.route_table.proofs.Rows as routes
use Rattle.discovery_table.proofs.Rows as discoveries
use Rattle.record_table.proofs.Rows as records
use Rattle.search_tables.specs.Packed as search
use Rattle.search_tables.proofs.Packing.{search-view, holds-packed}
use Rattle.relay_store.specs.Packed.{store_for}
use Rattle.route_record.specs.Answer.{HoldsRecords}
use Rattle.route_record.proofs.Kept.{holds-view}
use Rattle.routing.specs.declared.Routing.{Routing}
use Rattle.routing.specs.Records.{with_records}
use Rattle.routing.specs.Routes.{with_routes}
use Rattle.routing.specs.State.{WellFormed, well_formed, formed_in, fresh, route_table, discovery_table, record_table, with_tables, search_of, with_search, rows_in, with_rows}

pub state-told : (s : Routing) → Tells (WellFormed s) (well_formed s)
unfolding well_formed
state-told s =
    tells-so
    (λ p. record { routes = p.0; discoveries = p.1.0; records = p.1.1 })
    (λ w. (w.routes, (w.discoveries, w.records)))
    (tells_both (routes.well-formed-told (route_table s))
    (tells_both (discoveries.well-formed-told (discovery_table s)) (records.well-formed-told (record_table s))))

-- the test of the columns is that of the state
pub columns-told : (s : Routing) {r : Bool} → r ≡ formed_in (route_table s) (discovery_table s) (record_table s) → r ≡ well_formed s
unfolding well_formed
columns-told s e = e

pub search-formed : (s : Routing) → WellFormed s → search.WellFormed (search_of s)
search-formed s w = record { routes = w.routes; discoveries = w.discoveries }

pub put_back : (s : Routing) (t : search.SearchTables) → WellFormed s → search.WellFormed t → WellFormed (with_search s t)
put_back s t w f = record { routes = f.routes; discoveries = f.discoveries; records = w.records }

-- a well-formed state is its rows, put into columns
pub state-view : (s : Routing) → WellFormed s
    → s ≡ with_tables s (route-spec.table_of (route-spec.rows_of (route_table s))) (discovery-spec.table_of (discovery-spec.rows_of (discovery_table s))) (record-spec.table_of (record-spec.rows_of (record_table s)))
state-view s w = λ z. with_tables s (routes.table-view (route_table s) w.routes z) (discoveries.table-view (discovery_table s) w.discoveries z) (records.table-view (record_table s) w.records z)

-- and so are the tables of route search alone
pub search-whole : (s : Routing) → WellFormed s → s ≡ with_rows s (rows_in s)
search-whole s w = ap (with_search s) (search-view (search_of s) (search-formed s w))

-- columns that hold rows, put back, are the rows put back
pub held_back : (s : Routing) (u : search.SearchTables) (t : Tables) → search.Holds u t → with_search s u ≡ with_rows s t
held_back s u t h = ap (with_search s) (holds-packed u t h)

-- and so for the routes alone
pub held-routes : (s : Routing) (t : route-spec.RouteTable) (xs : List RouteEntry) → route-spec.Holds t xs → with_tables s t (discovery_table s) (record_table s) ≡ with_routes s xs
held-routes s t xs h = ap (λ (u : route-spec.RouteTable). with_tables s u (discovery_table s) (record_table s)) (routes.holds-table t xs h)

-- and for the records, with the store that holds their relays
pub held-records : (s : Routing) (u : record-spec.RecordTable) (after : List ℕ) (xs : List RouteRecord) → HoldsRecords u after xs
    → (with_tables s (route_table s) (discovery_table s) u ≡ with_records s xs) × (after ≡ store_for xs)
held-records s u after xs h = let view = holds-view u after xs h in (ap (with_tables s (route_table s) (discovery_table s)) view.0, view.1)

-- a fresh state is well formed
pub fresh-formed : WellFormed fresh
unfolding well_formed ordered route-spec.table_of discovery-spec.table_of record-spec.table_of
fresh-formed = (state-told fresh).fact computed where
  computed : well_formed fresh ≡ true
  computed = refl
