-- The exported calls on route records, whose relays are in a lent store: the answer and the state, and the store after the call.
-- Document 01, "Route rules", "Route record" and "Route to D"; "Refusal numbers", 10, 9 and 8 before the call, 3 and 6 in it.
-- Assumes nothing.
use Rattle.std.specs.Prelude.{ℕ, cond, List, [], ltb, length, Option, Some, None, Result, Ok, Err}
use Rattle.types.specs.declared.Nwk.{Nwk}
use Rattle.types.specs.declared.Refusal.{Refusal}
use Rattle.types.specs.declared.Refusal.TheVariants.{StateIllFormed, StoreDisagrees, ListTooLong}
use Rattle.standard.specs.declared.RecordRoute.{RecordRoute}
use Rattle.standard.specs.declared.RecordRoute.TheVariants as record-route
use Rattle.standard.specs.declared.RelayList.{RelayList}
use Rattle.standard.specs.declared.RouteEntry.{RouteEntry}
use Rattle.standard.specs.Calls.{hop_at}
use Rattle.standard.specs.Ordered.{lookup, remove}
use Rattle.standard.specs.Query.{is_there}
use Rattle.standard.specs.Records.{RouteRecord, address_key}
use Rattle.record_table.specs.Table as records
use Rattle.relay_store.specs.Store.{relays_of, relay_list, agrees}
use Rattle.relay_store.specs.Packed.{records_of, table_for, store_for}
use Rattle.route_calls.specs.Answer.{hop_answer}
use Rattle.route_record.specs.declared.RecordWay.{RecordWay}
use Rattle.route_record.specs.declared.RecordRow.{RecordRow}
use Rattle.route_record.specs.Answer.{RecordStep, stored_step, way_to, record_held}
use Rattle.routing.specs.declared.Routing.{Routing}
use Rattle.routing.specs.declared.RecordAtOutcome.{RecordAtOutcome}
use Rattle.routing.specs.declared.RecordOutcome.{RecordOutcome}
use Rattle.routing.specs.declared.RouteToAnswer.{RouteToAnswer}
use Rattle.routing.specs.declared.RouteToAnswer.TheVariants as way
use Rattle.routing.specs.declared.RouteToOutcome.{RouteToOutcome}
use Rattle.routing.specs.declared.ToldOutcome.{ToldOutcome}
use Rattle.routing.specs.Routes.{routes_in, refused_told}
use Rattle.routing.specs.State.{well_formed, route_table, discovery_table, record_table, with_tables}

-- the records of a state and a store, and the state with records in their place
abbrev pub records_in : Routing → List ℕ → List RouteRecord
records_in s store = records_of (record_table s) store

abbrev pub with_records : Routing → List RouteRecord → Routing
with_records s xs = with_tables s (route_table s) (discovery_table s) (table_for xs)

abbrev pub recorded_in : Routing → RecordStep → RecordOutcome
recorded_in s x = record { answer = x.answer; state = with_records s x.records }

-- "All hand back the given state .. and store unchanged and no other answer."
abbrev pub refused_record : Routing → Refusal → RecordOutcome
refused_record s n = record { answer = Err n; state = s }

abbrev pub refused_way : Refusal → RouteToOutcome
refused_way n = record { answer = Err n; relays = relay_list [] }

-- A route record of a source: the answer and the state, and the store after it.
abbrev pub store_route_record_core : Routing → Nwk → RelayList → List ℕ → RecordOutcome
store_route_record_core s source relays store = recorded_in s (stored_step source (relays_of relays) (records_in s store))

abbrev pub store_after_record_core : Routing → Nwk → RelayList → List ℕ → List ℕ
store_after_record_core s source relays store = store_for (stored_step source (relays_of relays) (records_in s store)).records

unfoldable pub store_route_record : Routing → Nwk → RelayList → List ℕ → RecordOutcome
store_route_record s source relays store =
    cond (well_formed s)
    (cond (agrees (record_table s) store)
    (cond (ltb 32 relays.count) (refused_record s ListTooLong) (store_route_record_core s source relays store))
    (refused_record s StoreDisagrees))
    (refused_record s StateIllFormed)

unfoldable pub store_after_record : Routing → Nwk → RelayList → List ℕ → List ℕ
store_after_record s source relays store =
    cond (well_formed s)
    (cond (agrees (record_table s) store) (cond (ltb 32 relays.count) store (store_after_record_core s source relays store)) store)
    store

-- The record of a destination is removed; whether there was one, and the store after it.
abbrev pub remove_route_record_core : Routing → Nwk → List ℕ → ToldOutcome
remove_route_record_core s destination store = record {
  answer = Ok (is_there (lookup address_key destination.0 (records_in s store)));
  state = with_records s (remove address_key destination.0 (records_in s store));
}

abbrev pub store_after_removal_core : Routing → Nwk → List ℕ → List ℕ
store_after_removal_core s destination store = store_for (remove address_key destination.0 (records_in s store))

unfoldable pub remove_route_record : Routing → Nwk → List ℕ → ToldOutcome
remove_route_record s destination store =
    cond (well_formed s)
    (cond (agrees (record_table s) store) (remove_route_record_core s destination store) (refused_told s StoreDisagrees))
    (refused_told s StateIllFormed)

unfoldable pub store_after_removal : Routing → Nwk → List ℕ → List ℕ
store_after_removal s destination store =
    cond (well_formed s) (cond (agrees (record_table s) store) (store_after_removal_core s destination store) store) store

-- "the hop to be returned, by .. the route query .., is 0xFFFF from an Active route": 6
abbrev pub hop_to : Result (Option Nwk) Refusal → Result RouteToAnswer Refusal
hop_to (Ok None) = Ok way.NoRoute
hop_to (Ok (Some n)) = Ok (way.NextHop n)
hop_to (Err why) = Err why

-- "an empty record is direct; fewer relays than the limit give a source route; else the Active route"
abbrev pub answer_in : List RouteEntry → Nwk → Option RecordRoute → Result RouteToAnswer Refusal
answer_in routes destination (Some record-route.Direct) = Ok (way.NextHop destination)
answer_in routes destination (Some record-route.SourceRoute) = Ok way.SourceRoute
answer_in routes destination None = hop_to (hop_answer (hop_at destination.0 routes))

abbrev pub answer_by : Routing → Nwk → Option RecordRoute → Result RouteToAnswer Refusal
answer_by s destination x = answer_in (routes_in s) destination x

abbrev pub way_in : Routing → Nwk → RecordWay → RouteToOutcome
way_in s destination x = record { answer = answer_by s destination x.route; relays = x.relays }

-- The way to a destination, by a limit on the relays and by the default policy: "longest source route 12".
abbrev pub route_to_core : Routing → Nwk → ℕ → List ℕ → RouteToOutcome
route_to_core s destination limit store = way_in s destination (way_to destination limit (record_table s) store)

unfoldable pub route_to : Routing → Nwk → ℕ → List ℕ → RouteToOutcome
route_to s destination limit store =
    cond (well_formed s)
    (cond (agrees (record_table s) store) (route_to_core s destination limit store) (refused_way StoreDisagrees))
    (refused_way StateIllFormed)

abbrev pub route_to_default : Routing → Nwk → List ℕ → RouteToOutcome
route_to_default s destination store = route_to s destination 12 store

-- How many route records there are.
abbrev pub record_count_core : Routing → Result ℕ Refusal
record_count_core s = Ok (length (records.rows_of (record_table s)))

unfoldable pub record_count : Routing → Result ℕ Refusal
record_count s = cond (well_formed s) (record_count_core s) (Err StateIllFormed)

abbrev pub refused_record_at : Refusal → RecordAtOutcome
refused_record_at n = record { answer = Err n; relays = relay_list [] }

abbrev pub row_in : RecordRow → RecordAtOutcome
row_in x = record { answer = Ok x.entry; relays = x.relays }

abbrev pub record_at_core : Routing → ℕ → List ℕ → RecordAtOutcome
record_at_core s place store = row_in (record_held place (record_table s) store)

unfoldable pub record_at : Routing → ℕ → List ℕ → RecordAtOutcome
record_at s place store =
    cond (well_formed s)
    (cond (agrees (record_table s) store) (record_at_core s place store) (refused_record_at StoreDisagrees))
    (refused_record_at StateIllFormed)
