-- The relays beside an answer of the route query, and of the record at a place, are blank unless the answer is the one that names them.
use Rattle.std.specs.Prelude.{Option, Some, None, Result, Ok, Err}
use Prim.Native.Nat.{ℕ}
use mathlib.Core.List.{List, []}
use mathlib.Core.Path.{◌≡◌, refl}
use lib.Dec.{eqb, ltb}
use lib.ListN.{length}
use Rattle.types.specs.declared.Nwk.{Nwk}
use Rattle.standard.specs.Query.{entry_at}
use Rattle.standard.specs.Records.{RouteRecord, Way, way_by}
use Rattle.relay_store.specs.Packed.{records_of}
use Rattle.relay_store.specs.Store.{relay_list, agrees}
use Rattle.route_record.specs.Answer.{listed, way_to, record_of, row_for, record_held}
use Rattle.routing.specs.declared.Routing.{Routing}
use Rattle.routing.specs.declared.RouteToAnswer.{RouteToAnswer}
use Rattle.routing.specs.declared.RouteToAnswer.TheVariants as way
use Rattle.routing.specs.declared.RouteToOutcome.{RouteToOutcome}
use Rattle.routing.specs.declared.RecordAtOutcome.{RecordAtOutcome}
use Rattle.routing.specs.Records.{way_in, route_to, row_in}
use Rattle.routing.specs.Records as exported
use Rattle.routing.specs.State.{well_formed, record_table}
use Rattle.standard.proofs.Picked.{by-test}
use Rattle.types.specs.declared.Refusal.{Refusal}
use Rattle.standard.specs.declared.RecordEntry.{RecordEntry}

-- the answers that name relays
abbrev pub NamesRelays : Result RouteToAnswer Refusal → Type 0
NamesRelays (Ok way.SourceRoute) = Unit {0}
NamesRelays (Ok way.NoRoute) = ⊥
NamesRelays (Ok (way.NextHop n)) = ⊥
NamesRelays (Err n) = ⊥

abbrev pub IsFound : Result (Option RecordEntry) Refusal → Type 0
IsFound (Ok (Some e)) = Unit {0}
IsFound (Ok None) = ⊥
IsFound (Err n) = ⊥

abbrev pub BlankWay : RouteToOutcome → Type 0
BlankWay o = (NamesRelays o.answer → ⊥) → o.relays ≡ relay_list []

abbrev pub BlankAt : RecordAtOutcome → Type 0
BlankAt o = (IsFound o.answer → ⊥) → o.relays ≡ relay_list []

way-blank : (s : Routing) (d : Nwk) (limit : ℕ) (x : Option RouteRecord) → BlankWay (way_in s d (listed (way_by limit x)))
way-blank s d limit None = λ _. refl
way-blank s d limit (Some x) =
    by-test (λ (w : Way). BlankWay (way_in s d (listed w))) (eqb (length x.relays) 0) _ _ (λ _ _. refl)
    (by-test (λ (w : Way). BlankWay (way_in s d (listed w))) (ltb (length x.relays) limit) _ _ (λ _ no. absurd (no tt)) (λ _. refl))

-- the route query names relays only beside a source route
pub route-to-blank : (s : Routing) (d : Nwk) (limit : ℕ) (store : List ℕ) → BlankWay (route_to s d limit store)
unfolding route_to way_to
route-to-blank s d limit store =
    by-test BlankWay (well_formed s) _ _
    (λ _. by-test BlankWay (agrees (record_table s) store) _ _ (λ _. way-blank s d limit (record_of d (record_table s) store)) (λ _. refl))
    (λ _. refl)

row-blank : (x : Option RouteRecord) → BlankAt (row_in (row_for x))
row-blank None = λ _. refl
row-blank (Some x) = λ no. absurd (no tt)

-- a record at a place names relays only where there is one
pub record-at-blank : (s : Routing) (place : ℕ) (store : List ℕ) → BlankAt (exported.record_at s place store)
unfolding exported.record_at record_held
record-at-blank s place store =
    by-test BlankAt (well_formed s) _ _
    (λ _. by-test BlankAt (agrees (record_table s) store) _ _ (λ _. row-blank (entry_at place (records_of (record_table s) store))) (λ _. refl))
    (λ _. refl)
