-- The numbers of the answers of the calls on route records: whether the record changed what is known, and whether there was one to remove.
-- Document 01, "How each place should look": "a definition gives this paper's number and values for each of its cases".
-- Assumes nothing.
use Rattle.std.specs.Prelude.{ℕ, List, map, Result, Ok, Err, Bool}
use Rattle.types.specs.Refusal.{refusal_number}
use Rattle.types.specs.declared.Nwk.{Nwk}
use Rattle.numbers.specs.Said.{flag_number}
use Rattle.standard.specs.declared.RelayList.{RelayList}
use Rattle.standard.specs.Route.{nwk}
use Rattle.relay_store.specs.Store.{relay_list}
use Rattle.routing.specs.declared.Routing.{Routing}
use Rattle.routing.specs.declared.RecordOutcome.{RecordOutcome}
use Rattle.routing.specs.declared.ToldOutcome.{ToldOutcome}
use Rattle.routing.specs.Records.{store_route_record, store_after_record, remove_route_record, store_after_removal}
use Rattle.door.specs.Lent.{Counters, Reading}
use Rattle.door.specs.Lent as lent
use Rattle.door.specs.Places.{told_numbers}
use Rattle.types.specs.declared.Refusal.{Refusal}

-- relays that are given, as many as there are numbers: a list of more than 32 is refused by its count
abbrev pub given : List ℕ → RelayList
given relays = relay_list (map nwk relays)

abbrev pub record_status : Result Bool Refusal → ℕ
record_status (Err why) = refusal_number why
record_status (Ok b) = 0

abbrev pub record_place : Result Bool Refusal → ℕ → ℕ
record_place (Err why) old = old
record_place (Ok b) old = flag_number b

abbrev pub record_numbers : Reading (Result Bool Refusal) ℕ
record_numbers = record { status = record_status; places = record_place }

abbrev pub RecordMade : (Counters → Routing) → (Counters → Routing) → Nwk → List ℕ → List ℕ → List ℕ → ℕ → ℕ → ℕ → Type 0
RecordMade before after source relays store later old new r =
    lent.Stored record_numbers (λ (x : RecordOutcome). x.answer) (λ (x : RecordOutcome). x.state)
    (λ (s : Routing). store_route_record s source (given relays) store) (λ (s : Routing). store_after_record s source (given relays) store) before after later old new r

abbrev pub RemovedMade : (Counters → Routing) → (Counters → Routing) → Nwk → List ℕ → List ℕ → ℕ → ℕ → ℕ → Type 0
RemovedMade before after destination store later old new r =
    lent.Stored told_numbers (λ (x : ToldOutcome). x.answer) (λ (x : ToldOutcome). x.state)
    (λ (s : Routing). remove_route_record s destination store) (λ (s : Routing). store_after_removal s destination store) before after later old new r
