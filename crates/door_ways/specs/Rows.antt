-- The numbers of the route record at a place: no record 0; a record 1, its destination and its relays.
-- Document 01, "How each place should look": "a definition gives this paper's number and values for each of its cases".
-- Assumes nothing.
use Rattle.std.specs.Prelude.{ℕ, List, ◌≡◌, length, Option, Some, None, Result, Ok, Err}
use Rattle.types.specs.Refusal.{refusal_number}
use Rattle.standard.specs.declared.RelayList.{RelayList}
use Rattle.routing.specs.declared.Routing.{Routing}
use Rattle.routing.specs.declared.RecordAtOutcome.{RecordAtOutcome}
use Rattle.routing.specs.Records.{record_at}
use Rattle.door.specs.Lent.{Counters, Reading, Asked, NotAsked}
use Rattle.door_ways.specs.Relays.{RelayedPlaces, relayed_with}
use Rattle.types.specs.declared.Refusal.{Refusal}
use Rattle.standard.specs.declared.RecordEntry.{RecordEntry}

abbrev pub row_status : Result (Option RecordEntry) Refusal → ℕ
row_status (Err why) = refusal_number why
row_status (Ok None) = 0
row_status (Ok (Some e)) = 0

-- the relays beside no record are blank (routing, `record-at-blank`), so that their places are 0
abbrev pub row_places : Result (Option RecordEntry) Refusal → RelayList → RelayedPlaces → RelayedPlaces
row_places (Err why) l old = old
row_places (Ok None) l old = relayed_with 0 0 l
row_places (Ok (Some e)) l old = relayed_with 1 e.destination.0 l

-- an answer with relays beside it
abbrev pub row_beside : Result (Option RecordEntry) Refusal → RelayList → RecordAtOutcome
row_beside answer l = record { answer = answer; relays = l }

abbrev pub row_numbers : Reading RecordAtOutcome RelayedPlaces
row_numbers = record { status = λ (x : RecordAtOutcome). row_status x.answer; places = λ (x : RecordAtOutcome). row_places x.answer x.relays }

-- the relays go out to 32 places: any other number of them is no call, whatever the state
pub record RowAsked (state : Counters → Routing) (place : ℕ) (store : List ℕ) (old new : RelayedPlaces) (r : ℕ) : Type 0 where
  pub call : length old.relays ≡ 32 → Asked row_numbers (λ (s : Routing). record_at s place store) state old new r
  pub none : (length old.relays ≡ 32 → ⊥) → NotAsked old new r
