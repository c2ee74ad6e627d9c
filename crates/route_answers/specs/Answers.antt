-- The number and the values of each case of an answer of an exported routing call.
-- Document 01, "Refusal numbers" and "How each place should look".
-- Assumes nothing.
use Rattle.std.specs.Prelude.{[], ◌∷◌, ◌++◌, Option, Some, None, Result, Ok, Err, Bool, ℕ}
use Rattle.numbers.specs.Said.{Said, ok, refused_by, flag_number}
use Rattle.standard.specs.declared.RelayList.{RelayList}
use Rattle.standard.specs.Numbers.{update_numbers, disposition_numbers}
use Rattle.routing.specs.declared.RouteToAnswer.{RouteToAnswer}
use Rattle.routing.specs.declared.RouteToAnswer.TheVariants as way
use Rattle.route_answers.specs.Values.{relay_numbers, status_numbers, deadline_numbers, check_numbers, route_looked_numbers, discovery_looked_numbers}
use Rattle.types.specs.declared.Nwk.{Nwk}
use Rattle.types.specs.declared.Refusal.{Refusal}
use Rattle.standard.specs.declared.RouteUpdate.{RouteUpdate}
use Rattle.standard.specs.declared.RouteEntry.{RouteEntry}
use Rattle.standard.specs.declared.DiscoveryEntry.{DiscoveryEntry}
use Rattle.standard.specs.declared.RecordEntry.{RecordEntry}
use Rattle.standard.specs.declared.Status.{Status}
use Rattle.standard.specs.declared.RouteReplyDisposition.{RouteReplyDisposition}
use Rattle.route_calls.specs.declared.Checked.{Checked}

-- drop 0, established 1, relay 2 with hop and cost; then the update
abbrev pub reply_said : Result (RouteReplyDisposition × Option RouteUpdate) Refusal → Said
reply_said (Err why) = refused_by why
reply_said (Ok (d, u)) = ok (disposition_numbers d ++ update_numbers u)

-- accepted or not; then the update
abbrev pub request_said : Result (Bool × Option RouteUpdate) Refusal → Said
request_said (Err why) = refused_by why
request_said (Ok (accepted, u)) = ok (flag_number accepted ∷ update_numbers u)

-- the request id
abbrev pub begin_said : Result ℕ Refusal → Said
begin_said (Err why) = refused_by why
begin_said (Ok id) = ok (id ∷ [])

-- nothing is said of a call that is done
abbrev pub done_said : Result Unit Refusal → Said
done_said (Err why) = refused_by why
done_said (Ok tt) = ok []

abbrev pub told_said : Result Bool Refusal → Said
told_said (Err why) = refused_by why
told_said (Ok b) = ok (flag_number b ∷ [])

-- whether the record changed what is known
abbrev pub record_said : Result Bool Refusal → Said
record_said (Err why) = refused_by why
record_said (Ok b) = ok (flag_number b ∷ [])

-- 0 for none, else 1 and the value
abbrev pub hop_said : Result (Option Nwk) Refusal → Said
hop_said (Err why) = refused_by why
hop_said (Ok None) = ok (0 ∷ [])
hop_said (Ok (Some n)) = ok (1 ∷ n.0 ∷ [])

abbrev pub status_said : Result (Option Status) Refusal → Said
status_said (Err why) = refused_by why
status_said (Ok s) = ok (status_numbers s)

abbrev pub deadline_said : Result (Option ℕ) Refusal → Said
deadline_said (Err why) = refused_by why
deadline_said (Ok d) = ok (deadline_numbers d)

abbrev pub route_at_said : Result (Option RouteEntry) Refusal → Said
route_at_said (Err why) = refused_by why
route_at_said (Ok x) = ok (route_looked_numbers x)

abbrev pub discovery_at_said : Result (Option DiscoveryEntry) Refusal → Said
discovery_at_said (Err why) = refused_by why
discovery_at_said (Ok x) = ok (discovery_looked_numbers x)

abbrev pub count_said : Result ℕ Refusal → Said
count_said (Err why) = refused_by why
count_said (Ok n) = ok (n ∷ [])

abbrev pub check_said : Result Checked Refusal → Said
check_said (Err why) = refused_by why
check_said (Ok x) = ok (check_numbers x)

-- no way 0; a hop 1 and the hop; a source route 2 and its relays
abbrev pub way_said : Result RouteToAnswer Refusal → RelayList → Said
way_said (Err why) l = refused_by why
way_said (Ok way.NoRoute) l = ok (0 ∷ [])
way_said (Ok (way.NextHop n)) l = ok (1 ∷ n.0 ∷ [])
way_said (Ok way.SourceRoute) l = ok (2 ∷ relay_numbers l)

-- no record 0; a record 1, its destination and its relays
abbrev pub record_at_said : Result (Option RecordEntry) Refusal → RelayList → Said
record_at_said (Err why) l = refused_by why
record_at_said (Ok None) l = ok (0 ∷ [])
record_at_said (Ok (Some e)) l = ok (1 ∷ e.destination.0 ∷ relay_numbers l)
