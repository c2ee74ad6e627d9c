-- The numbers of what is asked of routes and discoveries.
-- Document 01, "How each place should look": "a definition gives this paper's number and values for each of its cases".
-- Assumes nothing.
use Rattle.std.specs.Prelude.{ℕ, Option, Some, None, Result, Ok, Err}
use Rattle.types.specs.Refusal.{refusal_number}
use Rattle.standard.specs.Numbers.{status_number}
use Rattle.route_calls.specs.declared.Checked.{Checked}
use Rattle.route_calls.specs.declared.Checked.TheVariants as checked
use Rattle.door.specs.Lent.{Reading}
use Rattle.door_queries.specs.declared.HopPlaces.{HopPlaces}
use Rattle.door_queries.specs.declared.StatusPlaces.{StatusPlaces}
use Rattle.door_queries.specs.declared.DeadlinePlaces.{DeadlinePlaces}
use Rattle.door_queries.specs.declared.CheckPlaces.{CheckPlaces}
use Rattle.types.specs.declared.Nwk.{Nwk}
use Rattle.types.specs.declared.Refusal.{Refusal}
use Rattle.standard.specs.declared.Status.{Status}

-- whether there is a hop, and the hop
abbrev pub hop_at : ℕ → ℕ → HopPlaces
hop_at found hop = record { found = found; next_hop = hop }

abbrev pub hop_status : Result (Option Nwk) Refusal → ℕ
hop_status (Err why) = refusal_number why
hop_status (Ok None) = 0
hop_status (Ok (Some n)) = 0

abbrev pub hop_places : Result (Option Nwk) Refusal → HopPlaces → HopPlaces
hop_places (Err why) old = old
hop_places (Ok None) old = hop_at 0 0
hop_places (Ok (Some n)) old = hop_at 1 n.0

abbrev pub hop_numbers : Reading (Result (Option Nwk) Refusal) HopPlaces
hop_numbers = record { status = hop_status; places = hop_places }

-- whether there is a route, and its status
abbrev pub status_at : ℕ → ℕ → StatusPlaces
status_at found n = record { found = found; status = n }

abbrev pub status_places : Option Status → StatusPlaces
status_places None = status_at 0 0
status_places (Some s) = status_at 1 (status_number s)

abbrev pub status_said : Result (Option Status) Refusal → ℕ
status_said (Err why) = refusal_number why
status_said (Ok x) = 0

abbrev pub status_held : Result (Option Status) Refusal → StatusPlaces → StatusPlaces
status_held (Err why) old = old
status_held (Ok x) old = status_places x

abbrev pub status_numbers : Reading (Result (Option Status) Refusal) StatusPlaces
status_numbers = record { status = status_said; places = status_held }

-- whether there is a discovery, and when it is over
abbrev pub deadline_at : ℕ → ℕ → DeadlinePlaces
deadline_at found time = record { found = found; time = time }

abbrev pub deadline_places : Option ℕ → DeadlinePlaces
deadline_places None = deadline_at 0 0
deadline_places (Some time) = deadline_at 1 time

abbrev pub deadline_said : Result (Option ℕ) Refusal → ℕ
deadline_said (Err why) = refusal_number why
deadline_said (Ok x) = 0

abbrev pub deadline_held : Result (Option ℕ) Refusal → DeadlinePlaces → DeadlinePlaces
deadline_held (Err why) old = old
deadline_held (Ok x) old = deadline_places x

abbrev pub deadline_numbers : Reading (Result (Option ℕ) Refusal) DeadlinePlaces
deadline_numbers = record { status = deadline_said; places = deadline_held }

-- how many there are
abbrev pub count_said : Result ℕ Refusal → ℕ
count_said (Err why) = refusal_number why
count_said (Ok n) = 0

abbrev pub count_held : Result ℕ Refusal → ℕ → ℕ
count_held (Err why) old = old
count_held (Ok n) old = n

abbrev pub count_numbers : Reading (Result ℕ Refusal) ℕ
count_numbers = record { status = count_said; places = count_held }

-- sound 0; an Active route with hop 0xFFFF 1 and its destination; an orphan 2 and its destination
abbrev pub check_at : ℕ → ℕ → CheckPlaces
check_at fault destination = record { fault = fault; destination = destination }

abbrev pub check_places : Checked → CheckPlaces
check_places checked.Sound = check_at 0 0
check_places (checked.UnknownHop d) = check_at 1 d.0
check_places (checked.Orphan d) = check_at 2 d.0

abbrev pub check_said : Result Checked Refusal → ℕ
check_said (Err why) = refusal_number why
check_said (Ok x) = 0

abbrev pub check_held : Result Checked Refusal → CheckPlaces → CheckPlaces
check_held (Err why) old = old
check_held (Ok x) old = check_places x

abbrev pub check_numbers : Reading (Result Checked Refusal) CheckPlaces
check_numbers = record { status = check_said; places = check_held }
