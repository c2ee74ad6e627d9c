-- What each call about deadlines answers and leaves, as rules on the rows: those of `children` without the state around them.
-- Document 01, "Refusal numbers": 5; "All hand back the given state .. unchanged". 05-3474, sections 3.6.10.2 and 3.6.10.4.
-- Assumes nothing.
use Rattle.std.specs.Prelude.{ℕ, true, false, List, Option, Some, None, Result, Ok, Err, Bool}
use Rattle.types.specs.declared.Nwk.{Nwk}
use Rattle.types.specs.declared.Refusal.TheVariants.{TimePastEnd}
use Rattle.types.specs.Clock.{time_sum}
use Rattle.standard.specs.Ordered.{put}
use Rattle.neighbor_table.specs.declared.NeighborEntry.{NeighborEntry}
use Rattle.neighbor_table.specs.Entry.{neighbor_key}
use Rattle.neighbor_queries.specs.declared.Filter.TheVariants.{EndDeviceChildAt}
use Rattle.neighbor_changes.specs.declared.Change.TheVariants.{Keepalive, Timeout}
use Rattle.neighbor_changes.specs.Change.{applied}
use Rattle.neighbor_changes.specs.Rules.{changed_first}
use Rattle.children.specs.Known.{known}
use Rattle.types.specs.declared.Eui64.{Eui64}
use Rattle.types.specs.declared.Refusal.{Refusal}

-- yes for a deadline that the clock has, refusal 5 for one past its end
abbrev pub timed : Option ℕ → Result Bool Refusal
timed (Some t) = Ok true
timed None = Err TimePastEnd

-- a data poll of a known device moves its deadline by its own period
abbrev pub refresh_answer : ℕ → Option NeighborEntry → Result Bool Refusal
refresh_answer now None = Ok false
refresh_answer now (Some e) = timed (time_sum now e.device_timeout)

abbrev pub kept_by : NeighborEntry → Option ℕ → List NeighborEntry → List NeighborEntry
kept_by e (Some t) xs = put neighbor_key (applied (Keepalive t) e) xs
kept_by e None xs = xs

abbrev pub refreshed : ℕ → Option NeighborEntry → List NeighborEntry → List NeighborEntry
refreshed now None xs = xs
refreshed now (Some e) xs = kept_by e (time_sum now e.device_timeout) xs

abbrev pub refresh_child_timeout : Option Eui64 → Option Nwk → ℕ → List NeighborEntry → List NeighborEntry
refresh_child_timeout eui64 nwk now xs = refreshed now (known eui64 nwk xs) xs

-- an end device child asks for another period
abbrev pub set_answer : Option ℕ → Option NeighborEntry → Result Bool Refusal
set_answer sum None = Ok false
set_answer sum (Some e) = timed sum

abbrev pub retimed : Nwk → ℕ → ℕ → Option ℕ → List NeighborEntry → List NeighborEntry
retimed nwk timeout configuration (Some t) xs = changed_first (Timeout timeout configuration t) (EndDeviceChildAt nwk) xs
retimed nwk timeout configuration None xs = xs

abbrev pub set_child_timeout : Nwk → ℕ → ℕ → ℕ → List NeighborEntry → List NeighborEntry
set_child_timeout nwk timeout configuration now xs = retimed nwk timeout configuration (time_sum now timeout) xs
