-- What a call is answered beside the next state, and where it is refused.
-- Document 01, "Refusal numbers": "All hand back the given state .. unchanged and no other answer".
-- Assumes nothing.
use Rattle.std.specs.Prelude.{List, [], Option, Result, Ok, Err, Bool}
use Rattle.types.specs.declared.Refusal.{Refusal}
use Rattle.neighbor_table.specs.declared.NeighborEntry.{NeighborEntry}
use Rattle.neighbor_queries.specs.declared.Child.{Child}
use Rattle.neighbor_queries.specs.Lists.{child_list}
use Rattle.neighbors.specs.declared.Neighbors.{Neighbors}
use Rattle.neighbors.specs.declared.Outcome.{Outcome}
use Rattle.neighbors.specs.State.{with_rows}
use Rattle.neighbor_calls.specs.declared.TruthOutcome.{TruthOutcome}
use Rattle.neighbor_calls.specs.declared.NwkOutcome.{NwkOutcome}
use Rattle.neighbor_calls.specs.declared.Removal.{Removal}
use Rattle.types.specs.declared.Nwk.{Nwk}

-- an answer, and the state with other neighbours
abbrev pub outcome : Neighbors → Result Unit Refusal → List NeighborEntry → Outcome
outcome s answer xs = record { answer = answer; state = with_rows s xs }

abbrev pub truth_outcome : Neighbors → Result Bool Refusal → List NeighborEntry → TruthOutcome
truth_outcome s answer xs = record { answer = answer; state = with_rows s xs }

abbrev pub nwk_outcome : Neighbors → Result (Option Nwk) Refusal → List NeighborEntry → NwkOutcome
nwk_outcome s answer xs = record { answer = answer; state = with_rows s xs }

abbrev pub removal : Neighbors → List Child → List NeighborEntry → Removal
removal s gone xs = record { answer = Ok tt; removed = child_list gone; state = with_rows s xs }

-- the state as it came
abbrev pub refused_truth : Neighbors → Refusal → TruthOutcome
refused_truth s r = record { answer = Err r; state = s }

abbrev pub refused_nwk : Neighbors → Refusal → NwkOutcome
refused_nwk s r = record { answer = Err r; state = s }

abbrev pub refused_removal : Neighbors → Refusal → Removal
refused_removal s r = record { answer = Err r; removed = child_list []; state = s }
