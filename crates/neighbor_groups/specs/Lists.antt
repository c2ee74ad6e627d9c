-- What each question about one entry, or with a list for an answer, is answered: the exported question on the numbers read, and its answer as numbers.
-- Assumes nothing.
use Rattle.std.specs.Prelude.{ℕ, cond, List, Option, Result, Ok, Err}
use Rattle.types.specs.declared.Eui64.{Eui64}
use Rattle.types.specs.declared.Refusal.{Refusal}
use Rattle.types.specs.declared.Refusal.TheVariants.{StateIllFormed}
use Rattle.numbers.specs.Said.{Said}
use Rattle.numbers.specs.Read.{eui64_at}
use Rattle.standard.specs.Ordered.{lookup}
use Rattle.neighbor_table.specs.declared.NeighborEntry.{NeighborEntry}
use Rattle.neighbor_table.specs.Entry.{neighbor_key}
use Rattle.neighbors.specs.declared.Neighbors.{Neighbors}
use Rattle.neighbors.specs.State.{well_formed, rows}
use Rattle.neighbors.specs.Queries as queries
use Rattle.neighbor_answers.specs.Answers.{quality_said, cost_said, is_child_said, children_said, eui64s_said, nwks_said, statuses_said}

-- the neighbour of an extended address, for the questions that are asked of an entry
unfoldable pub entry_of : Neighbors → Eui64 → Result (Option NeighborEntry) Refusal
entry_of s eui64 = cond (well_formed s) (Ok (lookup neighbor_key eui64.0 (rows s))) (Err StateIllFormed)

unfoldable pub lqa_call : Neighbors → List ℕ → Said
lqa_call s args = quality_said (entry_of s (eui64_at args 0))

unfoldable pub incoming_link_cost_call : Neighbors → List ℕ → Said
incoming_link_cost_call s args = cost_said (entry_of s (eui64_at args 0))

unfoldable pub is_child_call : Neighbors → List ℕ → Said
is_child_call s args = is_child_said (entry_of s (eui64_at args 0))

unfoldable pub sleepy_children_call : Neighbors → List ℕ → Said
sleepy_children_call s args = children_said (queries.sleepy_children s)

unfoldable pub end_device_children_call : Neighbors → List ℕ → Said
end_device_children_call s args = eui64s_said (queries.end_device_children s)

unfoldable pub expected_broadcast_relayers_call : Neighbors → List ℕ → Said
expected_broadcast_relayers_call s args = nwks_said (queries.expected_broadcast_relayers s)

unfoldable pub link_status_entries_call : Neighbors → List ℕ → Said
link_status_entries_call s args = statuses_said (queries.link_status_entries s)
