-- What each call about children answers and leaves: the rule on the rows, for a well-formed state; refusal 10 for any other. Where the rule
-- refuses (5, then 4) it leaves the rows, and with them a well-formed state (`rows-kept`).
-- Document 01, "Refusal numbers". 05-3474, sections 3.6.10.1, 3.6.10.2 and 3.6.10.4.
-- Assumes nothing.
use Rattle.std.specs.Prelude.{ℕ, cond, map, Option}
use Rattle.types.specs.declared.Nwk.{Nwk}
use Rattle.types.specs.declared.Eui64.{Eui64}
use Rattle.types.specs.declared.Refusal.TheVariants.{StateIllFormed}
use Rattle.types.specs.Clock.{time_sum}
use Rattle.standard.specs.Ordered.{lookup, keep}
use Rattle.standard.specs.Query.{first}
use Rattle.neighbor_table.specs.Entry.{neighbor_key}
use Rattle.neighbor_queries.specs.declared.Filter.TheVariants.{EndDeviceChildAt, TimedOut}
use Rattle.neighbor_queries.specs.Filter.{fits}
use Rattle.neighbor_queries.specs.Lists.{child_of}
use Rattle.neighbor_changes.specs.Change.{misses}
use Rattle.children.specs.declared.ChildDescriptor.{ChildDescriptor}
use Rattle.children.specs.Known.{known}
use Rattle.children_lent.specs.Rules as deadlines
use Rattle.children_moves_lent.specs.Rules as moves
use Rattle.neighbors.specs.declared.Neighbors.{Neighbors}
use Rattle.neighbors.specs.declared.Outcome.{Outcome}
use Rattle.neighbors.specs.State.{well_formed, rows}
use Rattle.neighbors.specs.Changes.{refused}
use Rattle.neighbor_calls.specs.declared.TruthOutcome.{TruthOutcome}
use Rattle.neighbor_calls.specs.declared.NwkOutcome.{NwkOutcome}
use Rattle.neighbor_calls.specs.declared.Removal.{Removal}
use Rattle.neighbor_calls.specs.Outcomes.{outcome, truth_outcome, nwk_outcome, removal, refused_truth, refused_nwk, refused_removal}

-- a data poll of a known device moves its deadline
unfoldable pub refresh_child_timeout : Neighbors → Option Eui64 → Option Nwk → ℕ → TruthOutcome
refresh_child_timeout s eui64 nwk now =
    cond (well_formed s)
    (truth_outcome s (deadlines.refresh_answer now (known eui64 nwk (rows s))) (deadlines.refresh_child_timeout eui64 nwk now (rows s)))
    (refused_truth s StateIllFormed)

-- an end device child asks for another period
unfoldable pub set_child_timeout : Neighbors → Nwk → ℕ → ℕ → ℕ → TruthOutcome
set_child_timeout s nwk timeout configuration now =
    cond (well_formed s)
    (truth_outcome s (deadlines.set_answer (time_sum now timeout) (first (fits (EndDeviceChildAt nwk)) (rows s))) (deadlines.set_child_timeout nwk timeout configuration now (rows s)))
    (refused_truth s StateIllFormed)

-- any child, of any device type, is taken out
unfoldable pub take_child : Neighbors → Eui64 → NwkOutcome
take_child s eui64 =
    cond (well_formed s)
    (nwk_outcome s (moves.take_answer (lookup neighbor_key eui64.0 (rows s))) (moves.take_child eui64 (rows s)))
    (refused_nwk s StateIllFormed)

-- end device children whose deadline is at or before now are removed
unfoldable pub evict_timed_out_children : Neighbors → ℕ → Removal
evict_timed_out_children s now =
    cond (well_formed s)
    (removal s (map child_of (keep (fits (TimedOut now)) (rows s))) (keep (misses (TimedOut now)) (rows s)))
    (refused_removal s StateIllFormed)

-- a child joins or rejoins
unfoldable pub upsert_child : Neighbors → ChildDescriptor → ℕ → Outcome
upsert_child s child now =
    cond (well_formed s)
    (outcome s (moves.upsert_answer child (time_sum now child.device_timeout) (rows s)) (moves.upsert_child child now (rows s)))
    (refused s StateIllFormed)
