-- What a link status command answers and leaves of both tables: the rule on their rows, for a well-formed state; refusal 10 for any other.
-- Document 01, "Decision (001) and neighbours (003)", third paragraph; "Refusal numbers": 10, 8, 11, 5, 4. 05-3474, section 3.6.4.4.2.
-- Assumes nothing.
use Rattle.std.specs.Prelude.{ℕ, cond}
use Rattle.types.specs.declared.Nwk.{Nwk}
use Rattle.types.specs.declared.Eui64.{Eui64}
use Rattle.types.specs.declared.Refusal.TheVariants.{StateIllFormed}
use Rattle.link_status.specs.declared.LinkStatusCommand.{LinkStatusCommand}
use Rattle.link_status_lent.specs.Columns.{RowsLeft, on_link_status_rows}
use Rattle.neighbors.specs.declared.Neighbors.{Neighbors}
use Rattle.neighbors.specs.State.{well_formed, rows, waits, state_of}
use Rattle.neighbor_calls.specs.declared.NwkOutcome.{NwkOutcome}
use Rattle.neighbor_calls.specs.Outcomes.{refused_nwk}

abbrev pub left_by : RowsLeft → NwkOutcome
left_by x = record { answer = x.answer; state = state_of x.neighbors x.waiting }

unfoldable pub on_link_status : Neighbors → Nwk → Eui64 → Nwk → ℕ → LinkStatusCommand → ℕ → NwkOutcome
on_link_status s own name nwk lqi command now =
    cond (well_formed s) (left_by (on_link_status_rows (rows s) (waits s) own name nwk lqi command now)) (refused_nwk s StateIllFormed)
