-- What a sample of link quality leaves of both tables: the rule on their rows, for a well-formed state; refusal 10 for any other.
-- Document 01, "Refusal numbers": "The waiting samples never refuse: a 65th sender pushes out the lowest address, not the oldest."
-- Assumes nothing.
use Rattle.std.specs.Prelude.{ℕ, cond, Ok}
use Rattle.types.specs.declared.Nwk.{Nwk}
use Rattle.types.specs.declared.Refusal.TheVariants.{StateIllFormed}
use Rattle.link_quality.specs.Rules.{record_sample, record_waiting}
use Rattle.neighbors.specs.declared.Neighbors.{Neighbors}
use Rattle.neighbors.specs.declared.Outcome.{Outcome}
use Rattle.neighbors.specs.State.{well_formed, rows, waits, state_of}
use Rattle.neighbors.specs.Changes.{refused}

-- to the first neighbour with the sender's address, or else to wait
unfoldable pub record_lqa : Neighbors → Nwk → ℕ → Outcome
record_lqa s nwk lqi =
    cond (well_formed s)
    (record { answer = Ok tt; state = state_of (record_sample nwk lqi (rows s)) (record_waiting nwk lqi (rows s) (waits s)) })
    (refused s StateIllFormed)
