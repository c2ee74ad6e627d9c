-- What each decision answers: the exported call on the numbers read, and its answer as numbers.
-- Assumes nothing.
use Rattle.std.specs.Prelude.{ℕ, cond, List, eqb}
use Rattle.numbers.specs.Said.{Said, bad}
use Rattle.routing.specs.declared.Routing.{Routing}
use Rattle.neighbors.specs.declared.Neighbors.{Neighbors}
use Rattle.decision_lines.specs.Header.{header_at}
use Rattle.relay_header.specs.Relayed.{cleared}
use Rattle.next_hop.specs.Decision as decision
use Rattle.next_hop.specs.Numbers.{resolve_said, clear_said}
use Rattle.decision_lines.specs.Arguments.{mode_at, past_mode, policy_of}

-- HEADER
unfoldable pub clear_call : Neighbors → List ℕ → Said
clear_call s args = clear_said (cleared s (header_at args 0))

-- CONC FORCE MAX MODE HEADER
unfoldable pub resolve_call : Routing → Neighbors → List ℕ → List ℕ → Said
resolve_call r s args store =
    resolve_said (decision.resolve r s (header_at args (past_mode args 3)) (mode_at args 3) (policy_of args) store)

-- MODE HEADER
unfoldable pub resolve_default_call : Routing → Neighbors → List ℕ → List ℕ → Said
resolve_default_call r s args store =
    resolve_said (decision.resolve_default r s (header_at args (past_mode args 0)) (mode_at args 0) store)

-- the decisions by their numbers
unfoldable pub decide_by : Routing → Neighbors → ℕ → List ℕ → List ℕ → Said
decide_by r s n args store =
    cond (eqb n 68) (clear_call s args)
    (cond (eqb n 69) (resolve_call r s args store)
    (cond (eqb n 70) (resolve_default_call r s args store)
    bad))
