-- What each change of the neighbours leaves: the exported call on the numbers read.
-- Assumes nothing.
use Rattle.std.specs.Prelude.{ℕ, List}
use Rattle.numbers.specs.Read.{byte_at, nwk_at, eui64_at}
use Rattle.neighbor_loads.specs.declared.NeighborsReply.{NeighborsReply}
use Rattle.neighbor_loads.specs.Loads.{replied}
use Rattle.neighbors.specs.declared.Neighbors.{Neighbors}
use Rattle.neighbors.specs.declared.Outcome.{Outcome}
use Rattle.neighbors.specs.Changes as changes
use Rattle.neighbor_calls.specs.Samples.{record_lqa}
use Rattle.neighbor_answers.specs.Answers.{done_said}

-- a call that changes the neighbours and answers nothing more
abbrev pub changed : Outcome → NeighborsReply
changed o = replied o.state (done_said o.answer)

unfoldable pub record_lqa_call : Neighbors → List ℕ → NeighborsReply
record_lqa_call s args = changed (record_lqa s (nwk_at args 0) (byte_at args 1))

unfoldable pub update_network_address_call : Neighbors → List ℕ → NeighborsReply
update_network_address_call s args = changed (changes.update_network_address s (eui64_at args 0) (nwk_at args 1))

unfoldable pub remove_call : Neighbors → List ℕ → NeighborsReply
remove_call s args = changed (changes.remove s (eui64_at args 0))

unfoldable pub record_outbound_activity_call : Neighbors → List ℕ → NeighborsReply
record_outbound_activity_call s args = changed (changes.record_outbound_activity s (eui64_at args 0))

unfoldable pub record_inbound_activity_call : Neighbors → List ℕ → NeighborsReply
record_inbound_activity_call s args = changed (changes.record_inbound_activity s (nwk_at args 0))

unfoldable pub record_transmit_failure_call : Neighbors → List ℕ → NeighborsReply
record_transmit_failure_call s args = changed (changes.record_transmit_failure s (eui64_at args 0))

unfoldable pub reset_transmit_failures_call : Neighbors → List ℕ → NeighborsReply
reset_transmit_failures_call s args = changed (changes.reset_transmit_failures s)
