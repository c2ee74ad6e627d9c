-- The numbers read, the call made, and its answer said.
use Rattle.decision_lines.specs.Lines.{clear_call}
use Rattle.decision_lines.proofs.clear_end_device_initiator_for_relay.Goals as goal

pub returns : goal.returns
unfolding clear_call
returns c = rw (c.clear_answer.ensures, c.clear_end_device_initiator_for_relay-said.ensures, c.header-header.ensures)
