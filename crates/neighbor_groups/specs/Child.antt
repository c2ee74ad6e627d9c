-- What each call about children, and a link status, answers and leaves: the exported call on the numbers read, and its answer as numbers.
-- Assumes nothing.
use Rattle.std.specs.Prelude.{ℕ, List}
use Rattle.numbers.specs.Read.{number_at, byte_at, short_at, nwk_at, eui64_at}
use Rattle.neighbors.specs.declared.Neighbors.{Neighbors}
use Rattle.neighbor_loads.specs.declared.NeighborsReply.{NeighborsReply}
use Rattle.neighbor_loads.specs.Loads.{replied}
use Rattle.neighbor_calls.specs.declared.TruthOutcome.{TruthOutcome}
use Rattle.neighbor_calls.specs.declared.NwkOutcome.{NwkOutcome}
use Rattle.neighbor_calls.specs.declared.Removal.{Removal}
use Rattle.neighbor_calls.specs.Children as children
use Rattle.neighbor_calls.specs.declared.Announced.{Announced}
use Rattle.neighbor_calls.specs.Announcements as announcements
use Rattle.neighbor_calls.specs.LinkStatus.{on_link_status}
use Rattle.neighbor_answers.specs.Answers.{truth_said, nwk_said, removed_said, announced_said}
use Rattle.child_arguments.specs.declared.Poll.{Poll}
use Rattle.child_arguments.specs.Arguments.{poll_of, child_of, names_of, command_of}
use Rattle.neighbor_groups.specs.Events.{changed}

-- what is answered, and the state after it
abbrev pub truth_reply : TruthOutcome → NeighborsReply
truth_reply o = replied o.state (truth_said o.answer)

abbrev pub nwk_reply : NwkOutcome → NeighborsReply
nwk_reply o = replied o.state (nwk_said o.answer)

abbrev pub removal_reply : Removal → NeighborsReply
removal_reply o = replied o.state (removed_said o.answer o.removed)

abbrev pub announced_reply : Announced → NeighborsReply
announced_reply o = replied o.state (announced_said o.answer o.claimed o.removed)

abbrev pub polled : Neighbors → Poll → TruthOutcome
polled s p = children.refresh_child_timeout s p.eui64 p.nwk p.now

unfoldable pub refresh_child_timeout_call : Neighbors → List ℕ → NeighborsReply
refresh_child_timeout_call s args = truth_reply (polled s (poll_of args))

unfoldable pub set_child_timeout_call : Neighbors → List ℕ → NeighborsReply
set_child_timeout_call s args = truth_reply (children.set_child_timeout s (nwk_at args 0) (number_at args 1) (short_at args 2) (number_at args 3))

unfoldable pub take_child_call : Neighbors → List ℕ → NeighborsReply
take_child_call s args = nwk_reply (children.take_child s (eui64_at args 0))

unfoldable pub remove_claimed_children_call : Neighbors → List ℕ → NeighborsReply
remove_claimed_children_call s args = removal_reply (announcements.remove_claimed_children s (names_of args))

unfoldable pub process_parent_annce_call : Neighbors → List ℕ → NeighborsReply
process_parent_annce_call s args = announced_reply (announcements.process_parent_annce s (names_of args))

unfoldable pub evict_timed_out_children_call : Neighbors → List ℕ → NeighborsReply
evict_timed_out_children_call s args = removal_reply (children.evict_timed_out_children s (number_at args 0))

unfoldable pub upsert_child_call : Neighbors → List ℕ → NeighborsReply
upsert_child_call s args = changed (children.upsert_child s (child_of args) (number_at args 6))

-- OWN EUI NWK Q FIRST LAST NOW, then the statuses
unfoldable pub on_link_status_call : Neighbors → List ℕ → NeighborsReply
on_link_status_call s args = nwk_reply (on_link_status s (nwk_at args 0) (eui64_at args 1) (nwk_at args 2) (byte_at args 3) (command_of args) (number_at args 6))
