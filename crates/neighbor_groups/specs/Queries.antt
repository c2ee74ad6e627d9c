-- What each question with a short answer is answered: the exported question on the numbers read, and its answer as numbers.
-- Assumes nothing.
use Rattle.std.specs.Prelude.{ℕ, List, [], ◌∷◌}
use Rattle.numbers.specs.Said.{Said, ok}
use Rattle.numbers.specs.Read.{number_at, byte_at, nwk_at, eui64_at}
use Rattle.standard.specs.LinkCost.{link_cost}
use Rattle.neighbors.specs.declared.Neighbors.{Neighbors}
use Rattle.neighbors.specs.Queries as queries
use Rattle.neighbor_answers.specs.Answers.{truth_said, count_said, eui64_said, link_said, capability_said, moment_said, entry_said}

-- the cost of a link of a quality; no state is asked
unfoldable pub lqi_to_link_cost_call : Neighbors → List ℕ → Said
lqi_to_link_cost_call s args = ok (link_cost (byte_at args 0) ∷ [])

unfoldable pub link_call : Neighbors → List ℕ → Said
link_call s args = link_said (queries.link s (nwk_at args 0))

unfoldable pub neighbour_count_call : Neighbors → List ℕ → Said
neighbour_count_call s args = count_said (queries.count s)

unfoldable pub neighbour_at_call : Neighbors → List ℕ → Said
neighbour_at_call s args = entry_said (queries.entry_at s (number_at args 0))

unfoldable pub has_network_address_call : Neighbors → List ℕ → Said
has_network_address_call s args = truth_said (queries.has_network_address s (nwk_at args 0))

unfoldable pub end_device_child_eui64_call : Neighbors → List ℕ → Said
end_device_child_eui64_call s args = eui64_said (queries.end_device_child_eui64 s (nwk_at args 0))

unfoldable pub sleepy_child_eui64_call : Neighbors → List ℕ → Said
sleepy_child_eui64_call s args = eui64_said (queries.sleepy_child_eui64 s (nwk_at args 0))

unfoldable pub contains_call : Neighbors → List ℕ → Said
contains_call s args = truth_said (queries.contains s (eui64_at args 0))

unfoldable pub device_capability_call : Neighbors → List ℕ → Said
device_capability_call s args = capability_said (queries.device_capability s (eui64_at args 0))

unfoldable pub end_device_child_count_call : Neighbors → List ℕ → Said
end_device_child_count_call s args = count_said (queries.end_device_child_count s)

unfoldable pub is_unconfirmed_end_device_child_call : Neighbors → List ℕ → Said
is_unconfirmed_end_device_child_call s args = truth_said (queries.is_unconfirmed_end_device_child s (eui64_at args 0))

unfoldable pub next_child_timeout_call : Neighbors → List ℕ → Said
next_child_timeout_call s args = moment_said (queries.next_child_timeout s)

unfoldable pub any_live_router_link_call : Neighbors → List ℕ → Said
any_live_router_link_call s args = truth_said (queries.any_live_router_link s)
