-- The calls that ask the routing state, each by its definition on what the numbers give.
-- Assumes nothing.
use Rattle.std.specs.Prelude.{ℕ, List}
use Rattle.numbers.specs.Said.{Said}
use Rattle.numbers.specs.Read.{number_at, nwk_at}
use Rattle.routing.specs.declared.Routing.{Routing}
use Rattle.routing.specs.Queries.{check_tables, route_status, route_count, route_at, next_hop_of, discovery_deadline, discovery_count, discovery_at}
use Rattle.routing.specs.Records.{record_count}
use Rattle.route_answers.specs.Answers.{check_said, status_said, count_said, route_at_said, hop_said, deadline_said, discovery_at_said}

-- The table check.
unfoldable pub check_call : Routing → Said
check_call s = check_said (check_tables s)

-- How the route to a destination stands.
unfoldable pub route_status_call : Routing → List ℕ → Said
route_status_call s args = status_said (route_status s (nwk_at args 0))

-- How many routes there are.
unfoldable pub route_count_call : Routing → Said
route_count_call s = count_said (route_count s)

-- The route at a place.
unfoldable pub route_at_call : Routing → List ℕ → Said
route_at_call s args = route_at_said (route_at s (number_at args 0))

-- The next hop to a destination.
unfoldable pub next_hop_call : Routing → List ℕ → Said
next_hop_call s args = hop_said (next_hop_of s (nwk_at args 0))

-- When the first live discovery of the way to a destination is over.
unfoldable pub discovery_deadline_call : Routing → List ℕ → Said
discovery_deadline_call s args = deadline_said (discovery_deadline s (nwk_at args 0) (number_at args 1))

-- How many discoveries there are.
unfoldable pub discovery_count_call : Routing → Said
discovery_count_call s = count_said (discovery_count s)

-- The discovery at a place.
unfoldable pub discovery_at_call : Routing → List ℕ → Said
discovery_at_call s args = discovery_at_said (discovery_at s (number_at args 0))

-- How many route records there are.
unfoldable pub record_count_call : Routing → Said
record_count_call s = count_said (record_count s)
