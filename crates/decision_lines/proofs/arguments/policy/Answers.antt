-- Each value is read at its place.
use Rattle.decision_lines.proofs.arguments.policy.Goals as goal

pub returns : goal.returns
returns c = λ z. record { is_concentrator = c.flag-is_concentrator.ensures z; force_route_discovery = c.flag-force_route_discovery.ensures z; max_source_route = c.byte-max_source_route.ensures z }
