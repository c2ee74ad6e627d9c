-- Each field is read from its own place.
use mathlib.Core.Path.{ap, ◌∙◌}
use Rattle.route_args.specs.Read.{status_of, route_at}
use Rattle.route_args.proofs.route.Goals as goal

pub returns : goal.returns
unfolding route_at
returns c = λ z. record { destination = c.nwk-destination.ensures z; status = (c.status-status.ensures ∙ ap status_of c.at.ensures) z; no_route_cache = c.flag-no_route_cache.ensures z; many_to_one = c.flag-many_to_one.ensures z; route_record_required = c.flag-route_record_required.ensures z; expired = c.flag-expired.ensures z; next_hop_address = c.nwk-next_hop_address.ensures z; path_cost = c.byte-path_cost.ensures z; total_usage_count = c.counter-total_usage_count.ensures z; recent_activity = c.byte-recent_activity.ensures z }
