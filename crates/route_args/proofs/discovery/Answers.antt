-- Each field is read from its own place.
use Rattle.route_args.specs.Read.{discovery_at}
use Rattle.route_args.proofs.discovery.Goals as goal

pub returns : goal.returns
unfolding discovery_at
returns c = λ z. record { route_request_id = c.byte-route_request_id.ensures z; source_address = c.nwk-source_address.ensures z; sender_address = c.nwk-sender_address.ensures z; forward_cost = c.byte-forward_cost.ensures z; residual_cost = c.byte-residual_cost.ensures z; expiration_time = c.at-expiration_time.ensures z; destination_address = c.nwk-destination_address.ensures z }
