-- Each field by its number, and what the entry says of itself.
use mathlib.Core.Path.{ap, ◌∙◌}
use lib.ListN.{get_or}
use Rattle.numbers.specs.Said.{flag_number}
use Rattle.door_neighbor_rows.specs.Rows.{neighbor_at_places, quality_places}
use Rattle.door_neighbor_rows.proofs.entry_places.Goals as goal

pub returns : goal.returns
returns c =
    let e = c.args.e in
    let quality = c.quality_places-quality.ensures ∙ ap quality_places c.lqa.ensures in
    λ z. neighbor_at_places 1 e.extended_address.0 e.network_address.0 (c.number.ensures z) (c.flag.ensures z) e.end_device_configuration e.timeout_at e.device_timeout (c.number-2.ensures z) e.transmit_failure e.lqas.len e.lqas.next (get_or e.lqas.values 0 0) (get_or e.lqas.values 1 0) (get_or e.lqas.values 2 0) e.outgoing_cost e.last_link_status_timestamp e.incoming_beacon_timestamp e.beacon_transmission_time_offset (c.flag-2.ensures z) e.mac_unicast_bytes_transmitted e.mac_unicast_bytes_received e.router_added_timestamp e.router_connectivity e.router_neighbor_set_diversity e.router_outbound_activity e.router_inbound_activity e.security_timer (quality z).known (quality z).lqa (c.incoming_link_cost.ensures z) ((c.flag-3.ensures ∙ ap flag_number c.is_child.ensures) z)
