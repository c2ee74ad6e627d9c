-- Each field is read from its place.
use mathlib.Core.Path.{ap, ◌∙◌}
use native.Mathlib.Omega.{arith}
use Rattle.neighbor_values.specs.Kinds.{device_type_of, relationship_of}
use Rattle.neighbor_values.specs.Reading.{neighbor_at}
use Rattle.neighbor_values.proofs.neighbor_at.Goals as goal

pub overflow_add-i : goal.overflow_add-i
overflow_add-i c = omega (arith, c.requires)

pub overflow_add-i-2 : goal.overflow_add-i-2
overflow_add-i-2 c = omega (arith, c.requires)

pub overflow_add-i-3 : goal.overflow_add-i-3
overflow_add-i-3 c = omega (arith, c.requires)

pub overflow_add-i-4 : goal.overflow_add-i-4
overflow_add-i-4 c = omega (arith, c.requires)

pub overflow_add-i-5 : goal.overflow_add-i-5
overflow_add-i-5 c = omega (arith, c.requires)

pub overflow_add-i-6 : goal.overflow_add-i-6
overflow_add-i-6 c = omega (arith, c.requires)

pub overflow_add-i-7 : goal.overflow_add-i-7
overflow_add-i-7 c = omega (arith, c.requires)

pub overflow_add-i-8 : goal.overflow_add-i-8
overflow_add-i-8 c = omega (arith, c.requires)

pub overflow_add-i-9 : goal.overflow_add-i-9
overflow_add-i-9 c = omega (arith, c.requires)

pub overflow_add-i-10 : goal.overflow_add-i-10
overflow_add-i-10 c = omega (arith, c.requires)

pub overflow_add-i-11 : goal.overflow_add-i-11
overflow_add-i-11 c = omega (arith, c.requires)

pub overflow_add-i-12 : goal.overflow_add-i-12
overflow_add-i-12 c = omega (arith, c.requires)

pub overflow_add-i-13 : goal.overflow_add-i-13
overflow_add-i-13 c = omega (arith, c.requires)

pub overflow_add-i-14 : goal.overflow_add-i-14
overflow_add-i-14 c = omega (arith, c.requires)

pub overflow_add-i-15 : goal.overflow_add-i-15
overflow_add-i-15 c = omega (arith, c.requires)

pub overflow_add-i-16 : goal.overflow_add-i-16
overflow_add-i-16 c = omega (arith, c.requires)

pub overflow_add-i-17 : goal.overflow_add-i-17
overflow_add-i-17 c = omega (arith, c.requires)

pub overflow_add-i-18 : goal.overflow_add-i-18
overflow_add-i-18 c = omega (arith, c.requires)

pub overflow_add-i-19 : goal.overflow_add-i-19
overflow_add-i-19 c = omega (arith, c.requires)

pub overflow_add-i-20 : goal.overflow_add-i-20
overflow_add-i-20 c = omega (arith, c.requires)

pub overflow_add-i-21 : goal.overflow_add-i-21
overflow_add-i-21 c = omega (arith, c.requires)

pub overflow_add-i-22 : goal.overflow_add-i-22
overflow_add-i-22 c = omega (arith, c.requires)

pub returns : goal.returns
unfolding neighbor_at
returns c = λ z. record { extended_address = c.eui64.ensures z; network_address = c.nwk.ensures z; device_type = (c.device_type.ensures ∙ ap device_type_of c.at.ensures) z; rx_on_when_idle = c.flag.ensures z; end_device_configuration = c.short.ensures z; timeout_at = c.at-2.ensures z; device_timeout = c.at-3.ensures z; relationship = (c.relationship.ensures ∙ ap relationship_of c.at-4.ensures) z; transmit_failure = c.byte.ensures z; lqas = c.samples_at.ensures z; outgoing_cost = c.byte-2.ensures z; last_link_status_timestamp = c.at-5.ensures z; incoming_beacon_timestamp = c.counter.ensures z; beacon_transmission_time_offset = c.counter-2.ensures z; keepalive_received = c.flag-2.ensures z; mac_unicast_bytes_transmitted = c.counter-3.ensures z; mac_unicast_bytes_received = c.counter-4.ensures z; router_added_timestamp = c.at-6.ensures z; router_connectivity = c.byte-3.ensures z; router_neighbor_set_diversity = c.byte-4.ensures z; router_outbound_activity = c.byte-5.ensures z; router_inbound_activity = c.byte-6.ensures z; security_timer = c.byte-7.ensures z }
