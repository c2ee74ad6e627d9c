-- What a unicast does to the counters in a neighbour's counts word: one goes up and stops at 255, the others stay.
-- 05-3474, table 3-75.
-- Assumes nothing.
use Rattle.std.specs.Prelude.{ℕ, ◌+◌, min}
use Rattle.neighbor_columns.specs.declared.CountsPart.{CountsPart}
use Rattle.neighbor_changes.specs.declared.Change.{Change}
use Rattle.neighbor_changes.specs.declared.Change.TheVariants.{Outbound, Inbound, Failure}
use Rattle.neighbor_changes_lent.specs.declared.Counter.{Counter}
use Rattle.neighbor_changes_lent.specs.declared.Counter.TheVariants.{Sent, Received, Failed}

-- the change of a neighbour whose counter it is
abbrev pub change_of : Counter → Change
change_of Sent = Outbound
change_of Received = Inbound
change_of Failed = Failure

abbrev pub with_failures : ℕ → CountsPart → CountsPart
with_failures n p = record {
  transmit_failure = n;
  router_connectivity = p.router_connectivity;
  router_neighbor_set_diversity = p.router_neighbor_set_diversity;
  router_outbound_activity = p.router_outbound_activity;
  router_inbound_activity = p.router_inbound_activity;
  security_timer = p.security_timer;
  end_device_configuration = p.end_device_configuration;
}

abbrev pub with_activities : ℕ → ℕ → CountsPart → CountsPart
with_activities outbound inbound p = record {
  transmit_failure = p.transmit_failure;
  router_connectivity = p.router_connectivity;
  router_neighbor_set_diversity = p.router_neighbor_set_diversity;
  router_outbound_activity = outbound;
  router_inbound_activity = inbound;
  security_timer = p.security_timer;
  end_device_configuration = p.end_device_configuration;
}

-- one more on a counter
abbrev pub counted : Counter → CountsPart → CountsPart
counted Sent p = with_activities (min (p.router_outbound_activity + 1) 255) p.router_inbound_activity p
counted Received p = with_activities p.router_outbound_activity (min (p.router_inbound_activity + 1) 255) p
counted Failed p = with_failures (min (p.transmit_failure + 1) 255) p
