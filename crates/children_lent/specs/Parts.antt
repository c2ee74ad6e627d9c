-- The parts of a neighbour after a keepalive, and after another configuration.
-- 05-3474, section 3.6.10.
-- Assumes nothing.
use Rattle.std.specs.Prelude.{ℕ, Bool, true, ◌&&◌, eqb}
use Rattle.types.specs.declared.Nwk.{Nwk}
use Rattle.neighbor_table.specs.Entry.{is_child_of, is_end_device}
use Rattle.neighbor_columns.specs.Codec.{link_of}
use Rattle.neighbor_columns.specs.declared.LinkPart.{LinkPart}
use Rattle.neighbor_columns.specs.declared.CountsPart.{CountsPart}

abbrev pub kept_link : LinkPart → LinkPart
kept_link p = record {
  lqas = p.lqas;
  outgoing_cost = p.outgoing_cost;
  device_type = p.device_type;
  relationship = p.relationship;
  rx_on_when_idle = p.rx_on_when_idle;
  keepalive_received = true;
}

abbrev pub configured : ℕ → CountsPart → CountsPart
configured n p = record {
  transmit_failure = p.transmit_failure;
  router_connectivity = p.router_connectivity;
  router_neighbor_set_diversity = p.router_neighbor_set_diversity;
  router_outbound_activity = p.router_outbound_activity;
  router_inbound_activity = p.router_inbound_activity;
  security_timer = p.security_timer;
  end_device_configuration = n;
}

-- an address and a link word are those of the end device child with a network address
abbrev pub child_here : Nwk → ℕ → ℕ → Bool
child_here nwk address word = eqb address nwk.0 && (is_child_of (link_of word).relationship && is_end_device (link_of word).device_type)
