-- Each value is read at its place.
use mathlib.Core.Path.{ap, ◌∙◌}
use Rattle.decision_lines.specs.Header.{frame_type_of, discovery_of, control_at}
use Rattle.decision_lines.proofs.header.control.Goals as goal

pub returns : goal.returns
unfolding control_at
returns c =
    λ z. record {
      frame_type = (c.frame_type-frame_type.ensures ∙ ap frame_type_of c.at.ensures) z;
      protocol_version = c.byte-protocol_version.ensures z;
      discover_route = (c.discovery-discover_route.ensures ∙ ap discovery_of c.at-2.ensures) z;
      multicast = c.flag-multicast.ensures z;
      security = c.flag-security.ensures z;
      source_route = c.flag-source_route.ensures z;
      destination = c.flag-destination.ensures z;
      extended_source = c.flag-extended_source.ensures z;
      end_device_initiator = c.flag-end_device_initiator.ensures z;
      reserved1 = c.byte-reserved1.ensures z;
    }
