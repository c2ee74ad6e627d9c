-- Each value is read at its place.
use mathlib.Core.Path.{ap, ◌∙◌}
use Rattle.child_arguments.specs.Arguments.{child_of}
use Rattle.neighbor_values.specs.Kinds.{device_type_of, relationship_of}
use Rattle.child_arguments.proofs.child.Goals as goal

pub returns : goal.returns
unfolding child_of
returns c =
    λ z. record {
      eui64 = c.eui64-eui64.ensures z;
      network_address = c.nwk-network_address.ensures z;
      device_type = (c.device_type-device_type.ensures ∙ ap device_type_of c.at.ensures) z;
      rx_on_when_idle = c.flag-rx_on_when_idle.ensures z;
      device_timeout = c.at-device_timeout.ensures z;
      relationship = (c.relationship-relationship.ensures ∙ ap relationship_of c.at-2.ensures) z;
    }
