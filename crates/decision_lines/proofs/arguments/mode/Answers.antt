-- Each value is read at its place.
use mathlib.Core.Path.{◌∙◌}
use Rattle.decision_lines.specs.Arguments.{kind_of}
use Rattle.decision_lines.proofs.arguments.mode.Goals as goal

pub returns : goal.returns
returns c = λ z. record { kind = (c.kind-kind.ensures ∙ (λ z. kind_of (c.at.ensures z) (c.nwk.ensures z))) z; relays = c.relays-relays.ensures z }
