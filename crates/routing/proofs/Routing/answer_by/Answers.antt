-- The record's word decides, as the definition goes; where it names no way, the hop of the Active route does.
-- Assumes nothing.
use mathlib.Core.Path.{sym, ap, ◌∙◌}
use Rattle.routing.specs.Records.{hop_to, answer_by}
use Rattle.routing.proofs.Routing.answer_by.Goals as goal

pub returns-in-None : goal.returns-in-None
returns-in-None c = c.hop_to.ensures ∙ ap hop_to c.active_hop-hop.ensures ∙ ap (answer_by c.args.self c.args.destination) (sym c.in-None.is)
