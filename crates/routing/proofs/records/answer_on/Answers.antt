-- The record's word decides, as the definition goes; where it names no way, the hop of the Active route does.
use mathlib.Core.Path.{sym, ap, ◌∙◌}
use Rattle.route_table.specs.Lent.{seen_routes}
use Rattle.routing.specs.Records.{hop_to, answer_in}
use Rattle.routing.proofs.records.answer_on.Goals as goal

pub returns-in-None : goal.returns-in-None
returns-in-None c = let a = c.args in c.hop_to.ensures ∙ ap hop_to c.next_hop-hop.ensures ∙ ap (answer_in (seen_routes a.routes.now) a.destination) (sym c.in-None.is)
