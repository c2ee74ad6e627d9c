-- Where discovery is forced the step gives nothing; else it is what the look-up found.
-- Assumes nothing.
use mathlib.Core.Path.{◌∙◌, ap}
use Rattle.hop_choice.specs.Choice.{active_step, hopped}
use Rattle.hop_choice.proofs.by_route.Goals as goal

pub returns-then-policy : goal.returns-then-policy
unfolding active_step
returns-then-policy c = rw c.if-policy.true c.by_hint.ensures

pub returns : goal.returns
unfolding active_step
returns c =
    let a = c.args in
    rw c.if-policy.false (c.by_hop.ensures ∙ ap (hopped a.relays a.suppressed a.directive) c.next_hop-found.ensures)
