-- The numbers are those of the neighbours, and a live link is found by its number.
use mathlib.Core.Path.{◌∙◌}
use Rattle.link_status_lent.proofs.Rows.{counted-live}
use Rattle.link_status_lent.proofs.add_up.Goals as goal

pub returns : goal.returns
returns c =
    let a = c.args in
    λ t f. c.count_all.ensures ∙ counted-live a.own a.command a.start _ _ a.count (c.live_numbers.ensures t f)
