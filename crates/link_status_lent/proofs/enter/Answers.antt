-- The tally of all statuses goes into the row.
use mathlib.Core.Path.{ap, ◌∙◌}
use Rattle.neighbor_columns.specs.Table.{rows_of}
use Rattle.link_status.specs.declared.Tally.{Tally}
use Rattle.link_status.specs.Statuses.{is_live_at, statuses_of, tallied}
use Rattle.link_status.specs.Digest.{finished}
use Rattle.link_status_lent.specs.Columns.{lent_live}
use Rattle.link_status_lent.proofs.enter.Goals as goal

pub returns : goal.returns
returns c =
    let a = c.args in
    λ t f. c.finish.ensures
    ∙ ap (λ (x : Tally). finished a.now_ms x a.e) (c.add_up-x.ensures t f ∙ ap (tallied a.own (is_live_at (rows_of (lent_live a.nwks.now a.links.now a.count t))) (statuses_of a.command)) c.begin-start.ensures)
