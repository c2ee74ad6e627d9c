-- The tally starts from the row's parts, and the row with it is stored; the costs before and after decide.
use native.Mathlib.Omega.{arith}
use Rattle.neighbor_columns.specs.Lent.{with_nwks}
use Rattle.link_status_lent.specs.Columns.{lent_status}
use Rattle.link_status_lent.proofs.Rows.{digested-by}
use Rattle.link_status_lent.proofs.digest_at.Goals as goal

pub offset_bounds-nwks-i : goal.offset_bounds-nwks-i
offset_bounds-nwks-i c =
    omega (arith, c.requires.0, c.requires.1)

pub bounds-nwks-i : goal.bounds-nwks-i
bounds-nwks-i c =
    omega (arith, c.requires.0, c.requires.2)

pub returns : goal.returns
returns c =
    let a = c.args in
    λ t w. let u = with_nwks a.nwks.now (lent_status a.links.now a.counts.now a.heard.now a.count t) in
    digested-by u w a.i c.requires.0 a.own a.command a.now_ms c.requires.6 _ _ _ _ _ _ c.link_of-l.ensures c.counts_of-c.ensures c.begin-start.ensures (c.add_up-x.ensures u w.formed) (λ small. c.store.ensures u w c.requires.0 small) c.lost_link.ensures
