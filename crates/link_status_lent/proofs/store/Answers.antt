-- The words are those of the parts with the tally, and stored they are the row with it.
use native.Mathlib.Omega.{arith}
use Rattle.link_status_lent.specs.Columns.{lent_status}
use Rattle.link_status_lent.proofs.Rows.{stored-by}
use Rattle.link_status_lent.proofs.store.Goals as goal

pub offset_bounds-links-i : goal.offset_bounds-links-i
offset_bounds-links-i c =
    omega (arith, c.requires.0)

pub offset_bounds-counts-i : goal.offset_bounds-counts-i
offset_bounds-counts-i c =
    omega (arith, c.requires.0)

pub offset_bounds-links-i-2 : goal.offset_bounds-links-i-2
offset_bounds-links-i-2 c =
    omega (arith, c.requires.0)

pub offset_bounds-counts-i-2 : goal.offset_bounds-counts-i-2
offset_bounds-counts-i-2 c =
    omega (arith, c.requires.0)

pub offset_bounds-heard-i : goal.offset_bounds-heard-i
offset_bounds-heard-i c =
    omega (arith, c.requires.0)

pub returns : goal.returns
returns c =
    let a = c.args in
    λ t w h small. stored-by (lent_status a.links.now a.counts.now a.heard.now a.count t) w a.i h a.now_ms a.x small _ _ _ _ _ _ c.link_of-l.ensures c.finish_link.ensures c.link_word.ensures c.counts_of-c.ensures c.finish_counts.ensures c.counts_word.ensures
