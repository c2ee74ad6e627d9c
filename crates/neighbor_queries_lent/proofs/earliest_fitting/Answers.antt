-- The earliest of the deadlines passed, with the earliest of those to come, is the earliest of all.
use mathlib.Core.Path.{◌≡◌, sym, ◌∙◌}
use Rattle.neighbor_table.specs.declared.NeighborEntry.{NeighborEntry}
use Rattle.neighbor_columns.specs.Codec.{neighbor_from}
use Rattle.neighbor_queries.specs.Filter.{fits}
use Rattle.neighbor_queries_lent.specs.Read.{lent_deadlines}
use Rattle.neighbor_queries_lent.proofs.Loops.{in_row, earliest-taken, earliest-passed}
use borrow.Author.Rules.{rules}
use Rattle.neighbor_queries_lent.proofs.earliest_fitting.Goals as goal
use Rattle.neighbor_queries_lent.proofs.earliest_fitting.Goals.{then-fits_word, else-fits_word}

pub loop-i-preserved : goal.loop-i-preserved
unfolding neighbor_from
loop-i-preserved c =
    let v = c.loop-i in
    let on = lent_deadlines c.args.nwks.now c.args.links.now c.args.deadlines.now c.args.count in
    let fit = fits c.args.filter in
    λ t f. elim c.if-fits_word.branch [ then-fits_word w ↦ earliest-taken (on t) f fit v.i (search rules) v.first c.if-fits_word.first (v.invariant t f) (sym (in_row (on t) v.i (λ (e : NeighborEntry). c.fits_word.result ≡ fit e) c.fits_word.ensures) ∙ w.if-fits_word.true) (w.first-is ∙ w.earlier-first.ensures) | else-fits_word w ↦ earliest-passed (on t) f fit v.i (search rules) v.first c.if-fits_word.first (v.invariant t f) (sym (in_row (on t) v.i (λ (e : NeighborEntry). c.fits_word.result ≡ fit e) c.fits_word.ensures) ∙ w.if-fits_word.false) w.first-is ]
