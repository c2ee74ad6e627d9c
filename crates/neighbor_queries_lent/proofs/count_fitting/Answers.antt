-- Those counted and those that still fit make up all that fit.
use mathlib.Core.Path.{◌≡◌}
use Rattle.neighbor_table.specs.declared.NeighborEntry.{NeighborEntry}
use Rattle.neighbor_queries.specs.Filter.{fits}
use Rattle.neighbor_queries_lent.specs.Read.{lent_words}
use Rattle.neighbor_queries_lent.proofs.Loops.{in_row, bit-small, counted-more, counted-all}
use borrow.Author.Rules.{rules}
use native.Mathlib.Omega.{arith}
use Rattle.neighbor_queries_lent.proofs.count_fitting.Goals as goal

pub loop-i-preserved : goal.loop-i-preserved
loop-i-preserved c =
    let v = c.loop-i in
    let on = lent_words c.args.nwks.now c.args.links.now c.args.count in
    let fit = fits c.args.filter in
    (omega (arith, bit-small c.fits_word.result, v.invariant.0), λ t f. counted-more (on t) f fit v.i v.fitting c.fits_word.result (search rules) (in_row (on t) v.i (λ (e : NeighborEntry). c.fits_word.result ≡ fit e) c.fits_word.ensures) (v.invariant.1 t f))

pub returns : goal.returns
returns c =
    let v = c.loop-i in
    let on = lent_words c.args.nwks.now c.args.links.now c.args.count in
    λ t f. counted-all (on t) f (fits c.args.filter) v.i v.fitting (search rules) (v.invariant.1 t f)
