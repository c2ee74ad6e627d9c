-- No row passed fits, so that the first of the rest is the first of all.
use mathlib.Core.Path.{◌≡◌, sym, ◌∙◌}
use Rattle.neighbor_table.specs.declared.NeighborEntry.{NeighborEntry}
use Rattle.neighbor_columns.specs.Lent.{with_links}
use Rattle.neighbor_queries.specs.Filter.{fits}
use Rattle.neighbor_queries_lent.specs.Read.{lent_words}
use Rattle.neighbor_queries_lent.proofs.Loops.{in_row, ahead_more, first_found, first_ended}
use borrow.Author.Rules.{rules}
use native.Mathlib.Omega.{arith}
use Rattle.neighbor_queries_lent.proofs.first_fitting.Goals as goal

pub loop-i-init : goal.loop-i-init
loop-i-init c = λ t f. c.start_of-i.ensures.1 (with_links c.args.links.now t) f

pub returns-then-fits_word : goal.returns-then-fits_word
returns-then-fits_word c =
    let v = c.loop-i in
    let on = lent_words c.args.nwks.now c.args.links.now c.args.count in
    let fit = fits c.args.filter in
    (omega (arith, c.loop-i-test.true), λ t f. first_found (on t) f fit v.i (search rules) (sym (in_row (on t) v.i (λ (e : NeighborEntry). c.fits_word.result ≡ fit e) c.fits_word.ensures) ∙ c.if-fits_word.true) (v.invariant t f))

pub loop-i-preserved : goal.loop-i-preserved
loop-i-preserved c =
    let v = c.loop-i in
    let on = lent_words c.args.nwks.now c.args.links.now c.args.count in
    let fit = fits c.args.filter in
    λ t f. ahead_more (on t) f fit v.i (search rules) (sym (in_row (on t) v.i (λ (e : NeighborEntry). c.fits_word.result ≡ fit e) c.fits_word.ensures) ∙ c.if-fits_word.false) (v.invariant t f)

pub returns : goal.returns
returns c =
    let v = c.loop-i in
    let on = lent_words c.args.nwks.now c.args.links.now c.args.count in
    (omega arith, λ t f. first_ended (on t) f (fits c.args.filter) v.i c.args.count (search rules) (omega arith) (v.invariant t f))
