-- The place of the first that fits is before the count where there is one.
use Rattle.flat_map.proofs.Compare.{below_or_not}
use Rattle.neighbor_queries.specs.Filter.{fits}
use Rattle.neighbor_queries_lent.specs.Read.{lent_words}
use Rattle.neighbor_queries_lent.proofs.Loops.{any_told}
use Rattle.neighbor_queries_lent.proofs.any_fitting.Goals as goal

pub returns : goal.returns
returns c =
    let on = lent_words c.args.nwks.now c.args.links.now c.args.count in
    λ t f. any_told (on t) f (fits c.args.filter) c.first_fitting.result (c.first_fitting.ensures.1 t f) (below_or_not c.first_fitting.result c.args.count)
