-- The first row that fits gives its address.
use mathlib.Core.Path.{sym, ap}
use Rattle.neighbor_columns.specs.Codec.{neighbor_from}
use Rattle.neighbor_columns.specs.Lent.{seen, with_keys}
use Rattle.neighbor_queries.specs.Filter.{fits}
use Rattle.neighbor_queries_lent.proofs.Loops.{first_some, first-no}
use Rattle.neighbor_queries.specs.Answers.{name_in}
use borrow.Author.Rules.{rules}
use Rattle.neighbor_questions_lent.proofs.name_fitting.Goals as goal

pub first_fitting-i-requires : goal.first_fitting-i-requires
first_fitting-i-requires c =
    (c.requires.0, (c.requires.1.0, c.requires.1.1.1))

pub returns-then-count-i : goal.returns-then-count-i
returns-then-count-i c =
    let on = seen c.args.keys.now c.args.nwks.now c.args.links.now c.args.count in
    λ t f. ap name_in (sym (first-no (on t) f (fits c.args.filter) c.first_fitting-i.result (search rules) (c.first_fitting-i.ensures.1 (with_keys c.args.keys.now t) f)))

pub returns : goal.returns
unfolding neighbor_from
returns c =
    let on = seen c.args.keys.now c.args.nwks.now c.args.links.now c.args.count in
    λ t f. ap name_in (sym (first_some (on t) f (fits c.args.filter) c.first_fitting-i.result (search rules) (c.first_fitting-i.ensures.1 (with_keys c.args.keys.now t) f)))
