-- The choice can be made, and what is made of it is the decision, in every table that has the two columns.
-- Assumes nothing.
use Rattle.record_table.specs.Lent.{seen_table}
use Rattle.route_table.specs.Lent.{seen_routes}
use Rattle.relay_store.proofs.Lent.{seen-together}
use Rattle.neighbor_columns.specs.Table as neighbor
use Rattle.neighbor_queries_lent.specs.Read.{lent_words}
use Rattle.neighbor_queries_lent.proofs.Ready.{words-in-use}
use Rattle.next_hop.proofs.Chosen.{made-decides}
use Rattle.next_hop.proofs.Makeable.{told-makeable}
use Rattle.next_hop.proofs.decide.Goals as goal

pub choose-choice-requires : goal.choose-choice-requires
choose-choice-requires c =
    words-in-use _ c.requires.1.formed

pub make-requires : goal.make-requires
make-requires c =
    let a = c.args in
    let routes = seen_routes a.routes.now in
    let records = seen_table a.records.now in
    let good = seen-together a.records.now a.store.now c.requires.0 in
    let near = c.requires.1 in
    (good.formed.ordered.long.1.0, good.agrees.places, told-makeable routes records good.formed a.header.destination a.mode.relays a.policy (neighbor.rows_of (lent_words a.nwks.now a.links.now a.count near.table)) c.is_suppressed.result a.mode.kind c.requires.2 c.choose-choice.result (c.choose-choice.ensures near.table near.formed))

pub returns : goal.returns
returns c =
    let a = c.args in
    let routes = seen_routes a.routes.now in
    let records = seen_table a.records.now in
    let good = seen-together a.records.now a.store.now c.requires.0 in
    λ t f. made-decides routes records a.store.now good (neighbor.rows_of (lent_words a.nwks.now a.links.now a.count t)) a.header a.mode a.policy c.is_suppressed.result c.is_suppressed.ensures c.choose-choice.result (c.choose-choice.ensures t f) c.make.result c.make.ensures
