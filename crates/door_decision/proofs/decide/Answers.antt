-- The choice can be made, and what is said of it is the decision, in every table that has the two columns.
use Rattle.route_table.specs.Lent.{seen_routes}
use Rattle.record_table.specs.Lent.{seen_table}
use Rattle.relay_store.proofs.Lent.{seen-together}
use Rattle.neighbor_columns.specs.Table as neighbor
use Rattle.neighbor_queries_lent.specs.Read.{lent_words}
use Rattle.neighbor_queries_lent.proofs.Ready.{words-in-use}
use Rattle.door.proofs.Lent.{says-as}
use Rattle.door_decision.specs.Header.{header_at}
use Rattle.door_decision.proofs.Decided.{choice-makeable, choice-decides}
use Rattle.door_decision.proofs.decide.Goals as goal

pub choose-choice-requires : goal.choose-choice-requires
choose-choice-requires c = words-in-use _ c.requires.1.formed

pub say_choice-requires : goal.say_choice-requires
say_choice-requires c =
    let a = c.args in
    let near = c.requires.1 in
    let good = seen-together a.records.now a.store.now c.requires.0 in
    (good.formed.ordered.long.1.0, good.agrees.places, choice-makeable (seen_routes a.routes.now) (seen_table a.records.now) a.store.now good (neighbor.rows_of (lent_words a.nwks.now a.links.now a.count near.table)) a.destination a.host_relays.now a.policy a.kind (header_at a.discover_route.now a.source_route.now a.has_source_route.now a.relay_index.now a.relay_count.now a.relays.now) c.choose-choice.result (c.choose-choice.ensures near.table near.formed) c.requires.2, c.requires.3)

pub returns : goal.returns
returns c =
    let a = c.args in
    λ t f. record { said = λ h. says-as (choice-decides (seen_routes a.routes.now) (seen_table a.records.now) a.store.now (seen-together a.records.now a.store.now c.requires.0) (neighbor.rows_of (lent_words a.nwks.now a.links.now a.count t)) a.destination a.host_relays.now a.policy a.kind (header_at a.discover_route.now a.source_route.now a.has_source_route.now a.relay_index.now a.relay_count.now a.relays.now) c.choose-choice.result (c.choose-choice.ensures t f) c.requires.3 h) ((c.say_choice.ensures a.destination).said h) }
