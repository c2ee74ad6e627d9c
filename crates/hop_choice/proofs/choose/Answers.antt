-- Direct mode and a forced route are answered at once, and so is an end device child, which the look-up tells in every table that has the two columns.
-- Any other goes to the tables.
-- Assumes nothing.
use mathlib.Core.Path.{sym, ◌∙◌}
use borrow.Enum.Refused.{opened}
use Rattle.record_table.specs.Lent.{seen_table}
use Rattle.route_table.specs.Lent.{seen_routes}
use Rattle.neighbor_columns.specs.Table as neighbor
use Rattle.neighbor_queries_lent.specs.Read.{lent_words}
use Rattle.hop_choice.proofs.Steps as steps
use Rattle.hop_choice.proofs.choose.Goals as goal

pub returns-in_default : goal.returns-in_default
returns-in_default c = λ t f. steps.at_once _ _ _ _ _ _ _ _ c.in_default.is

pub returns-in-Force : goal.returns-in-Force
returns-in-Force c =
    λ t f. steps.by-force _ _ _ _ _ _ _ _ _ c.in-Route.is _ c.in-Force.is _ c.by_host_route.ensures

pub returns-then-any_fitting : goal.returns-then-any_fitting
returns-then-any_fitting c =
    λ t f. steps.to-child _ _ _ _ _ _ _ _ _ c.in-Route.is (opened c.in_default-directive.in_default-directive-own.keys2) (sym (c.any_fitting.ensures t f) ∙ c.if-any_fitting.true)

pub returns : goal.returns
returns c =
    let a = c.args in
    let routes = seen_routes a.routes.now in
    let records = seen_table a.records.now in
    λ t f. steps.by-tables routes records (neighbor.rows_of (lent_words a.nwks.now a.links.now a.neighbors t)) a.destination a.policy a.relays a.suppressed a.kind _ c.in-Route.is (opened c.in_default-directive.in_default-directive-own.keys2) (sym (c.any_fitting.ensures t f) ∙ c.if-any_fitting.false) _ c.by_tables.ensures
