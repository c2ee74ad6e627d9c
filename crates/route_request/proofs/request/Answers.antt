-- By the discovery that the expiry would leave under the pair, as the rule goes.
-- Assumes nothing.
use Rattle.std.specs.Prelude.{Some, None}
use mathlib.Core.Path.{◌≡◌, sym, ◌∙◌}
use Rattle.standard.specs.Discovery.{pair_key, discovery_key, live}
use Rattle.standard.specs.Ordered.{lookup, keep}
use Rattle.flat_map.proofs.Ordered.{lookup_key}
use Rattle.discovery_table.proofs.Rows.{looked-found, looked-missing}
use Rattle.discovery_table.specs.Lent.{table}
use Rattle.search_tables.specs.Lent.{rows_lent}
use Rattle.expiry.proofs.Asked.{asked-live}
use Rattle.route_request.proofs.Rules.{leaves-as, requested-known, requested-new}
use Rattle.route_request.proofs.request.Goals as goal
use Rattle.route_request.proofs.request.Goals.{In-Some, In-None}

known : (c : In-Some) → let a = c.args in lookup discovery_key (pair_key a.originator a.id) (keep (live a.now_ms) (rows_lent a.routes.now a.discoveries.now).discoveries) ≡ Some c.in-Some.d
known c = looked-found _ _ (sym c.in-Some.is ∙ asked-live c.args.now_ms (pair_key c.args.originator c.args.id) c.seen.result (table c.args.discoveries.now) c.seen.ensures _ c.find_live-found.ensures)

new : (c : In-None) → let a = c.args in lookup discovery_key (pair_key a.originator a.id) (keep (live a.now_ms) (rows_lent a.routes.now a.discoveries.now).discoveries) ≡ None
new c = looked-missing _ (sym c.in-None.is ∙ asked-live c.args.now_ms (pair_key c.args.originator c.args.id) c.seen.result (table c.args.discoveries.now) c.seen.ensures _ c.find_live-found.ensures)

pub request_known-requires : goal.request_known-requires
request_known-requires c =
    let a = c.args in
    let old = rows_lent a.routes.now a.discoveries.now in
    lookup_key discovery_key _ (keep (live a.now_ms) old.discoveries) _ (known (goal.at.request_known-requires c).In-Some)

pub returns-in-Some : goal.returns-in-Some
returns-in-Some c =
    let a = c.args in
    let old = rows_lent a.routes.now a.discoveries.now in
    record { memory = c.request_known.ensures.memory; left = leaves-as _ _ _ _ (sym (requested-known a.originator a.id a.destination a.sender a.cost a.many_to_one a.now_ms a.span old _ (known (goal.at.returns-in-Some c).In-Some))) c.request_known.ensures.left }

pub returns-in-None : goal.returns-in-None
returns-in-None c =
    let a = c.args in
    let old = rows_lent a.routes.now a.discoveries.now in
    record { memory = c.request_new.ensures.memory; left = leaves-as _ _ _ _ (sym (requested-new a.originator a.id a.destination a.sender a.cost a.many_to_one a.now_ms a.span old (new (goal.at.returns-in-None c).In-None))) c.request_new.ensures.left }
