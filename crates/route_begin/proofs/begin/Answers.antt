-- By the discovery that the expiry would leave under the pair: one that is there is kept as it is.
-- Assumes nothing.
use mathlib.Core.Path.{sym, ◌∙◌}
use Rattle.standard.specs.Discovery.{pair_key, discovery_key, live}
use Rattle.standard.specs.Ordered.{lookup, keep}
use Rattle.discovery_table.proofs.Rows.{looked-found, looked-missing}
use Rattle.search_tables.specs.Lent.{rows_lent}
use Rattle.discovery_table.specs.Lent.{table}
use Rattle.expiry.proofs.Asked.{asked-live}
use Rattle.route_begin.proofs.Rules.{leaves-as, begun-known, begun-new}
use Rattle.route_begin.proofs.begin.Goals as goal

pub returns-in-Some : goal.returns-in-Some
returns-in-Some c =
    let a = c.args in
    let old = rows_lent a.routes.now a.discoveries.now in
    record { memory = c.begin_known.ensures.memory; left = leaves-as _ _ _ _ (sym (begun-known a.own a.id a.now_ms a.span old a.destination _ (looked-found (lookup discovery_key (pair_key a.own a.id) (keep (live a.now_ms) old.discoveries)) _ (sym c.in-Some.is ∙ asked-live a.now_ms (pair_key a.own a.id) c.seen.result (table a.discoveries.now) c.seen.ensures _ c.find_live-found.ensures)))) c.begin_known.ensures.left }

pub returns-in-None : goal.returns-in-None
returns-in-None c =
    let a = c.args in
    let old = rows_lent a.routes.now a.discoveries.now in
    record { memory = c.begin_new.ensures.memory; left = leaves-as _ _ _ _ (sym (begun-new a.own a.id a.now_ms a.span old a.destination (looked-missing (lookup discovery_key (pair_key a.own a.id) (keep (live a.now_ms) old.discoveries)) (sym c.in-None.is ∙ asked-live a.now_ms (pair_key a.own a.id) c.seen.result (table a.discoveries.now) c.seen.ensures _ c.find_live-found.ensures)))) c.begin_new.ensures.left }
