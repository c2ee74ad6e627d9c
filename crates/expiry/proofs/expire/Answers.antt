-- Where no discovery is over, nothing goes; else the routes that stay are kept while the discoveries are as they were, and then the live ones of these.
-- Assumes nothing.
use mathlib.Core.Path.{sym, ap, ◌∙◌}
use borrow.Author.Tests.{not-true}
use Rattle.discovery_table.specs.Lent as discoveries
use Rattle.discovery_table.specs.Table.{DiscoveryTable, rows_of}
use Rattle.discovery_table.proofs.Lent as discoveries-lent
use Rattle.route_table.specs.Lent.{routes_of}
use Rattle.route_table.proofs.Lent as routes-lent
use Rattle.standard.specs.Discovery.{is_over}
use Rattle.standard.specs.Expiry.{expired}
use Rattle.standard.specs.Query.{some_fits}
use Rattle.search_tables.specs.Lent.{lent, rows_lent, both}
use Rattle.search_tables.proofs.Lent.{formed, unmoved}
use Rattle.expiry.proofs.Fit.{holds-all, both_left}
use Rattle.expiry.proofs.expire.Goals as goal

pub returns-then-not-some_over : goal.returns-then-not-some_over
returns-then-not-some_over c =
    let a = c.args in
    let r = a.routes.now in
    let d = a.discoveries.now in
    record {
      memory = unmoved r d;
      left = holds-all a.now_ms (lent r d) (formed r d) (ap (λ (t : DiscoveryTable). some_fits (is_over a.now_ms) (rows_of t)) (sym c.seen.ensures) ∙ sym c.some_over.ensures ∙ not-true _ c.if-not-some_over.true-raw);
    }

pub returns : goal.returns
returns c =
    let a = c.args in
    let r = a.routes.now in
    let d = a.discoveries.now in
    let q = ap (λ (t : DiscoveryTable). (expired a.now_ms (both (routes_of r) (rows_of t))).routes) c.seen-before.ensures in
    record {
      memory = record { routes = c.keep_pending.ensures.same; discoveries = c.keep_live.ensures.same };
      left =
          both_left a.now_ms (rows_lent r d) (lent c.keep_pending.new.routes c.keep_live.new.self)
          (routes-lent.holds c.keep_pending.new.routes _ (c.keep_pending.ensures.routes ∙ q))
          (discoveries-lent.holds c.keep_live.new.self _ c.keep_live.ensures.discoveries);
    }
