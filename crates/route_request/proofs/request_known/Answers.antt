-- The test is the rule's; a dearer request leaves what the expiry leaves, and what a better one stores stands under the same pair.
-- Assumes nothing.
use mathlib.Core.Path.{sym, ap, ◌∙◌}
use borrow.Author.Tests.{lt-ltb, le-ltb}
use Rattle.standard.specs.declared.DiscoveryEntry.{DiscoveryEntry}
use Rattle.standard.specs.Discovery.{discovery_key}
use Rattle.standard.specs.Expiry.{expired}
use Rattle.standard.specs.Request.{accepting}
use Rattle.search_tables.specs.Lent.{rows_lent}
use Rattle.route_request.specs.Answer.{answered}
use Rattle.route_request.proofs.Rules.{leaves-as, leaves-unaccepted, rule-dearer, rule-better}
use Rattle.route_request.proofs.request_known.Goals as goal

pub returns-then-d-cost : goal.returns-then-d-cost
returns-then-d-cost c =
    let a = c.args in
    let old = rows_lent a.routes.now a.discoveries.now in
    let left = expired a.now_ms old in
    record { memory = c.expire.ensures.memory; left = leaves-as _ _ _ _ (ap (answered old) (sym (rule-dearer a.originator a.id a.destination a.sender a.cost a.many_to_one 0 left a.d (lt-ltb _ _ c.if-d-cost.true)))) (leaves-unaccepted _ old left c.expire.ensures.left) }

pub accept-requires : goal.accept-requires
accept-requires c = ap discovery_key c.reached-better.ensures ∙ c.requires

pub returns : goal.returns
returns c =
    let a = c.args in
    let old = rows_lent a.routes.now a.discoveries.now in
    let left = expired a.now_ms old in
    record {
      memory = c.accept.ensures.memory;
      left =
          leaves-as _ _ _ _
          (ap (λ (d : DiscoveryEntry). answered old (accepting a.originator a.sender a.cost a.many_to_one d left)) c.reached-better.ensures
          ∙ ap (answered old) (sym (rule-better a.originator a.id a.destination a.sender a.cost a.many_to_one 0 left a.d (le-ltb _ _ c.if-d-cost.false))))
          c.accept.ensures.left;
    }
