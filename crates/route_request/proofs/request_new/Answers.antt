-- By the time sum: past the clock's end it is refused, else the new discovery stands under the pair by its own fields.
-- Assumes nothing.
use Rattle.std.specs.Prelude.{Option, None}
use Prim.Native.Nat.{ℕ}
use mathlib.Core.Path.{sym, ap, ◌∙◌}
use Rattle.types.specs.declared.Refusal.TheVariants.{TimePastEnd}
use Rattle.standard.specs.declared.DiscoveryEntry.{DiscoveryEntry}
use Rattle.standard.specs.Discovery.{discovery_key}
use Rattle.standard.specs.Expiry.{expired}
use Rattle.standard.specs.Request.{accepting, request_to}
use Rattle.search_tables.specs.Packed.{tables_of}
use Rattle.search_tables.specs.Lent.{lent}
use Rattle.search_tables.proofs.Lent.{formed, unmoved}
use Rattle.route_request.specs.Answer.{answered, by_time}
use Rattle.route_request.proofs.Rules.{leaves-as, leaves-refused, rule-new}
use Rattle.route_request.proofs.request_new.Goals as goal

pub accept-requires : goal.accept-requires
accept-requires c = ap discovery_key c.new_discovery-d.ensures

pub returns-in-Some : goal.returns-in-Some
returns-in-Some c =
    let a = c.args in
    let t = lent a.routes.now a.discoveries.now in
    let old = tables_of t in
    let left = expired a.now_ms old in
    record {
      memory = c.accept.ensures.memory;
      left =
          leaves-as _ _ _ _
          (ap (λ (d : DiscoveryEntry). answered old (accepting a.originator a.sender a.cost a.many_to_one d left)) c.new_discovery-d.ensures
          ∙ ap (answered old) (sym (rule-new a.originator a.id a.destination a.sender a.cost a.many_to_one c.in-Some.expires left))
          ∙ ap (λ (z : Option ℕ). by_time old z (λ (e : ℕ). request_to a.originator a.id a.destination a.sender a.cost a.many_to_one e left None)) (sym c.in-Some.is ∙ c.time_sum-sum.ensures))
          c.accept.ensures.left;
    }

pub returns-in-None : goal.returns-in-None
returns-in-None c =
    let a = c.args in
    let t = lent a.routes.now a.discoveries.now in
    let old = tables_of t in
    let left = expired a.now_ms old in
    record { memory = unmoved a.routes.now a.discoveries.now; left = leaves-refused t (formed a.routes.now a.discoveries.now) TimePastEnd _ (ap (λ (z : Option ℕ). by_time old z (λ (e : ℕ). request_to a.originator a.id a.destination a.sender a.cost a.many_to_one e left None)) (sym c.time_sum-sum.ensures ∙ c.in-None.is)) }
