-- By the time sum: past the clock's end it is refused, else the new discovery stands under the pair by its own fields.
-- Assumes nothing.
use Rattle.std.specs.Prelude.{Option, ℕ}
use mathlib.Core.Path.{sym, ap, ◌∙◌}
use Rattle.types.specs.declared.Refusal.TheVariants.{TimePastEnd}
use Rattle.standard.specs.declared.DiscoveryEntry.{DiscoveryEntry}
use Rattle.standard.specs.Discovery.{discovery_key}
use Rattle.standard.specs.Expiry.{expired}
use Rattle.search_tables.specs.Packed.{tables_of}
use Rattle.search_tables.specs.Lent.{lent}
use Rattle.search_tables.proofs.Lent.{formed, unmoved}
use Rattle.route_begin.specs.Answer.{begun_with, by_time}
use Rattle.route_begin.specs.Marked.{marked, noted, began_new}
use Rattle.route_begin.proofs.Rules.{leaves-as, leaves-refused}
use Rattle.route_begin.proofs.begin_new.Goals as goal

pub begin_with-requires : goal.begin_with-requires
begin_with-requires c = ap discovery_key c.own_discovery-d.ensures

pub returns-in-Some : goal.returns-in-Some
returns-in-Some c =
    let a = c.args in
    let t = lent a.routes.now a.discoveries.now in
    let left = expired a.now_ms (tables_of t) in
    record {
      memory = c.begin_with.ensures.memory;
      left =
          leaves-as _ _ _ _
          (ap (λ (d : DiscoveryEntry). begun_with (tables_of t) a.id (noted d (marked a.destination left))) c.own_discovery-d.ensures
          ∙ ap (λ (z : Option ℕ). by_time (tables_of t) z a.id (began_new a.own a.id a.destination left)) (sym c.in-Some.is ∙ c.time_sum-sum.ensures))
          c.begin_with.ensures.left;
    }

pub returns-in-None : goal.returns-in-None
returns-in-None c =
    let a = c.args in
    let t = lent a.routes.now a.discoveries.now in
    let left = expired a.now_ms (tables_of t) in
    record { memory = unmoved a.routes.now a.discoveries.now; left = leaves-refused t (formed a.routes.now a.discoveries.now) TimePastEnd _ (ap (λ (z : Option ℕ). by_time (tables_of t) z a.id (began_new a.own a.id a.destination left)) (sym c.time_sum-sum.ensures ∙ c.in-None.is)) }
