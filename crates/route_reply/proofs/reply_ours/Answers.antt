-- The test is the rule's; a reply that is not dropped is written, and the columns hold what is written.
-- Assumes nothing.
use Rattle.search_tables.specs.Packed.{tables_of}
use Rattle.search_tables.specs.Lent.{lent_values}
use Rattle.search_tables.proofs.Lent.{values-formed, values-unmoved}
use Rattle.route_reply.proofs.Rules.{ours-dropped, ours-taken}
use Rattle.route_reply.proofs.reply_ours.Goals as goal

pub returns-then-is_active-d : goal.returns-then-is_active-d
returns-then-is_active-d c =
    let a = c.args in
    let t = lent_values a.routes.now a.discoveries.now in
    let w = values-formed a.routes.now a.discoveries.now in
    record {
      memory = values-unmoved a.routes.now a.discoveries.now;
      left = ours-dropped t w a.sender a.cost a.d a.e (rw c.is_active.ensures at c.if-is_active-d.true);
    }

pub returns : goal.returns
returns c =
    let a = c.args in
    let t = lent_values a.routes.now a.discoveries.now in
    record {
      memory = c.write_reply.ensures.memory;
      left = ours-taken _ (tables_of t) a.sender a.cost a.d a.e c.write_reply.ensures.left _ (rw c.is_active.ensures at c.if-is_active-d.false) c.news.ensures;
    }
