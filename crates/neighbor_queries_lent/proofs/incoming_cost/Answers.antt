-- A full ring has the cost of its median, and any other costs 0.
use mathlib.Core.Bool.{true, false}
use mathlib.Core.Path.{◌≡◌, sym, ap, ◌∙◌}
use lib.Dec.{eqb}
use Rattle.standard.specs.LinkCost.{link_cost}
use Rattle.standard.specs.Median.{median_of}
use Rattle.ring_buffer.specs.declared.RingBuffer.{RingBuffer}
use Rattle.neighbor_table.specs.Entry.{quality_of, cost_of}
use Rattle.neighbor_columns.specs.Codec.{link_of}
use Rattle.neighbor_queries_lent.proofs.incoming_cost.Goals as goal

full : (r : RingBuffer) → eqb r.len 3 ≡ true → cost_of (quality_of r) ≡ link_cost (median_of r.values)
full r h = rw h

short : (r : RingBuffer) → eqb r.len 3 ≡ false → cost_of (quality_of r) ≡ 0
short r h = rw h

pub returns-then-is_full : goal.returns-then-is_full
unfolding link_of
returns-then-is_full c = c.lqi_to_link_cost.ensures ∙ ap link_cost (c.median.ensures ∙ ap median_of c.values.ensures) ∙ sym (full c.of_word-lqas.result (sym c.is_full.ensures ∙ c.if-is_full.true)) ∙ ap (λ (r : RingBuffer). cost_of (quality_of r)) c.of_word-lqas.ensures

pub returns-else-is_full : goal.returns-else-is_full
unfolding link_of
returns-else-is_full c = sym (short c.of_word-lqas.result (sym c.is_full.ensures ∙ c.if-is_full.false)) ∙ ap (λ (r : RingBuffer). cost_of (quality_of r)) c.of_word-lqas.ensures
