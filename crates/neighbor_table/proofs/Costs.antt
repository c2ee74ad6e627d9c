-- What an entry says of its link is what its samples mean: the cost of a well-formed ring's quality is the incoming cost
-- of the samples held, by the ring's law; and no cost is above 7.
use Rattle.std.specs.Prelude.{Option, Some, None, ℕ}
use Prim.Native.Nat.{◌≤◌}
use native.Mathlib.Omega.{arith}
use mathlib.Core.Bool.{Bool, true, false, cond}
use mathlib.Core.Path.{◌≡◌, refl, sym, ◌∙◌}
use lib.Dec.{eqb}
use Rattle.standard.specs.LinkCost.{link_cost, incoming_cost}
use Rattle.standard.specs.Median.{median_of}
use Rattle.ring_buffer.specs.declared.RingBuffer.{RingBuffer}
use Rattle.ring_buffer.specs.Ring.{held, WellFormed}
use Rattle.ring_buffer.proofs.Ring.{incoming-cost}
use Rattle.link_cost.proofs.LinkCost.{never-above-7}
use Rattle.neighbor_table.specs.Entry.{quality_of, cost_of}

pub cost-meant : (r : RingBuffer) → WellFormed r → cost_of (quality_of r) ≡ incoming_cost (held r)
cost-meant r w = either (eqb r.len 3) ∙ sym (incoming-cost r w) where
  either : (b : Bool) → cost_of (cond b (Some (median_of r.values)) None) ≡ cond b (link_cost (median_of r.values)) 0
  either true = refl
  either false = refl

pub cost-small : (q : Option ℕ) → cost_of q ≤ 7
cost-small None = omega arith
cost-small (Some quality) = never-above-7 quality
