-- P2: "samples 10, 200, 30 give cost 6; 250 after them gives 1."
-- The definitions that the contracts of `push`, `ordered`, `median` and `lqi_to_link_cost` cite compute to these costs.
use Prim.Native.Nat.{ℕ}
use mathlib.Core.List.{List, [], ◌∷◌}
use mathlib.Core.Path.{◌≡◌, refl, ap}
use Rattle.standard.specs.LinkCost.{link_cost, incoming_cost}
use Rattle.standard.specs.Median.{Ordered, middle, median_of}
use Rattle.standard.proofs.Median.{median-of}
use Rattle.ring_buffer.specs.declared.RingBuffer.{RingBuffer}
use Rattle.ring_buffer.specs.Ring.{fresh, after_push, after_all, held}

abbrev three : RingBuffer
three = after_all fresh (10 ∷ 200 ∷ 30 ∷ [])

abbrev four : RingBuffer
four = after_push three 250

-- by the samples that the ring means
pub p2-three : incoming_cost (held three) ≡ 6
p2-three = refl

pub p2-four : incoming_cost (held four) ≡ 1
p2-four = refl

-- by the ring's places, which the code puts in order
pub p2-median-three : link_cost (median_of three.values) ≡ 6
p2-median-three = refl

pub p2-median-four : link_cost (median_of four.values) ≡ 1
p2-median-four = refl

-- whatever `ordered` answers within its contract
pub p2-ordered-three : (o : List ℕ) → Ordered three.values o → link_cost (middle o) ≡ 6
p2-ordered-three o h = ap link_cost (median-of three.values o h)

pub p2-ordered-four : (o : List ℕ) → Ordered four.values o → link_cost (middle o) ≡ 1
p2-ordered-four o h = ap link_cost (median-of four.values o h)
