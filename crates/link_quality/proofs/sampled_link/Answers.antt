-- The word of the ring with one more sample, under the bits that stand above it.
use mathlib.Core.Path.{ap, ◌∙◌}
use Rattle.ring_buffer.specs.declared.RingBuffer.{RingBuffer}
use Rattle.ring_buffer.specs.Ring.{after_push}
use Rattle.link_quality.proofs.Sampled.{link-sampled}
use Rattle.link_quality.proofs.sampled_link.Goals as goal

pub returns : goal.returns
returns c =
    let a = c.args in
    link-sampled a.word a.lqi _ (c.push-lqas.ensures ∙ ap (λ (r : RingBuffer). after_push r a.lqi) c.of_word-held.ensures) c.word.ensures.2 _ c.word.ensures.0 c.word.ensures.1
