-- The fields, put together, are the definition's sum.
use borrow.Author.Rules.{rules}
use Rattle.ring_buffer.specs.Word.{ring_word}
use Rattle.ring_buffer.proofs.RingBuffer.word.Goals as goal

pub returns : goal.returns
unfolding ring_word
returns c =
    let e = c.packed.ensures in
    (e.0, e.1, record { places = search rules; first = e.2; second = e.3; third = e.4; held = e.5; next = e.6 })
