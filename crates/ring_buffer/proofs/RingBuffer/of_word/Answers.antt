-- Each field is a digit of the word, as the definition has it.
use borrow.Author.Rules.{rules}
use Rattle.ring_buffer.specs.Word.{ring_of}
use Rattle.ring_buffer.proofs.RingBuffer.of_word.Goals as goal

pub returns : goal.returns
unfolding ring_of
returns c = search rules
