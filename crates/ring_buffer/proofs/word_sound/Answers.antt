-- The comparisons of the word are those that tell whether its ring is well formed.
use Rattle.ring_buffer.proofs.Word.{word-told}
use Rattle.ring_buffer.proofs.word_sound.Goals as goal

pub returns : goal.returns
returns c = word-told c.args.word
