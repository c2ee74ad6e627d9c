-- Each byte is read from its place.
use Rattle.neighbor_values.specs.Reading.{samples_at}
use Rattle.neighbor_values.proofs.samples_at.Goals as goal

pub returns : goal.returns
unfolding samples_at
returns c = rw (c.byte-third.ensures, c.byte-second.ensures, c.byte-first.ensures, c.byte-next.ensures, c.byte-len.ensures)
