-- Field by field, from the parts in the two words.
use Rattle.neighbor_columns.specs.Codec.{neighbor_from}
use Rattle.neighbor_columns.proofs.entry.Goals as goal

pub returns : goal.returns
unfolding neighbor_from
returns c =
    rw (c.link_of-l.ensures, c.counts_of-c.ensures, c.low_half.ensures, c.high_half.ensures, c.low_half-2.ensures, c.high_half-2.ensures)
