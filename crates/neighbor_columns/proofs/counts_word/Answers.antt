-- The fields of the word are those of the part, and each is within its place.
use Rattle.neighbor_columns.specs.Codec.{counts_word}
use Rattle.neighbor_columns.proofs.counts_word.Goals as goal

pub returns : goal.returns
unfolding counts_word
returns c =
    let e = c.packed_counts.ensures in
    (e.0, record { failures = e.1; connectivity = e.2; diversity = e.3; outbound = e.4; inbound = e.5; security = e.6 })
