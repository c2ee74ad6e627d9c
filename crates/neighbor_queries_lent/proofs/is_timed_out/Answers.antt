-- The deadline and the test of the word.
use Rattle.neighbor_queries.specs.Filter.{fits}
use Rattle.neighbor_columns.specs.Codec.{neighbor_from}
use Rattle.neighbor_queries_lent.proofs.is_timed_out.Goals as goal

pub returns : goal.returns
unfolding fits neighbor_from
returns c = λ key nwk counts period late new beacon bytes. rw c.is_end_device_child.ensures
