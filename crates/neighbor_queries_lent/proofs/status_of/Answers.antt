-- Field by field.
use Rattle.neighbor_columns.specs.Codec.{neighbor_from}
use Rattle.neighbor_queries_lent.proofs.status_of.Goals as goal

pub returns : goal.returns
unfolding neighbor_from
returns c = λ key counts deadline period late new beacon bytes. rw (c.outgoing_cost.ensures, c.incoming_cost.ensures)
