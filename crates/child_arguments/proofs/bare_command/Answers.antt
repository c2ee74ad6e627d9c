-- Each value is read at its place.
use mathlib.Core.List.{[]}
use Rattle.numbers.specs.Read.{listed}
use Rattle.flat_map.specs.Rows.{pad}
use Rattle.neighbor_queries.specs.Lists.{no_status}
use Rattle.child_arguments.proofs.bare_command.Goals as goal

pub returns : goal.returns
unfolding listed
returns c = λ z. record { is_first_frame = c.flag-is_first_frame.ensures z; is_last_frame = c.flag-is_last_frame.ensures z; count = c.at-count.ensures z; statuses = pad 31 no_status [] }
