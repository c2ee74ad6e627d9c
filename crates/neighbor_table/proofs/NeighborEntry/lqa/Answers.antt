-- A full ring answers with the median of its places, any other with nothing.
-- Assumes nothing.
use Rattle.std.specs.Prelude.{Some}
use mathlib.Core.Path.{sym, ap, ◌∙◌}
use Rattle.standard.specs.Median.{median_of}
use Rattle.neighbor_table.proofs.NeighborEntry.lqa.Goals as goal

pub returns-then-is_full : goal.returns-then-is_full
returns-then-is_full c =
    rw (sym c.is_full.ensures ∙ c.if-is_full.true) (ap Some (c.median.ensures ∙ ap median_of c.values.ensures))

pub returns-else-is_full : goal.returns-else-is_full
returns-else-is_full c = rw (sym c.is_full.ensures ∙ c.if-is_full.false)
