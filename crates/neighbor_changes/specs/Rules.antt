-- What a change of one neighbour leaves of the rows: of the neighbour with an extended address, and of the first that fits.
-- Document 01, "Decision (001) and neighbours (003)".
-- Assumes nothing.
use Rattle.std.specs.Prelude.{List}
use Rattle.types.specs.declared.Eui64.{Eui64}
use Rattle.standard.specs.Ordered.{lookup}
use Rattle.standard.specs.Query.{first}
use Rattle.standard.specs.Rows.{put_back}
use Rattle.neighbor_table.specs.declared.NeighborEntry.{NeighborEntry}
use Rattle.neighbor_table.specs.Entry.{neighbor_key}
use Rattle.neighbor_queries.specs.declared.Filter.{Filter}
use Rattle.neighbor_queries.specs.Filter.{fits}
use Rattle.neighbor_changes.specs.declared.Change.{Change}
use Rattle.neighbor_changes.specs.Change.{applied}

abbrev pub changed_at : Change → Eui64 → List NeighborEntry → List NeighborEntry
changed_at change eui64 xs = put_back neighbor_key (applied change) (lookup neighbor_key eui64.0 xs) xs

abbrev pub changed_first : Change → Filter → List NeighborEntry → List NeighborEntry
changed_first change filter xs = put_back neighbor_key (applied change) (first (fits filter) xs) xs
