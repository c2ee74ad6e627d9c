-- Which neighbour is meant by addresses that may be given. The extended address wins; one that is not known falls back.
-- The Rust's `refresh_child_timeout`; 05-3474, section 3.6.10.4.
-- Assumes nothing.
use Rattle.std.specs.Prelude.{List, Option, Some, None}
use Rattle.standard.specs.Ordered.{lookup}
use Rattle.standard.specs.Query.{first}
use Rattle.neighbor_table.specs.declared.NeighborEntry.{NeighborEntry}
use Rattle.neighbor_table.specs.Entry.{neighbor_key}
use Rattle.neighbor_queries.specs.declared.Filter.TheVariants.{Address}
use Rattle.neighbor_queries.specs.Filter.{fits}
use Rattle.types.specs.declared.Nwk.{Nwk}
use Rattle.types.specs.declared.Eui64.{Eui64}

abbrev pub by_name_of : Option Eui64 → List NeighborEntry → Option NeighborEntry
by_name_of (Some eui64) xs = lookup neighbor_key eui64.0 xs
by_name_of None xs = None

abbrev pub by_address : Option Nwk → List NeighborEntry → Option NeighborEntry
by_address (Some nwk) xs = first (fits (Address nwk)) xs
by_address None xs = None

abbrev pub or_else : Option NeighborEntry → Option NeighborEntry → Option NeighborEntry
or_else None other = other
or_else (Some e) other = Some e

unfoldable pub known : Option Eui64 → Option Nwk → List NeighborEntry → Option NeighborEntry
known eui64 nwk xs = or_else (by_name_of eui64 xs) (by_address nwk xs)
