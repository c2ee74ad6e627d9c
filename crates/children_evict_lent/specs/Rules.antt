-- What an eviction answers and leaves, as rules on the rows: end device children whose deadline is at or before now go.
-- Document 01, "Decision (001) and neighbours (003)". 05-3474, section 3.6.10.1.
-- Assumes nothing.
use Rattle.std.specs.Prelude.{ℕ, List, map}
use Rattle.standard.specs.Ordered.{keep}
use Rattle.neighbor_table.specs.declared.NeighborEntry.{NeighborEntry}
use Rattle.neighbor_queries.specs.declared.ChildList.{ChildList}
use Rattle.neighbor_queries.specs.declared.Filter.TheVariants.{TimedOut}
use Rattle.neighbor_queries.specs.Filter.{fits}
use Rattle.neighbor_queries.specs.Lists.{child_of, child_list}
use Rattle.neighbor_changes.specs.Change.{misses}

-- the children that go, by both their addresses
abbrev pub evicted : ℕ → List NeighborEntry → ChildList
evicted now xs = child_list (map child_of (keep (fits (TimedOut now)) xs))

-- the rows that stay
abbrev pub evict_timed_out_children : ℕ → List NeighborEntry → List NeighborEntry
evict_timed_out_children now xs = keep (misses (TimedOut now)) xs
