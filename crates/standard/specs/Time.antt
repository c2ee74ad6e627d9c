-- Where the expiration of a discovery is summed.
-- Document 01, "Refusal numbers": 5, "a time sum that the Rust makes on this path passes 2^64 - 1"; a known pair keeps its expiration.
-- Assumes nothing.
use Rattle.std.specs.Prelude.{Option, Some, None, ℕ}
use Rattle.standard.specs.declared.DiscoveryEntry.{DiscoveryEntry}

-- the sum, which is made only for a discovery that is not there; for one that is, no sum is made and its time plays no part
abbrev pub sum_made : Option DiscoveryEntry → Option ℕ → Option ℕ
sum_made None s = s
sum_made (Some d) s = Some 0
