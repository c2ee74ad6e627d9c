-- The keys of a well-formed table ascend, and there are at most 32; the key of the pair is sought among them.
-- Assumes nothing.
use mathlib.Core.Path.{ap, ◌∙◌}
use native.Mathlib.Omega.{arith}
use Rattle.discovery_table.specs.Lent.{seen_table, place_in}
use Rattle.discovery_table.proofs.Lent.{seen-formed}
use Rattle.discovery_table.proofs.DiscoveriesSeen.place_of.Goals as goal

pub index_of-requires : goal.index_of-requires
index_of-requires c =
    let o = (seen-formed c.args.self.now).ordered in
    (omega (arith, o.small, o.long.0), omega (arith, o.small), o.rising)

pub returns : goal.returns
returns c = c.index_of.ensures ∙ ap (place_in (seen_table c.args.self.now)) c.pair_key-key.ensures
