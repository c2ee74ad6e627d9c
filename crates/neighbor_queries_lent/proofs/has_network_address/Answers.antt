-- The first row with the address is before the count where there is one.
use native.Mathlib.Omega.{arith}
use Rattle.flat_map.proofs.Compare.{below_or_not}
use Rattle.neighbor_queries.specs.Filter.{fits}
use Rattle.neighbor_queries.specs.declared.Filter.TheVariants.{Address}
use Rattle.neighbor_queries_lent.specs.Read.{lent_nwks}
use Rattle.neighbor_queries_lent.proofs.Loops.{address-first, any_told}
use Rattle.neighbor_queries_lent.proofs.has_network_address.Goals as goal

pub first16-requires : goal.first16-requires
first16-requires c = (omega (arith, c.requires.0, c.requires.1.0), omega (arith, c.requires.0))

pub returns : goal.returns
returns c =
    let on = lent_nwks c.args.nwks.now c.args.count in
    λ t f. any_told (on t) f (fits (Address c.args.nwk)) _ (address-first (on t) f c.args.nwk _ c.first16.ensures) (below_or_not _ c.args.count)
