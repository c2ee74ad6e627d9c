-- Every column loses the place, which is in use, and the count goes down by one.
-- Assumes nothing.
use mathlib.Core.Bool.{true}
use mathlib.Core.Path.{◌≡◌, sym, subst}
use native.Mathlib.Omega.{arith}
use Rattle.discovery_table.specs.Lent.{table}
use Rattle.discovery_table.specs.Table.{DiscoveryTable, well_formed}
use Rattle.discovery_table.proofs.Lent.{formed, told, out-formed}
use Rattle.discovery_table.proofs.Discoveries.remove_at.Goals as goal

pub shift_out_all-requires : goal.shift_out_all-requires
shift_out_all-requires c =
    let o = (formed c.args.self.now).ordered in
    (omega (arith, c.requires, o.small, o.long.0), omega (arith, c.requires, o.small, o.long.1.0), omega (arith, c.requires, o.small, o.long.1.1.0), c.requires)

pub invariant_of-self : goal.invariant_of-self
invariant_of-self c =
    let d = c.args.self.now in
    record { formed = subst (λ (t : DiscoveryTable). well_formed t ≡ true) (sym c.shift_out_all.ensures) (told _ (out-formed (table d) (formed d) c.args.i c.requires)) }
