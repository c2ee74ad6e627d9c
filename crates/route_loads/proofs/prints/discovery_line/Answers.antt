-- The entry at a place in use is said.
-- Assumes nothing.
use native.Mathlib.Omega.{arith}
use mathlib.Core.Path.{◌≡◌, ap, sym, ◌∙◌}
use lib.ListN.{length}
use Rattle.numbers.specs.Said.{ok, spoken}
use Rattle.routing.specs.State.{discovery_table}
use Rattle.route_loads.specs.Prints.{discovery_line}
use Rattle.route_loads.proofs.Counts.{discovery-here}
use borrow.Author.Rules.{rules}
use Rattle.route_loads.proofs.prints.discovery_line.Goals as goal
use Rattle.route_loads.proofs.prints.discovery_line.Goals.{Start}

long : (c : Start) → (length c.args.s.discovery_keys ≡ 32) × (length c.args.s.discovery_words ≡ 32) × (length c.args.s.discovery_ends ≡ 32)
long c = (search rules, search rules, search rules)

pub entry_at-e-requires : goal.entry_at-e-requires
entry_at-e-requires c = (omega (arith, (long (goal.at.entry_at-e-requires c).Start).0, c.requires), omega (arith, (long (goal.at.entry_at-e-requires c).Start).1, c.requires), omega (arith, (long (goal.at.entry_at-e-requires c).Start).2, c.requires))

pub returns : goal.returns
returns c =
    c.discovery_values.ensures
    ∙ ap (λ e. spoken (ok (discovery_line e))) c.entry_at-e.ensures
    ∙ ap spoken (sym (discovery-here (discovery_table c.args.s) c.args.i c.requires))
