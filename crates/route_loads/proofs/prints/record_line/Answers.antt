-- The record at a place in use is said with the relays of its row.
-- Assumes nothing.
use mathlib.Core.List.{◌∷◌}
use native.Mathlib.Omega.{arith}
use mathlib.Core.Path.{◌≡◌, ap, sym, ◌∙◌}
use lib.ListN.{length}
use Rattle.numbers.specs.Said.{ok, spoken}
use Rattle.route_answers.specs.Values.{relay_numbers}
use Rattle.routing.specs.State.{record_table}
use Rattle.route_loads.specs.Prints.{record_line}
use Rattle.route_loads.proofs.Counts.{record-here}
use borrow.Author.Rules.{rules}
use Rattle.route_loads.proofs.prints.record_line.Goals as goal
use Rattle.route_loads.proofs.prints.record_line.Goals.{Start}

long : (c : Start) → (length c.args.s.record_keys ≡ 64) × (length c.args.s.record_lengths ≡ 64)
long c = (search rules, search rules)

pub entry_at-e-requires : goal.entry_at-e-requires
entry_at-e-requires c = (omega (arith, (long (goal.at.entry_at-e-requires c).Start).0, c.requires), omega (arith, (long (goal.at.entry_at-e-requires c).Start).1, c.requires))

pub returns : goal.returns
returns c =
    let store = c.args.store.now in
    c.record_values.ensures
    ∙ ap (λ l. spoken (ok (6 ∷ c.entry_at-e.result.destination.0 ∷ relay_numbers l))) c.row_relays-l.ensures
    ∙ ap (λ e. spoken (ok (record_line store c.args.i e))) c.entry_at-e.ensures
    ∙ ap spoken (sym (record-here (record_table c.args.s) store c.args.i c.requires))
