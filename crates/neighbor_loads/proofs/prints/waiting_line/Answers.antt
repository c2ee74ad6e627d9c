-- The entry at a place in use is said.
-- Assumes nothing.
use native.Mathlib.Omega.{arith}
use mathlib.Core.Path.{◌≡◌, ap, sym, ◌∙◌}
use lib.ListN.{length}
use Rattle.numbers.specs.Said.{spoken}
use Rattle.neighbors.specs.State.{waiting_in}
use Rattle.neighbor_loads.proofs.Counts.{waiting-here}
use borrow.Author.Rules.{rules}
use Rattle.neighbor_loads.proofs.prints.waiting_line.Goals as goal
use Rattle.neighbor_loads.proofs.prints.waiting_line.Goals.{Start}

long : (c : Start) → (length c.args.s.senders ≡ 64) × (length c.args.s.samples ≡ 64)
long c = (search rules, search rules)

pub slice_bounds-entry_at-end : goal.slice_bounds-entry_at-end
slice_bounds-entry_at-end c = sym (long (goal.at.slice_bounds-entry_at-end c).Start).0

pub slice_bounds-entry_at-end-2 : goal.slice_bounds-entry_at-end-2
slice_bounds-entry_at-end-2 c = sym (long (goal.at.slice_bounds-entry_at-end-2 c).Start).1

pub entry_at-e-requires : goal.entry_at-e-requires
entry_at-e-requires c = (omega (arith, (long (goal.at.entry_at-e-requires c).Start).0, c.requires), omega (arith, (long (goal.at.entry_at-e-requires c).Start).1, c.requires))

pub returns : goal.returns
returns c =
    c.answered.ensures
    ∙ rw (c.push_samples.ensures, c.push-k.ensures, c.push-m.ensures, c.none-n.ensures, c.entry_at-e.ensures)
    (ap spoken (sym (waiting-here (waiting_in c.args.s) c.args.i c.requires)))
