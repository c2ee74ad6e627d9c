-- The entry at a place in use is said.
-- Assumes nothing.
use Prim.Native.Nat.{ℕ, ◌<◌, min}
use native.Mathlib.Omega.{arith}
use mathlib.Core.Path.{◌≡◌, ap, sym, ◌∙◌}
use Rattle.numbers.specs.Said.{spoken}
use Rattle.neighbor_columns.specs.Table.{InPlaces}
use Rattle.neighbors.specs.State.{table_in}
use Rattle.neighbor_loads.proofs.Counts.{neighbor-here}
use borrow.Author.Rules.{rules}
use Rattle.neighbor_loads.proofs.prints.neighbor_line.Goals as goal
use Rattle.neighbor_loads.proofs.prints.neighbor_line.Goals.{Start}

place : (n : ℕ) {i m : ℕ} → m ≡ 64 → i < min n 64 → i < m
place n long h = omega (arith, long, h)

places : (c : Start) → InPlaces c.args.i (table_in c.args.s)
places c = (place c.args.s.count (search rules) c.requires, place c.args.s.count (search rules) c.requires, place c.args.s.count (search rules) c.requires, place c.args.s.count (search rules) c.requires, place c.args.s.count (search rules) c.requires, place c.args.s.count (search rules) c.requires, place c.args.s.count (search rules) c.requires, place c.args.s.count (search rules) c.requires, place c.args.s.count (search rules) c.requires, place c.args.s.count (search rules) c.requires)

pub entry_at-e-requires : goal.entry_at-e-requires
entry_at-e-requires c = places (goal.at.entry_at-e-requires c).Start

pub returns : goal.returns
returns c =
    c.answered.ensures
    ∙ rw (c.push_neighbor.ensures, c.entry_at-e.ensures, c.push-m.ensures, c.none-n.ensures)
    (ap spoken (sym (neighbor-here (table_in c.args.s) c.args.i c.requires)))
