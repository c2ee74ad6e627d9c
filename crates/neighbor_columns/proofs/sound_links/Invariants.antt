-- The answer so far tells of the places passed.
use Prim.Native.Nat.{ℕ, ◌≤◌}
use lib.ListN.{get_or}
use Rattle.standard.specs.Tells.{Tells}
use Rattle.columns.proofs.Tested.{Passed}
use Rattle.neighbor_columns.specs.Table.{SoundLink}
use Rattle.neighbor_columns.proofs.sound_links.Given as goal

abbrev pub invariant-loop-w : goal.invariant-loop-w
invariant-loop-w l = (l.w-index ≤ l.count) × Tells (Passed (λ (j : ℕ). SoundLink (get_or l.links j 0)) 0 l.w-index) l.ok
