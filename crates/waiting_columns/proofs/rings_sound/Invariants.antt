-- The answer so far tells of the places passed.
use Prim.Native.Nat.{ℕ}
use mathlib.Core.Bool.{true}
use mathlib.Core.Path.{◌≡◌}
use lib.ListN.{get_or}
use Rattle.standard.specs.Tells.{Tells}
use Rattle.columns.proofs.Tested.{Passed}
use Rattle.ring_buffer.specs.Ring as ring
use Rattle.ring_buffer.specs.Word.{ring_of}
use Rattle.waiting_columns.proofs.rings_sound.Given as goal

abbrev pub invariant-loop-w : goal.invariant-loop-w
invariant-loop-w l = Tells (Passed (λ (j : ℕ). ring.well_formed (ring_of (get_or l.samples j 0)) ≡ true) 0 l.w-index) l.ok
