-- The place is within 256 and the number has room, or the line is bad.
-- Assumes nothing.
use mathlib.Core.Bool.{Bool}
use mathlib.Core.Path.{◌≡◌, sym, ◌∙◌}
use Prim.Native.Nat.{ℕ, ◌+◌, ◌-◌, ◌*◌}
use lib.Dec.{leb}
use lib.ListN.{get_or}
use borrow.Author.Tests.{leb-true, not-true, not-false}
use Rattle.script.specs.Reading.{tenfold}
use Rattle.script.proofs.Steps.{no_place, no_room, grows}
use Rattle.script.specs.declared.Scan.{Scan}
use native.Mathlib.Omega.{arith}
use Rattle.script.proofs.grown.Goals as goal

tried : (s : Scan) (d : ℕ) {at : ℕ} {r : Bool} → at ≡ s.count - 1 → r ≡ leb (get_or s.values at 0 * 10 + d) 18446744073709551615 → leb (tenfold s d) 18446744073709551615 ≡ r
tried s d p e = sym (rw p at e)

pub returns-then-at-ge256 : goal.returns-then-at-ge256
returns-then-at-ge256 c =
    c.turned.ensures ∙ sym (no_place c.args.s c.args.d (omega (arith, c.last-at.ensures)))

pub returns-then-not-has_room : goal.returns-then-not-has_room
returns-then-not-has_room c =
    c.turned-then-not-has_room.ensures ∙ sym (no_room c.args.s c.args.d (tried c.args.s c.args.d c.last-at.ensures c.has_room.ensures ∙ not-true _ c.if-not-has_room.true-raw))

pub overflow_mul-t : goal.overflow_mul-t
overflow_mul-t c =
    omega (arith, leb-true (get_or c.args.s.values c.last-at.result 0 * 10 + c.args.d) 18446744073709551615 (sym c.has_room.ensures ∙ not-false _ c.if-not-has_room.false-raw))

pub overflow_add-t : goal.overflow_add-t
overflow_add-t c =
    omega (arith, leb-true (get_or c.args.s.values c.last-at.result 0 * 10 + c.args.d) 18446744073709551615 (sym c.has_room.ensures ∙ not-false _ c.if-not-has_room.false-raw))

pub returns : goal.returns
returns c =
    let p = c.last-at.ensures in
    rw p (sym (grows c.args.s c.args.d (omega (arith, p)) (tried c.args.s c.args.d p c.has_room.ensures ∙ not-false _ c.if-not-has_room.false-raw)))
