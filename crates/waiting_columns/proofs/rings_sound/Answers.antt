-- The answer so far tells of the places passed.
use mathlib.Core.Bool.{Bool, true}
use mathlib.Core.Path.{◌≡◌, sym, ap, subst, ◌∙◌}
use native.Mathlib.Omega.{arith}
use lib.ListN.{get_or, length-take}
use Prim.Native.Nat.{ℕ}
use Rattle.std.proofs.lemmas.List.{get_or-take}
use Rattle.standard.specs.Tells.{Tells}
use Rattle.standard.proofs.Tells.{tells-true}
use Rattle.columns.proofs.Tested.{passed-more}
use Rattle.ring_buffer.specs.Ring as ring
use Rattle.ring_buffer.specs.Word.{ring_of}
use Rattle.waiting_columns.proofs.rings_sound.Goals as goal

pub loop-w-preserved : goal.loop-w-preserved
loop-w-preserved c =
    let v = c.loop-w in
    let samples = c.args.samples.now in
    let word = get_or-take c.args.count samples v.w-index 0 (omega (arith, length-take c.args.count samples)) in
    let f = ring.well_formed (ring_of (get_or samples v.w-index 0)) in
    passed-more _ 0 v.w-index _ _ (omega arith) (subst (λ (b : Bool). Tells (f ≡ true) b) (ap (λ (w : ℕ). ring.well_formed (ring_of w)) (sym word) ∙ sym c.word_sound-ok.ensures) (tells-true f)) v.invariant
