-- What is gathered of the rows passed is zero exactly where each of them is zero after its record's relays, since a row is read through the
-- masks of its length. The measure is the rows left.
use Prim.Native.Nat.{◌-◌, min}
use native.Mathlib.Omega.{arith}
use mathlib.Core.List.{[]}
use mathlib.Core.Path.{◌≡◌, refl}
use lib.ListN.{get_or}
use Rattle.flat_map.proofs.Rows.{getD-blank}
use Rattle.standard.proofs.Tells.{not_so, tells-one}
use Rattle.relay_store.proofs.Agree.{agrees-told, gathered_none, gathered-more, gathered-told}
use Rattle.relay_store.proofs.Rows.{part-row, part_of}
use borrow.Author.Rules.{rules}
use Rattle.relay_store.proofs.agrees.Goals as goal
use Rattle.relay_store.proofs.agrees.Goals.{then-n-gt32, else-n-gt32}

pub returns-then-store-ne2048 : goal.returns-then-store-ne2048
returns-then-store-ne2048 c = tells-one (not_so (λ w. c.if-store-ne2048.true w.places)) (agrees-told _ _)

pub set_masks-requires : goal.set_masks-requires
set_masks-requires c = (refl, λ j h. getD-blank 64 j 0 [] (omega arith))

pub loop-i-init : goal.loop-i-init
loop-i-init c = (c.set_masks.ensures, gathered_none _ _ _ refl (λ j h. getD-blank 32 j 0 [] (omega arith)))

pub loop-i-preserved : goal.loop-i-preserved
loop-i-preserved c =
    let v = c.loop-i in
    let lengths = c.args.lengths.now in
    let store = c.args.store.now in
    let n = c.if-n-gt32.n in
    let m : n ≡ min (get_or lengths v.i 0) 32 = elim c.if-n-gt32.branch [ then-n-gt32 u ↦ omega arith | else-n-gt32 u ↦ omega arith ] in
    let g = rw (part-row v.i store, part_of (32 - n) _) at c.mark.ensures in
    (v.invariant.0, gathered-more lengths store _ v.invariant.0 (λ k. omega (arith, c.shared_slice_known-2-1.given k)) v.i n m _ _ (omega arith) v.invariant.1 g)

pub returns : goal.returns
returns c =
    let v = c.loop-i in
    tells-one (gathered-told _ _ v.over v.i (search rules) (omega arith) v.invariant.1 c.zero_from.ensures) (agrees-told _ _)
