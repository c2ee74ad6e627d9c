-- The keys before `low` are below the one looked for, and those from `high` on above it; since the keys go up,
-- one comparison moves either bound. The measure is what lies between.
use Prim.Native.Nat.{◌-◌, ◌+◌, ◌/◌}
use mathlib.Core.Path.{sym}
use mathlib.Core.Logic.{⊎_elim}
use native.Mathlib.Omega.{arith}
use native.Mathlib.Nat.{eq-or-lt_of_le}
use borrow.Author.Rules.{rules}
use Rattle.flat_map.proofs.Places.{found_at, missing_at, below_at, below_up, above_from}
use Rattle.flat_map.proofs.index_of.Goals as goal

pub loop-low-init : goal.loop-low-init
loop-low-init c = (search rules, search rules, (λ n l. absurd (omega arith)), λ m h l. absurd (omega arith))

pub returns-then-k-key : goal.returns-then-k-key
returns-then-k-key c =
    let v = c.loop-low in
    let m = v.low + (v.high - v.low) / 2 in
    found_at _ _ _ c.requires.0 _ (omega arith)
    (below_at c.args.keys.now c.args.count c.args.key c.requires.1 m (omega arith) c.if-k-key.true)
    c.if-k-key.true

pub loop-low-preserved-then-k-key-2 : goal.loop-low-preserved-then-k-key-2
loop-low-preserved-then-k-key-2 c =
    let v = c.loop-low in
    let m = v.low + (v.high - v.low) / 2 in (
      omega arith,
      v.invariant.1,
      below_up c.args.keys.now c.args.count c.args.key c.requires.1 m (omega arith) c.if-k-key-2.true,
      v.invariant.3,
    )

pub loop-low-preserved : goal.loop-low-preserved
loop-low-preserved c =
    let v = c.loop-low in
    let m = v.low + (v.high - v.low) / 2 in (
      omega arith,
      omega arith,
      v.invariant.2,
      above_from c.args.keys.now c.args.count c.args.key c.requires.1 m (omega arith)
          (⊎_elim (λ e. absurd (c.if-k-key.false (sym e))) (λ l. l) (eq-or-lt_of_le c.if-k-key-2.false)),
    )

pub returns : goal.returns
returns c =
    let v = c.loop-low in
    missing_at _ _ _ c.requires.0 _ (omega arith) v.invariant.2 (λ l. v.invariant.3 _ (omega arith) l)
