-- What is written after the places passed, of any table whose rows the closures tell of; no more is written than places passed.
use native.Mathlib.Omega.{arith}
use Rattle.neighbor_queries_lent.proofs.Loops.{gathering-none, gathering-taken, gathering-passed, gathering-all}
use Rattle.neighbor_queries_lent.proofs.gather.Goals as goal
use Rattle.neighbor_queries_lent.proofs.gather.Goals.{then-fits, else-fits}

pub loop-i-init : goal.loop-i-init
loop-i-init g c = (omega arith, gathering-none _ _ _ _)

pub loop-i-preserved : goal.loop-i-preserved
loop-i-preserved g c =
    let v = c.loop-i in (
      elim c.if-fits.branch [ then-fits w ↦ omega (arith, w.n-is, v.invariant.0) | else-fits w ↦ omega (arith, w.n-is, v.invariant.0) ],
      elim c.if-fits.branch [ then-fits w ↦ gathering-taken _ _ _ _ v.i (omega arith) v.out v.n v.invariant.1 c.fits.result c.fits.ensures w.if-fits.true w.read.result w.read.ensures _ _ w.out-is w.n-is | else-fits w ↦ gathering-passed _ _ _ _ v.i (omega arith) v.out v.n v.invariant.1 c.fits.result c.fits.ensures w.if-fits.false _ _ w.out-is w.n-is ],
    )

pub returns : goal.returns
returns g c = let v = c.loop-i in gathering-all _ _ _ _ v.i v.out v.n (omega arith) v.invariant.1
