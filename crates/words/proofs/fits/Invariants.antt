-- What is left of the numbers has what is left of the shape where the whole has.
-- Assumes nothing.
use mathlib.Core.Path.{◌≡◌}
use lib.ListN.{drop}
use Rattle.words.specs.Fitting.{fit_from}
use Rattle.words.proofs.fits.Given as goal

abbrev pub invariant-loop-x : goal.invariant-loop-x
invariant-loop-x l = fit_from l.shape l.w (drop l.x-index l.args) ≡ fit_from l.shape l.initial.w l.args
