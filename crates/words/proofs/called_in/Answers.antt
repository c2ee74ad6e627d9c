-- The word is found or not, and its numbers fit or not.
-- Assumes nothing.
use mathlib.Core.Path.{sym, ◌∙◌}
use Rattle.words.specs.Words.{called_in}
use Rattle.words.proofs.called_in.Goals as goal

pub returns-then-fits : goal.returns-then-fits
unfolding called_in
returns-then-fits c =
    let e = sym c.in-Some.is ∙ c.seek-found.ensures in
    rw (← e, sym c.fits.ensures ∙ c.if-fits.true)

pub returns-else-fits : goal.returns-else-fits
unfolding called_in
returns-else-fits c =
    let e = sym c.in-Some.is ∙ c.seek-found.ensures in
    rw (← e, sym c.fits.ensures ∙ c.if-fits.false)

pub returns-in-None : goal.returns-in-None
unfolding called_in
returns-in-None c = rw (← sym c.in-None.is ∙ c.seek-found.ensures)
