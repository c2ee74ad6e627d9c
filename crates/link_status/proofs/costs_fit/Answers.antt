-- The tests are the definition's own.
-- Assumes nothing.
use mathlib.Core.Path.{refl}
use Rattle.link_status.specs.Statuses.{costs_fit}
use Rattle.link_status.proofs.costs_fit.Goals as goal

pub returns : goal.returns
unfolding costs_fit
returns c = refl
