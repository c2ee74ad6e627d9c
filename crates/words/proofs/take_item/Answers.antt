-- The list has one value less, and the rest is as it was.
-- Assumes nothing.
use mathlib.Core.Path.{refl}
use Rattle.words.proofs.Fit.{item-taken}
use Rattle.words.proofs.take_item.Goals as goal

pub returns : goal.returns
returns c =
    λ shape xs. rw (c.within.ensures, c.item.ensures) (item-taken shape c.args.w _ c.args.x xs c.requires refl)
