-- A copy within the array moves those from the place on, and a store puts the number in.
use mathlib.Core.Path.{ap, ◌∙◌}
use Rattle.columns.proofs.Shift.{copied_right}
use Rattle.std.proofs.Common.{slice_set}
use Rattle.columns.proofs.shift_in.Goals as goal

pub returns : goal.returns
returns g c = let a = c.args in ap (λ l. slice_set l a.i a.x) c.copy_within.ensures.after ∙ copied_right a.a.now a.i a.x c.requires
