-- Every place is blank.
use mathlib.Core.Path.{refl}
use Rattle.door_link_status.proofs.blank_command.Goals as goal

pub returns : goal.returns
returns c = refl
