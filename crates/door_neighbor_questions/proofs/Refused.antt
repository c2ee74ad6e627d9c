-- The numbers of a refused question keep the places; with `refused-asked` such a question writes nothing.
use Rattle.std.specs.Prelude.{Some, None, Ok, Err}
use native.Mathlib.Omega.{arith}
use mathlib.Core.Path.{refl}
use Rattle.door.proofs.Lent.{Keeps}
use Rattle.door_neighbor_questions.specs.Questions.{link_numbers, capability_numbers, moment_numbers, count_numbers}

pub link-keeps : Keeps link_numbers
link-keeps (Ok (Some l)) old p = absurd (omega arith)
link-keeps (Ok None) old p = absurd (omega arith)
link-keeps (Err why) old p = refl

pub capability-keeps : Keeps capability_numbers
capability-keeps (Ok (Some able)) old p = absurd (omega arith)
capability-keeps (Ok None) old p = absurd (omega arith)
capability-keeps (Err why) old p = refl

pub moment-keeps : Keeps moment_numbers
moment-keeps (Ok (Some time)) old p = absurd (omega arith)
moment-keeps (Ok None) old p = absurd (omega arith)
moment-keeps (Err why) old p = refl

pub count-keeps : Keeps count_numbers
count-keeps (Ok n) old p = absurd (omega arith)
count-keeps (Err why) old p = refl
