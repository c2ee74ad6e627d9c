-- The numbers of a refused question keep the places; with `refused-asked` such a question writes nothing.
use Rattle.std.specs.Prelude.{Some, None, Ok, Err}
use native.Mathlib.Omega.{arith}
use mathlib.Core.Path.{refl}
use Rattle.door.proofs.Lent.{Keeps}
use Rattle.door_queries.specs.Questions.{hop_numbers, status_numbers, deadline_numbers, count_numbers, check_numbers}

pub hop-keeps : Keeps hop_numbers
hop-keeps (Err why) old p = refl
hop-keeps (Ok None) old p = absurd (omega arith)
hop-keeps (Ok (Some n)) old p = absurd (omega arith)

pub status-keeps : Keeps status_numbers
status-keeps (Err why) old p = refl
status-keeps (Ok x) old p = absurd (omega arith)

pub deadline-keeps : Keeps deadline_numbers
deadline-keeps (Err why) old p = refl
deadline-keeps (Ok x) old p = absurd (omega arith)

pub count-keeps : Keeps count_numbers
count-keeps (Err why) old p = refl
count-keeps (Ok n) old p = absurd (omega arith)

pub check-keeps : Keeps check_numbers
check-keeps (Err why) old p = refl
check-keeps (Ok x) old p = absurd (omega arith)
