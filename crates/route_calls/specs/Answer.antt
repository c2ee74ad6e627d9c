-- What each call answers, on the rows. Document 01, "Refusal numbers": 1 where a call needs a new route and none is free,
-- with the rows handed back as they came; 6 where the hop of an Active route is 0xFFFF, which the layer above gives.
-- Assumes nothing.
use Rattle.std.specs.Prelude.{ℕ, Bool, cond, List, ◌≡◌, leb, length, Option, Some, None, Result, Ok, Err}
use Rattle.types.specs.declared.Nwk.{Nwk}
use Rattle.types.specs.declared.Refusal.TheVariants.{RouteTableFull, UnknownNextHop}
use Rattle.standard.specs.declared.RouteEntry.{RouteEntry}
use Rattle.standard.specs.Calls.{has_route, is_unknown, lacks_hop}
use Rattle.standard.specs.Ordered.{remove}
use Rattle.standard.specs.Route.{route_key}
use Rattle.route_table.specs.declared.Routes.{Routes}
use Rattle.route_table.specs.Lent.{routes_of, Becomes}
use Rattle.route_calls.specs.declared.Checked.{Checked}
use Rattle.route_calls.specs.declared.Checked.TheVariants.{Sound, UnknownHop, Orphan}
use Rattle.types.specs.declared.Refusal.{Refusal}

-- an answer, and the rows after it
pub record RouteStep : Type 0 where
  pub answer : Result Unit Refusal
  pub rows : List RouteEntry

-- the rows that a call would leave, where 64 places hold them; else the old ones
unfoldable pub step_to : List RouteEntry → List RouteEntry → RouteStep
step_to old xs = cond (leb (length xs) 64) (record { answer = Ok tt; rows = xs }) (record { answer = Err RouteTableFull; rows = old })

-- a step's answer, and what is lent with its rows
pub record Leaves (old new : Routes) (answer : Result Unit Refusal) (x : RouteStep) : Type 0 where
  pub said : answer ≡ x.answer
  pub left : Becomes old new x.rows

-- whether there was a route under k, and what is lent without it
pub record LeavesWithout (old new : Routes) (removed : Bool) (k : ℕ) : Type 0 where
  pub said : removed ≡ has_route k (routes_of old)
  pub left : Becomes old new (remove route_key k (routes_of old))

-- a hop that is not known is told apart from no route
abbrev pub hop_answer : Option Nwk → Result (Option Nwk) Refusal
hop_answer None = Ok None
hop_answer (Some hop) = cond (is_unknown hop) (Err UnknownNextHop) (Ok (Some hop))

-- a faulty route's kind of fault, and its destination
abbrev pub fault_of : RouteEntry → Checked
fault_of e = cond (lacks_hop e) (UnknownHop e.destination) (Orphan e.destination)

abbrev pub checked_by : Option RouteEntry → Checked
checked_by None = Sound
checked_by (Some e) = fault_of e
