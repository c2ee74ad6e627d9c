-- The number of each refusal: document 01, "Refusal numbers".
-- Assumes nothing.
use Rattle.std.specs.Prelude.{ℕ}
use Rattle.types.specs.declared.Refusal.{Refusal}
use Rattle.types.specs.declared.Refusal.TheVariants.{RouteTableFull, DiscoveryTableFull, RecordTableFull, NeighborTableFull, TimePastEnd, UnknownNextHop, EmptySourceRoute, ListTooLong, StoreDisagrees, StateIllFormed, LinkCostTooHigh}

abbrev pub refusal_number : Refusal → ℕ
refusal_number RouteTableFull = 1
refusal_number DiscoveryTableFull = 2
refusal_number RecordTableFull = 3
refusal_number NeighborTableFull = 4
refusal_number TimePastEnd = 5
refusal_number UnknownNextHop = 6
refusal_number EmptySourceRoute = 7
refusal_number ListTooLong = 8
refusal_number StoreDisagrees = 9
refusal_number StateIllFormed = 10
refusal_number LinkCostTooHigh = 11
