-- The refusals are numbered from 1 to 11 and no two share a number, since the list of all refusals in the order of their
-- numbers gives each one back.
use Prim.Native.Nat.{ℕ, ◌-◌, ◌≤◌}
use mathlib.Core.List.{List, [], ◌∷◌}
use mathlib.Core.Path.{◌≡◌, refl, sym, ap, ◌∙◌}
use native.Mathlib.Omega.{arith}
use lib.ListN.{get_or}
use Rattle.types.specs.declared.Refusal.{Refusal}
use Rattle.types.specs.declared.Refusal.TheVariants.{RouteTableFull, DiscoveryTableFull, RecordTableFull, NeighborTableFull, TimePastEnd, UnknownNextHop, EmptySourceRoute, ListTooLong, StoreDisagrees, StateIllFormed, LinkCostTooHigh}
use Rattle.types.specs.Refusal.{refusal_number}

abbrev all : List Refusal
all =
    RouteTableFull
    ∷ DiscoveryTableFull
    ∷ RecordTableFull
    ∷ NeighborTableFull
    ∷ TimePastEnd
    ∷ UnknownNextHop
    ∷ EmptySourceRoute
    ∷ ListTooLong
    ∷ StoreDisagrees
    ∷ StateIllFormed
    ∷ LinkCostTooHigh
    ∷ []

-- the refusal with a number
abbrev numbered : ℕ → Refusal
numbered n = get_or all (n - 1) RouteTableFull

given_back : (r : Refusal) → numbered (refusal_number r) ≡ r
given_back RouteTableFull = refl
given_back DiscoveryTableFull = refl
given_back RecordTableFull = refl
given_back NeighborTableFull = refl
given_back TimePastEnd = refl
given_back UnknownNextHop = refl
given_back EmptySourceRoute = refl
given_back ListTooLong = refl
given_back StoreDisagrees = refl
given_back StateIllFormed = refl
given_back LinkCostTooHigh = refl

pub one_number : (r s : Refusal) → refusal_number r ≡ refusal_number s → r ≡ s
one_number r s e = sym (given_back r) ∙ ap numbered e ∙ given_back s

pub from-1-to-11 : (r : Refusal) → (1 ≤ refusal_number r) × (refusal_number r ≤ 11)
from-1-to-11 RouteTableFull = omega arith
from-1-to-11 DiscoveryTableFull = omega arith
from-1-to-11 RecordTableFull = omega arith
from-1-to-11 NeighborTableFull = omega arith
from-1-to-11 TimePastEnd = omega arith
from-1-to-11 UnknownNextHop = omega arith
from-1-to-11 EmptySourceRoute = omega arith
from-1-to-11 ListTooLong = omega arith
from-1-to-11 StoreDisagrees = omega arith
from-1-to-11 StateIllFormed = omega arith
from-1-to-11 LinkCostTooHigh = omega arith
