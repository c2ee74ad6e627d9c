-- The device type and the relationship of a number. A number past the last gives the last.
-- 05-3474, table 3-75.
-- Assumes nothing.
use Rattle.std.specs.Prelude.{ℕ, min, List, [], ◌∷◌, get_or}
use Rattle.neighbor_table.specs.declared.NwkDeviceType.{NwkDeviceType}
use Rattle.neighbor_table.specs.declared.NwkDeviceType.TheVariants.{Coordinator, Router, EndDevice}
use Rattle.neighbor_table.specs.declared.Relationship.{Relationship}
use Rattle.neighbor_table.specs.declared.Relationship.TheVariants.{Parent, Child, Sibling, NoneOfTheAbove, PreviousChild, UnauthenticatedChild, UnauthorizedChildWithRelayAllowed, LostChild, AddressConflictChild, BackboneMeshSibling}

-- the device types in the order of their numbers
abbrev pub device_types : List NwkDeviceType
device_types = Coordinator ∷ Router ∷ EndDevice ∷ []

abbrev pub device_type_of : ℕ → NwkDeviceType
device_type_of n = get_or device_types (min n 2) Coordinator

-- the relationships in the order of their numbers
abbrev pub relationships : List Relationship
relationships = Parent ∷ Child ∷ Sibling ∷ NoneOfTheAbove ∷ PreviousChild ∷ UnauthenticatedChild ∷ UnauthorizedChildWithRelayAllowed ∷ LostChild ∷ AddressConflictChild ∷ BackboneMeshSibling ∷ []

abbrev pub relationship_of : ℕ → Relationship
relationship_of n = get_or relationships (min n 9) Parent
