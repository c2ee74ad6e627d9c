-- A kind's number gives that kind back. Case by case.
use mathlib.Core.Path.{◌≡◌, refl}
use Rattle.neighbor_table.specs.declared.NwkDeviceType.{NwkDeviceType}
use Rattle.neighbor_table.specs.declared.NwkDeviceType.TheVariants.{Coordinator, Router, EndDevice}
use Rattle.neighbor_table.specs.declared.Relationship.{Relationship}
use Rattle.neighbor_table.specs.declared.Relationship.TheVariants.{Parent, Child, Sibling, NoneOfTheAbove, PreviousChild, UnauthenticatedChild, UnauthorizedChildWithRelayAllowed, LostChild, AddressConflictChild, BackboneMeshSibling}
use Rattle.neighbor_table.specs.Entry.{device_type_number, relationship_number}
use Rattle.neighbor_values.specs.Kinds.{device_type_of, relationship_of}

pub device-type-back : (d : NwkDeviceType) → device_type_of (device_type_number d) ≡ d
device-type-back Coordinator = refl
device-type-back Router = refl
device-type-back EndDevice = refl

pub relationship-back : (r : Relationship) → relationship_of (relationship_number r) ≡ r
relationship-back Parent = refl
relationship-back Child = refl
relationship-back Sibling = refl
relationship-back NoneOfTheAbove = refl
relationship-back PreviousChild = refl
relationship-back UnauthenticatedChild = refl
relationship-back UnauthorizedChildWithRelayAllowed = refl
relationship-back LostChild = refl
relationship-back AddressConflictChild = refl
relationship-back BackboneMeshSibling = refl
