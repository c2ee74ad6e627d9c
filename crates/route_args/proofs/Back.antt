-- A many-to-one field and a status are read back from their numbers.
-- Assumes nothing.
use mathlib.Core.Path.{◌≡◌, refl}
use Rattle.standard.specs.declared.ManyToOne.{ManyToOne}
use Rattle.standard.specs.declared.ManyToOne.TheVariants.{NotManyToOne, SenderSupportsRouteRecordTable, SenderDoesntSupportRouteRecordTable, Reserved}
use Rattle.standard.specs.declared.Status.{Status}
use Rattle.standard.specs.declared.Status.TheVariants.{Active, DiscoveryUnderway, DiscoveryFailed, Inactive}
use Rattle.standard.specs.Numbers.{many_to_one_number, status_number}
use Rattle.route_args.specs.Read.{many_to_one_of, status_of}

pub many-to-one-back : (m : ManyToOne) → many_to_one_of (many_to_one_number m) ≡ m
unfolding many_to_one_of
many-to-one-back NotManyToOne = refl
many-to-one-back SenderSupportsRouteRecordTable = refl
many-to-one-back SenderDoesntSupportRouteRecordTable = refl
many-to-one-back Reserved = refl

pub status-back : (s : Status) → status_of (status_number s) ≡ s
unfolding status_of
status-back Active = refl
status-back DiscoveryUnderway = refl
status-back DiscoveryFailed = refl
status-back Inactive = refl
