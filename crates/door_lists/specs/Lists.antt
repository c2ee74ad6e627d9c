-- Lists at the door for C. One that goes out has a place for its total and 64 places for each number of its elements, 0 after the last of them;
-- one that is given is as many numbers as its caller says.
-- Document 01, "How each place should look": "a definition gives this paper's number and values for each of its cases"; "Refusal numbers": 8,
-- "a given list passes its capacity".
-- Assumes nothing.
use Rattle.std.specs.Prelude.{ℕ, cond, List, map, ◌≡◌, ltb, length}
use Rattle.types.specs.declared.Eui64.{Eui64}
use Rattle.types.specs.declared.Nwk.{Nwk}
use Rattle.neighbor_queries.specs.declared.Child.{Child}
use Rattle.neighbor_queries.specs.declared.LinkStatus.{LinkStatus}
use Rattle.neighbor_queries.specs.declared.ChildList.{ChildList}
use Rattle.neighbor_queries.specs.declared.Eui64List.{Eui64List}
use Rattle.neighbor_queries.specs.declared.NwkList.{NwkList}
use Rattle.neighbor_queries.specs.declared.LinkStatusList.{LinkStatusList}
use Rattle.neighbor_queries.specs.Lists.{eui_list}

-- the numbers of an element
abbrev pub name_number : Eui64 → ℕ
name_number x = x.0

abbrev pub address_number : Nwk → ℕ
address_number x = x.0

abbrev pub child_name : Child → ℕ
child_name x = x.eui64.0

abbrev pub child_address : Child → ℕ
child_address x = x.network_address.0

abbrev pub status_address : LinkStatus → ℕ
status_address x = x.address.0

abbrev pub status_incoming : LinkStatus → ℕ
status_incoming x = x.incoming_cost

abbrev pub status_outgoing : LinkStatus → ℕ
status_outgoing x = x.outgoing_cost

-- 64 places
abbrev pub Places64 : List ℕ → Type 0
Places64 places = length places ≡ 64

-- the places of a list of addresses of one kind: what they hold, what a list writes there, and that they are 64
pub record AddressesPlaces : Type 0 where
  pub total : ℕ
  pub addresses : List ℕ

abbrev pub addresses_at : ℕ → List ℕ → AddressesPlaces
addresses_at total addresses = record { total = total; addresses = addresses }

abbrev pub names_out : Eui64List → AddressesPlaces
names_out l = addresses_at l.count (map name_number l.addresses)

abbrev pub addresses_out : NwkList → AddressesPlaces
addresses_out l = addresses_at l.count (map address_number l.addresses)

abbrev pub AddressesRoom : AddressesPlaces → Type 0
AddressesRoom p = Places64 p.addresses

-- the same of a list of children, each by both its addresses
pub record ChildrenPlaces : Type 0 where
  pub total : ℕ
  pub names : List ℕ
  pub addresses : List ℕ

abbrev pub children_at : ℕ → List ℕ → List ℕ → ChildrenPlaces
children_at total names addresses = record { total = total; names = names; addresses = addresses }

abbrev pub children_out : ChildList → ChildrenPlaces
children_out l = children_at l.count (map child_name l.children) (map child_address l.children)

abbrev pub ChildrenRoom : ChildrenPlaces → Type 0
ChildrenRoom p = Places64 p.names × Places64 p.addresses

-- and of a list of link statuses
pub record StatusesPlaces : Type 0 where
  pub total : ℕ
  pub addresses : List ℕ
  pub incoming : List ℕ
  pub outgoing : List ℕ

abbrev pub statuses_at : ℕ → List ℕ → List ℕ → List ℕ → StatusesPlaces
statuses_at total addresses incoming outgoing = record { total = total; addresses = addresses; incoming = incoming; outgoing = outgoing }

abbrev pub statuses_out : LinkStatusList → StatusesPlaces
statuses_out l = statuses_at l.count (map status_address l.statuses) (map status_incoming l.statuses) (map status_outgoing l.statuses)

abbrev pub StatusesRoom : StatusesPlaces → Type 0
StatusesRoom p = Places64 p.addresses × Places64 p.incoming × Places64 p.outgoing

-- numbers that are given, as extended addresses: as many as there are numbers, the first 64 of them in their places, so that a list of more than 64
-- is refused by its count
abbrev pub name : ℕ → Eui64
name n = record { 0 = n }

abbrev pub given : List ℕ → Eui64List
given numbers = eui_list (map name numbers)

-- how many places n numbers fill
abbrev pub filled : ℕ → ℕ
filled n = cond (ltb 64 n) 64 n
