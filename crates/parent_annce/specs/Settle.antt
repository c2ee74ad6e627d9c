-- A list of addresses gone through in its order, each by what the table holds then: a duplicate is claimed twice and removed once.
-- 05-3474, sections 2.4.4.2.22.1 and 2.4.4.2.22.2. Only "end device" is tested, as in the Rust.
-- Assumes nothing.
use Rattle.std.specs.Prelude.{Bool, cond, ◌&&◌, List, [], ◌∷◌, ◌++◌, Option, Some, None}
use Rattle.types.specs.declared.Eui64.{Eui64}
use Rattle.standard.specs.Ordered.{lookup, remove}
use Rattle.neighbor_table.specs.declared.NeighborEntry.{NeighborEntry}
use Rattle.neighbor_table.specs.Entry.{neighbor_key, is_end_device}
use Rattle.neighbor_queries.specs.declared.Child.{Child}

-- how far the list has been gone through
pub record Settling : Type 0 where
  pub rows : List NeighborEntry
  pub claimed : List Eui64
  pub removed : List Child

-- an end device that has sent a keepalive is claimed back
abbrev pub claim : Eui64 → Settling → Settling
claim eui64 x = record { rows = x.rows; claimed = x.claimed ++ (eui64 ∷ []); removed = x.removed }

-- any other goes
abbrev pub drop_one : Eui64 → NeighborEntry → Settling → Settling
drop_one eui64 e x = record {
  rows = remove neighbor_key eui64.0 x.rows;
  claimed = x.claimed;
  removed = x.removed ++ (record { eui64 = eui64; network_address = e.network_address } ∷ []);
}

-- where no end device has the address, nothing
abbrev pub settle_in : Bool → Eui64 → Option NeighborEntry → Settling → Settling
settle_in confirm eui64 None x = x
settle_in confirm eui64 (Some e) x = cond (is_end_device e.device_type) (cond (confirm && e.keepalive_received) (claim eui64 x) (drop_one eui64 e x)) x

unfoldable pub settle_one : Bool → Eui64 → Settling → Settling
settle_one confirm eui64 x = settle_in confirm eui64 (lookup neighbor_key eui64.0 x.rows) x

abbrev pub settle_all : Bool → List Eui64 → Settling → Settling
settle_all confirm [] x = x
settle_all confirm (a ∷ rest) x = settle_all confirm rest (settle_one confirm a x)

abbrev pub start : List NeighborEntry → Settling
start xs = record { rows = xs; claimed = []; removed = [] }
