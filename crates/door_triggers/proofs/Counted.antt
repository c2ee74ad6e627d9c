-- A state with another number in one of its trigger counters is the same where the numbers are.
use Prim.Native.Nat.{ℕ}
use mathlib.Core.Path.{◌≡◌, ap}
use Rattle.route_table.specs.Table.{RouteTable}
use Rattle.discovery_table.specs.Table.{DiscoveryTable}
use Rattle.record_table.specs.Table.{RecordTable}
use Rattle.routing.specs.State.{state_of}

module _ (other id : ℕ) (t : RouteTable) (d : DiscoveryTable) (u : RecordTable) (m n : ℕ) (e : m ≡ n) where
  pub errors-left : state_of m other id t d u ≡ state_of n other id t d u
  errors-left = ap (λ (k : ℕ). state_of k other id t d u) e

  pub failures-left : state_of other m id t d u ≡ state_of other n id t d u
  failures-left = ap (λ (k : ℕ). state_of other k id t d u) e
