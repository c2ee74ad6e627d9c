-- A pair of an address and an id as one number: document 01, "a pair key orders by address and then id".
-- Ids are bytes, so 256 times the address leaves room for them.
use Prim.Native.Nat.{ℕ, ◌<◌, ◌≤◌}
use mathlib.Core.Path.{◌≡◌}
use native.Mathlib.Omega.{arith}
use Rattle.types.specs.declared.Nwk.{Nwk}
use Rattle.standard.specs.Discovery.{pair_key}

module _ (a b : Nwk) (i j : ℕ) (small : i < 256) (too : j < 256) where
  pub address-first : a.0 < b.0 → pair_key a i < pair_key b j
  address-first h = omega arith

  pub then_id : a.0 ≡ b.0 → i < j → pair_key a i < pair_key b j
  then_id e h = omega arith

  -- and no other pairs are so
  pub no_other : pair_key a i < pair_key b j → (a.0 ≤ b.0) × (a.0 ≡ b.0 → i < j)
  no_other h = (omega arith, λ e. omega arith)

  pub one-pair : pair_key a i ≡ pair_key b j → (a.0 ≡ b.0) × (i ≡ j)
  one-pair h = (omega arith, omega arith)
