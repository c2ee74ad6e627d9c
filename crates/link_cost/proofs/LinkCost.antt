-- The first radio's costs keep to what every scale does: never 0, never above 7, and better quality never dearer. Its seven bands
-- meet the condition by computation, and the laws are those of Scale.antt.
use Prim.Native.Nat.{ℕ, ◌≤◌}
use native.Mathlib.Omega.{arith}
use Rattle.standard.specs.LinkCost.{first_radio, link_cost, Scale}
use Rattle.link_cost.proofs.Scale as scale

first-radio : Scale first_radio
first-radio = record { falling = omega arith; whole = omega arith }

pub never-0 : (quality : ℕ) → quality ≤ 255 → 1 ≤ link_cost quality
never-0 = scale.never-0 first_radio first-radio

pub never-above-7 : (quality : ℕ) → link_cost quality ≤ 7
never-above-7 = scale.never-above-7 first_radio first-radio

pub never-dearer : (worse better : ℕ) → worse ≤ better → link_cost better ≤ link_cost worse
never-dearer = scale.never-dearer first_radio first-radio
