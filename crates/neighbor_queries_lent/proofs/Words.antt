-- What the numbers in a link word say of the device type and the relationship.
use Prim.Native.Nat.{ℕ, zero, suc, ◌<◌, ◌≤◌}
use native.Mathlib.Nat.{min-eq_right}
use native.Mathlib.Omega.{arith}
use mathlib.Core.Bool.{◌||◌}
use mathlib.Core.Path.{◌≡◌, refl}
use borrow.Author.Tests.{ne_eqb}
use lib.Dec.{eqb, leb}
use Rattle.neighbor_table.specs.Entry.{is_router, is_end_device, is_child_of}
use Rattle.neighbor_columns.specs.Kinds.{device_type_of, relationship_of}

pub end-device-number : (n : ℕ) → n < 4 → leb 2 n ≡ is_end_device (device_type_of n)
end-device-number zero h = refl
end-device-number (suc zero) h = refl
end-device-number (suc (suc zero)) h = refl
end-device-number (suc (suc (suc zero))) h = refl
end-device-number (suc (suc (suc (suc n)))) h = absurd (omega arith)

pub router-number : (n : ℕ) → n < 4 → eqb n 1 ≡ is_router (device_type_of n)
router-number zero h = refl
router-number (suc zero) h = refl
router-number (suc (suc zero)) h = refl
router-number (suc (suc (suc zero))) h = refl
router-number (suc (suc (suc (suc n)))) h = absurd (omega arith)

-- a number past the last is no child's
past : (n : ℕ) → 9 ≤ n → eqb n 1 || eqb n 5 ≡ is_child_of (relationship_of n)
past n h = rw (ne_eqb n 1 (λ q. omega (arith, h, q)), ne_eqb n 5 (λ q. omega (arith, h, q)), min-eq_right h)

pub child-number : (n : ℕ) → eqb n 1 || eqb n 5 ≡ is_child_of (relationship_of n)
child-number zero = refl
child-number (suc zero) = refl
child-number (suc (suc zero)) = refl
child-number (suc (suc (suc zero))) = refl
child-number (suc (suc (suc (suc zero)))) = refl
child-number (suc (suc (suc (suc (suc zero))))) = refl
child-number (suc (suc (suc (suc (suc (suc zero)))))) = refl
child-number (suc (suc (suc (suc (suc (suc (suc zero))))))) = refl
child-number (suc (suc (suc (suc (suc (suc (suc (suc zero)))))))) = refl
child-number (suc (suc (suc (suc (suc (suc (suc (suc (suc n))))))))) = past (suc (suc (suc (suc (suc (suc (suc (suc (suc n))))))))) (omega arith)
