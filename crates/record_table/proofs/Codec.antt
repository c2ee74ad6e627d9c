-- An entry goes into its two numbers and comes back, since they are its two fields;
-- numbers are clean where the number of relays is in range, and zeros are the blank entry.
use Prim.Native.Nat.{ℕ, zero}
use native.Mathlib.Omega.{arith}
use mathlib.Core.List.{List, [], ◌∷◌}
use mathlib.Core.Path.{◌≡◌, refl}
use lib.ListN.{length}
use Rattle.standard.specs.Record.{record_key}
use Rattle.columns.specs.Codec.{Codec}
use Rattle.record_table.specs.Codec.{record_numbers, record_of, Clean, InRange}
use Rattle.record_table.specs.Table.{blank_record}

forth : (v : List ℕ) → length v ≡ 2 → record_numbers (record_of v) ≡ v
forth [] h = absurd (omega arith)
forth (a ∷ []) h = absurd (omega arith)
forth (a ∷ b ∷ []) h = refl
forth (a ∷ b ∷ x ∷ v) h = absurd (omega arith)

pub codec : Codec 2 record_key blank_record record_of record_numbers Clean InRange
codec = record {
  back = λ e r. refl;
  forth = λ v h c. forth v h;
  wide = λ e. refl;
  key-first = λ e. refl;
  own_key = λ v c. refl;
  zero = refl;
  clean = λ e r. r;
  clean-zero = omega arith;
  within = λ v c. c;
}
