-- Arguments read from numbers. A place past the last number reads 0, and a number too large for its kind is cut to it: what is no call is kept out before.
-- Assumes nothing.
use Rattle.std.specs.Prelude.{ℕ, zero, suc, ◌+◌, ◌%◌, Bool, not, List, [], ◌∷◌, eqb, get_or}
use Rattle.types.specs.declared.Nwk.{Nwk}
use Rattle.types.specs.declared.Eui64.{Eui64}

abbrev pub number_at : List ℕ → ℕ → ℕ
number_at args i = get_or args i 0

abbrev pub byte_at : List ℕ → ℕ → ℕ
byte_at args i = number_at args i % 256

-- a number of 16 bits
abbrev pub short_at : List ℕ → ℕ → ℕ
short_at args i = number_at args i % 65536

-- a number of 32 bits
abbrev pub counter_at : List ℕ → ℕ → ℕ
counter_at args i = number_at args i % 4294967296

abbrev pub flag_at : List ℕ → ℕ → Bool
flag_at args i = not (eqb (number_at args i) 0)

abbrev pub nwk_at : List ℕ → ℕ → Nwk
nwk_at args i = record { 0 = short_at args i }

abbrev pub eui64_at : List ℕ → ℕ → Eui64
eui64_at args i = record { 0 = number_at args i }

-- what f gives at n places, from place i on
unfoldable pub listed : {A : Type 0} → (ℕ → A) → ℕ → ℕ → List A
listed f i zero = []
listed f i (suc n) = f i ∷ listed f (i + 1) n
