-- The cost of a link by its quality (05-3474, 3.6.3.1). Document 01, "Decision (001) and neighbours (003)": "Link quality to cost:
-- 0..16 is 7, 17..32 is 6, 33..64 is 5, 65..96 is 4, 97..128 is 3, 129..192 is 2, 193..255 is 1."
-- Assumes nothing.
use Rattle.std.specs.Prelude.{ℕ, ◌≤◌, cond, List, [], ◌∷◌, leb, ltb, length}
use Rattle.standard.specs.Median.{median_of}

-- the qualities above the band before it up to `bound`, at `cost`
pub record Band : Type 0 where
  pub bound : ℕ
  pub cost : ℕ

infix 80 up_to◌costs◌
abbrev pub up_to◌costs◌ : ℕ → ℕ → Band
up_to q costs c = record { bound = q; cost = c }

-- the cost of the first band whose bound is at or above the quality; 0, an unknown quality's cost, above all bands
abbrev pub cost_in : List Band → ℕ → ℕ
cost_in [] quality = 0
cost_in (b ∷ bs) quality = cond (leb quality b.bound) b.cost (cost_in bs quality)

-- the first radio's scale
abbrev pub first_radio : List Band
first_radio =
    up_to 16 costs 7
    ∷ up_to 32 costs 6
    ∷ up_to 64 costs 5
    ∷ up_to 96 costs 4
    ∷ up_to 128 costs 3
    ∷ up_to 192 costs 2
    ∷ up_to 255 costs 1
    ∷ []

-- the cost of a link by the first radio's scale
abbrev pub link_cost : ℕ → ℕ
link_cost quality = cost_in first_radio quality

-- "With fewer than three samples the incoming cost is 0"; with three it is their median's
abbrev pub incoming_cost : List ℕ → ℕ
incoming_cost samples = cond (ltb (length samples) 3) 0 (link_cost (median_of samples))

-- each cost is from 1 to `limit` and at most the cost before it
abbrev pub FallsFrom : ℕ → List Band → Type 0
FallsFrom limit [] = Unit {0}
FallsFrom limit (b ∷ bs) = (1 ≤ b.cost) × (b.cost ≤ limit) × FallsFrom b.cost bs

-- the last band goes at least up to `top`
abbrev pub Reaches : ℕ → List Band → Type 0
Reaches top [] = ⊥
Reaches top (b ∷ []) = top ≤ b.bound
Reaches top (b ∷ c ∷ bs) = Reaches top (c ∷ bs)

-- what every radio's scale keeps to: costs from 1 to 7 that fall as the quality rises, and one for every byte
pub record Scale (bands : List Band) : Type 0 where
  pub falling : FallsFrom 7 bands
  pub whole : Reaches 255 bands
