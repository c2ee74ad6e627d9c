-- A loop that changes every entry in use and leaves the keys: at each turn the rest of the changes, made now, gives them all;
-- at the end the table holds its rows changed.
use Prim.Native.Nat.{ℕ, ◌+◌, ◌<◌, ◌≤◌}
use native.Mathlib.Omega.{arith}
use mathlib.Core.List.{List, map}
use mathlib.Core.Path.{◌≡◌, refl, sym, ap, ◌∙◌}
use lib.ListN.{length, take, get_or, set, length-set}
use Rattle.flat_map.specs.Rows.{map_first, map_from}
use Rattle.flat_map.specs.Table.{Formed, Holds}
use Rattle.flat_map.proofs.Rows.{map-step, map-end}
use Rattle.flat_map.proofs.Table.{changed}

-- the entries before i are changed, those from i on are as they were, and so are keys and count
pub record Changing {E : Type 0} (cap : ℕ) (g : E → E) (keys₀ : List ℕ) (entries₀ : List E) (count₀ : ℕ) (keys : List ℕ) (entries : List E) (count i : ℕ) : Type 0 where
  pub places : length entries ≡ cap
  pub same_keys : keys ≡ keys₀
  pub same_count : count ≡ count₀
  pub rest : map_from g i count₀ entries ≡ map_first g count₀ entries₀

module _ {E : Type 0} (cap : ℕ) (key_of : E → ℕ) (blank : E) (g : E → E) (keys₀ : List ℕ) (entries₀ : List E) (count₀ : ℕ) (f : Formed cap key_of blank keys₀ entries₀ count₀) where
  pub change-start : Changing cap g keys₀ entries₀ count₀ keys₀ entries₀ count₀ 0
  change-start = record { places = f.entry-places; same_keys = refl; same_count = refl; rest = refl }

  module _ (keys : List ℕ) (entries : List E) (count i : ℕ) (s : Changing cap g keys₀ entries₀ count₀ keys entries count i) where
    pub change-step : (e : E) → i < count₀ → e ≡ g (get_or entries i blank) → Changing cap g keys₀ entries₀ count₀ keys (set entries i e) count (i + 1)
    change-step e l q = record {
      places = length-set entries i e ∙ s.places;
      same_keys = s.same_keys;
      same_count = s.same_count;
      rest =
          ap (λ (x : E). map_from g (i + 1) count₀ (set entries i x)) q
          ∙ map-step g entries i count₀ blank l (omega (arith, f.small, s.places))
          ∙ s.rest;
    }

    pub change-end : ((x : E) → key_of (g x) ≡ key_of x) → count₀ ≤ i → Holds cap key_of blank keys entries count (map g (take count₀ entries₀))
    change-end same l =
        let h = changed cap key_of blank keys₀ entries₀ count₀ f g same in
        record {
          keys-are = s.same_keys ∙ h.keys-are;
          entries-are = sym (map-end g entries i count₀ l) ∙ s.rest ∙ h.entries-are;
          count-is = s.same_count ∙ h.count-is;
        }
