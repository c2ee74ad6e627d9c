-- A row filled number by number, and a list read number by number: each turn makes the part that is done one longer,
-- and addresses are the numbers that the row holds.
use Prim.Native.Nat.{ℕ, zero, suc, ◌+◌, ◌-◌, ◌<◌, ◌≤◌}
use native.Mathlib.Nat.{le_of_suc-le-suc, not-suc-le-zero}
use native.Mathlib.Numerals.{add-one}
use native.Mathlib.Omega.{arith}
use mathlib.Core.List.{List, [], ◌∷◌, ◌++◌, map}
use mathlib.Core.Path.{◌≡◌, refl, sym, ap, ◌∙◌}
use lib.ListN.{length, take, drop, get_or, set, length-set, length-map, length-drop, get_or-map}
use lib.Seq.{take-suc, take-suc-set, take_all, get_or-take, get_or-drop, length-take-le}
use Rattle.types.specs.declared.Nwk.{Nwk}
use Rattle.standard.specs.declared.RelayList.{RelayList}
use Rattle.standard.specs.Route.{nwk}
use Rattle.flat_map.specs.Rows.{pad}
use Rattle.flat_map.proofs.Rows.{cons, take-pad, getD-pad, getD-blank}
use Rattle.relay_store.specs.Store.{number, row_of, relays_of, relay_list}

module _ {A B : Type 0} (f : A → B) where
  -- one more element of a list, mapped into its place
  pub pad-next : (n i : ℕ) (b : B) (d : A) (xs : List A) → i < n → i < length xs
      → set (pad n b (map f (take i xs))) i (f (get_or xs i d)) ≡ pad n b (map f (take (i + 1) xs))
  pad-next n i b d xs h l = rw (add-one i) (go n i xs h l) where
    go : (n i : ℕ) (xs : List A) → i < n → i < length xs → set (pad n b (map f (take i xs))) i (f (get_or xs i d)) ≡ pad n b (map f (take (suc i) xs))
    go zero i xs h l = absurd (not-suc-le-zero h)
    go (suc n) i [] h l = absurd (not-suc-le-zero l)
    go (suc n) zero (x ∷ xs) h l = refl
    go (suc n) (suc i) (x ∷ xs) h l = cons (f x) (go n i xs (le_of_suc-le-suc h) (le_of_suc-le-suc l))

module _ {A : Type 0} where
  -- lists that agree in their first i elements agree in one more, once it is written
  pub same_next : (xs ys : List A) (i : ℕ) (v d : A) → i < length xs → i < length ys → take i xs ≡ take i ys → v ≡ get_or ys i d
      → take (i + 1) (set xs i v) ≡ take (i + 1) ys
  same_next xs ys i v d h l e q =
      rw (add-one i)
      (take-suc-set xs i v h ∙ (λ z. e z ++ (q z ∷ [])) ∙ sym (take-suc ys i d l))

  -- and are equal once that is all of them
  pub same_whole : (xs ys : List A) (n : ℕ) → length xs ≡ n → length ys ≡ n → take n xs ≡ take n ys → xs ≡ ys
  same_whole xs ys n h l e = sym (take_all n xs (omega arith)) ∙ e ∙ take_all n ys (omega arith)

-- what stands in a row that holds a list's relays from a place on
module _ (l : RelayList) (from i : ℕ) (long : length l.addresses ≡ 32) (few : l.count ≤ 32) (h : from ≤ l.count) where
  as_many : length (map number (drop from (relays_of l))) ≡ l.count - from
  as_many = length-map (drop from (relays_of l)) number ∙ omega (arith, length-drop from (relays_of l), length-take-le l.count l.addresses (omega arith))

  pub cell_in : i < l.count - from → get_or (row_of (drop from (relays_of l))) i 0 ≡ number (get_or l.addresses (from + i) (nwk 0))
  cell_in g =
      getD-pad 32 i 0 (map number (drop from (relays_of l))) (omega (arith, as_many)) (omega (arith, as_many))
      ∙ get_or-map number (drop from (relays_of l)) i (nwk 0)
      ∙ ap number (get_or-drop from (relays_of l) i (nwk 0) ∙ get_or-take l.count l.addresses (from + i) (nwk 0) (omega arith))

  pub cell-after : l.count - from ≤ i → get_or (row_of (drop from (relays_of l))) i 0 ≡ 0
  cell-after g = getD-blank 32 i 0 (map number (drop from (relays_of l))) (omega (arith, as_many))

-- numbers as addresses, and addresses as numbers
pub number-nwk : (row : List ℕ) → map number (map nwk row) ≡ row
number-nwk [] = refl
number-nwk (x ∷ row) = cons x (number-nwk row)

pub nwk-number : (relays : List Nwk) → map nwk (map number relays) ≡ relays
nwk-number [] = refl
nwk-number (a ∷ relays) = cons a (nwk-number relays)

pub list-relays : (relays : List Nwk) → length relays ≤ 32 → relays_of (relay_list relays) ≡ relays
unfolding relay_list
list-relays relays h = take-pad 32 (nwk 0) relays h

pub list_count : (relays : List Nwk) → (relay_list relays).count ≡ length relays
unfolding relay_list
list_count relays = refl

-- one number of a row written as it is to be
pub cell-written : (goal row after : List ℕ) (i v : ℕ) → length goal ≡ 32 → after ≡ set row i v → v ≡ get_or goal i 0 → i < 32 → length row ≡ 32 → take i row ≡ take i goal
    → (length after ≡ 32) × (take (i + 1) after ≡ take (i + 1) goal)
cell-written goal row after i v w e q h n s = (
  ap length e ∙ length-set row i v ∙ n,
  ap (take (i + 1)) e ∙ same_next row goal i v 0 (omega arith) (omega arith) s q,
)
