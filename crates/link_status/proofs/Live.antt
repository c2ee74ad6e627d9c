-- A live link to an address is found by its number so: a number is odd where the link is live, and doubled numbers are equal
-- only where the numbers are.
use Prim.Native.Nat.{ℕ, ◌+◌, ◌*◌, ◌<◌, ◌≤◌}
use native.Mathlib.Omega.{arith}
use mathlib.Core.Bool.{Bool, true, false, cond, ◌&&◌, ◌||◌, false≢true}
use mathlib.Core.List.{List, [], ◌∷◌, ◌++◌, map, append_assoc}
use mathlib.Core.Path.{◌≡◌, refl, sym, ap, ◌∙◌}
use native.Mathlib.Numerals.{add-one}
use lib.Dec.{eqb}
use lib.ListN.{length, take, drop, get_or, set}
use lib.Seq.{take-suc-set}
use Rattle.types.specs.declared.Nwk.{Nwk}
use Rattle.standard.specs.Query.{some_fits}
use Rattle.standard.proofs.Tells.{tells-one, tells-true, tells_both, tells-eq, tells-so}
use Rattle.flat_map.proofs.Query.{rest-step, rest-done}
use Rattle.neighbor_table.specs.declared.NeighborEntry.{NeighborEntry}
use Rattle.neighbor_queries.specs.Filter.{fits, is_live}
use Rattle.neighbor_queries.specs.declared.Filter.TheVariants.{LiveLinkAt}
use Rattle.link_status.specs.Statuses.{is_live_at, live_number, among}

-- the number of a live link to an address
same_number : (m a : ℕ) (b : Bool) → eqb (cond b (m * 2 + 1) (m * 2)) (a * 2 + 1) ≡ (eqb m a && b)
same_number m a true = tells-one (tells-so (λ e. (omega arith, refl)) (λ p. omega (arith, p.0)) (tells-eq (m * 2 + 1) (a * 2 + 1))) (tells_both (tells-eq m a) (tells-true true))
same_number m a false = tells-one (tells-so (λ e. absurd (omega arith)) (λ p. absurd (false≢true p.1)) (tells-eq (m * 2) (a * 2 + 1))) (tells_both (tells-eq m a) (tells-true false))

pub among-live : (nwk : Nwk) (xs : List NeighborEntry) → among (nwk.0 * 2 + 1) (map live_number xs) ≡ is_live_at xs nwk
unfolding some_fits fits
among-live nwk [] = refl
among-live nwk (e ∷ xs) =
    ap (λ (b : Bool). b || among (nwk.0 * 2 + 1) (map live_number xs)) (same_number e.network_address.0 nwk.0 (is_live e))
    ∙ ap (λ (b : Bool). fits (LiveLinkAt nwk) e || b) (among-live nwk xs)

-- a number at a place is looked for, and then the rest
or-rest : (a b c : Bool) → ((a || b) || c) ≡ (a || (b || c))
or-rest true b c = refl
or-rest false b c = refl

among_next : (x y : ℕ) (ys : List ℕ) → among x (y ∷ ys) ≡ (eqb y x || among x ys)
unfolding some_fits
among_next x y ys = refl

module _ (x : ℕ) (numbers : List ℕ) (i : ℕ) (found : Bool) where
  pub among-step : i < length numbers → ((found || eqb (get_or numbers i 0) x) || among x (drop (i + 1) numbers)) ≡ (found || among x (drop i numbers))
  among-step h =
      or-rest found _ _
      ∙ ap (λ (b : Bool). found || b) (sym (among_next x (get_or numbers i 0) (drop (i + 1) numbers)) ∙ ap (among x) (sym (rest-step numbers i 0 h)))

  pub among-done : length numbers ≤ i → (found || among x (drop i numbers)) ≡ found
  unfolding some_fits
  among-done h = ap (λ (l : List ℕ). found || among x l) (rest-done numbers i h) ∙ or-none found where
    or-none : (a : Bool) → (a || false) ≡ a
    or-none true = refl
    or-none false = refl

-- the numbers written so far, and those of the entries that are left
module _ {E : Type 0} (f : E → ℕ) (numbers : List ℕ) (i : ℕ) (whole : List ℕ) where
  pub numbered : (v : ℕ) (e : E) (rows rest : List E) → i < length numbers → v ≡ f e → rows ≡ e ∷ rest → take i numbers ++ map f rows ≡ whole
      → take (i + 1) (set numbers i v) ++ map f rest ≡ whole
  numbered v e rows rest h p q r =
      ap (λ (l : List ℕ). l ++ map f rest) (ap (λ (k : ℕ). take k (set numbers i v)) (add-one i) ∙ take-suc-set numbers i v h)
      ∙ append_assoc (take i numbers) (v ∷ []) (map f rest)
      ∙ ap (λ (l : List ℕ). take i numbers ++ l) (ap (λ (y : ℕ). y ∷ map f rest) p ∙ sym (ap (map f) q))
      ∙ r
