-- What a command whose costs fit says of each of its statuses.
use Prim.Native.Nat.{ℕ, suc, ◌<◌, ◌≤◌}
use native.Mathlib.Omega.{arith}
use mathlib.Core.Bool.{Bool, true, false}
use mathlib.Core.List.{List, [], ◌∷◌}
use mathlib.Core.Path.{◌≡◌, refl, sym, ◌∙◌}
use Rattle.std.specs.Bool.{MatchBool}
use Rattle.std.specs.List.{AllWithin, HoldsAt}
use lib.ListN.{length, get_or}
use Rattle.standard.proofs.Tells.{tells_both, tells-le}
use Rattle.flat_map.specs.Table.{every}
use Rattle.flat_map.proofs.Every.{both_so, every-at}
use Rattle.neighbor_queries.specs.declared.LinkStatus.{LinkStatus}
use Rattle.link_status.specs.Statuses.{costs_fit}

pub costs-small : (status : LinkStatus) → costs_fit status ≡ true → (status.incoming_cost ≤ 7) × (status.outgoing_cost ≤ 7)
unfolding costs_fit
costs-small status e = (tells_both (tells-le _ 7) (tells-le _ 7)).fact e

-- a test that each place of a list passes, or that one does not
each_so : {E : Type 0} (test : E → Bool) (xs : List E) (d : E) → ((i : ℕ) → i < length xs → test (get_or xs i d) ≡ true) → every test xs ≡ true
each_so test [] d h = refl
each_so test (x ∷ xs) d h = both_so (h 0 (omega arith)) (each_so test xs d (λ i l. h (suc i) (omega (arith, l))))

-- what `all` answers is whether every element passes
pub all-every : {E : Type 0} (test : E → Bool) (xs : List E) (d : E) (r : Bool)
    → MatchBool r (AllWithin (λ x. test x ≡ true) xs 0 (length xs)) ((k : ℕ) × (k < length xs) × HoldsAt (λ x. test x ≡ false) xs k) → r ≡ every test xs
all-every test xs d true h = sym (each_so test xs d (λ i l. h i d (omega arith) l))
all-every test xs d false (k, l, q) = go (every test xs) refl where
  go : (b : Bool) → every test xs ≡ b → false ≡ b
  go true e = sym (q d) ∙ every-at test xs k d e l
  go false e = refl
