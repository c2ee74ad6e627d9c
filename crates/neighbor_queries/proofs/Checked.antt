-- What a test that came out one way picks; and a look-up by a filter finds a neighbour exactly where one fits.
use Rattle.std.specs.Prelude.{Option, Some, None}
use mathlib.Core.Bool.{Bool, true, false, cond}
use mathlib.Core.List.{List}
use mathlib.Core.Path.{◌≡◌, refl, sym}
use Rattle.standard.specs.Query.{first, some_fits, is_there}
use Rattle.flat_map.proofs.Filter.{some-none, some_first}
use Rattle.neighbor_table.specs.declared.NeighborEntry.{NeighborEntry}

pub picks_first : {A : Type 0} {b : Bool} (x y : A) → b ≡ true → cond b x y ≡ x
picks_first x y e = rw e

pub picks_second : {A : Type 0} {b : Bool} (x y : A) → b ≡ false → cond b x y ≡ y
picks_second x y e = rw e

pub found-fits : (fits : NeighborEntry → Bool) (xs : List NeighborEntry) → is_there (first fits xs) ≡ some_fits fits xs
found-fits fits xs = go (first fits xs) refl where
  go : (o : Option NeighborEntry) → first fits xs ≡ o → is_there o ≡ some_fits fits xs
  go None q = sym (some-none fits xs q)
  go (Some e) q = sym (some_first fits xs e q)
