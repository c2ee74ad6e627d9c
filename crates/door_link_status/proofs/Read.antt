-- Statuses read place by place: storing the next one is reading one more, and when all are read, or 31, the places are those of all.
use Prim.Native.Nat.{ℕ, zero, suc, ◌+◌, ◌<◌, ◌≤◌, min}
use native.Mathlib.Nat.{le_of_suc-le-suc, not-suc-le-zero}
use native.Mathlib.Numerals.{add-one}
use native.Mathlib.Omega.{arith}
use mathlib.Core.List.{List, [], ◌∷◌}
use mathlib.Core.Path.{◌≡◌, refl, ◌∙◌}
use lib.ListN.{length, take, get_or, set}
use Rattle.flat_map.specs.Rows.{pad}
use Rattle.flat_map.proofs.Rows.{cons}
use Rattle.neighbor_queries.specs.Lists.{no_status}
use Rattle.link_status.specs.declared.LinkStatusCommand.{LinkStatusCommand}
use Rattle.door_link_status.specs.LinkStatus.{status, statuses, command_with}

one_more : (n i : ℕ) (xs ys zs : List ℕ) → i < n → i < length xs → length ys ≡ length xs → length zs ≡ length xs
    → set (pad n no_status (take i (statuses xs ys zs))) i (status (get_or xs i 0) (get_or ys i 0) (get_or zs i 0)) ≡ pad n no_status (take (suc i) (statuses xs ys zs))
one_more zero i xs ys zs h l p q = absurd (not-suc-le-zero h)
one_more (suc n) i [] ys zs h l p q = absurd (not-suc-le-zero l)
one_more (suc n) i (x ∷ xs) [] zs h l p q = absurd (omega arith)
one_more (suc n) i (x ∷ xs) (y ∷ ys) [] h l p q = absurd (omega arith)
one_more (suc n) zero (x ∷ xs) (y ∷ ys) (z ∷ zs) h l p q = refl
one_more (suc n) (suc i) (x ∷ xs) (y ∷ ys) (z ∷ zs) h l p q =
    cons (status x y z) (one_more n i xs ys zs (le_of_suc-le-suc h) (le_of_suc-le-suc l) (omega arith) (omega arith))

next : (i : ℕ) (xs ys zs : List ℕ) → i < 31 → i < length xs → length ys ≡ length xs → length zs ≡ length xs
    → set (pad 31 no_status (take i (statuses xs ys zs))) i (status (get_or xs i 0) (get_or ys i 0) (get_or zs i 0)) ≡ pad 31 no_status (take (i + 1) (statuses xs ys zs))
next i xs ys zs h l p q = rw (add-one i) (one_more 31 i xs ys zs h l p q)

-- a status stored at the next place of a command
pub stored : (command : LinkStatusCommand) (first last count i : ℕ) (xs ys zs : List ℕ) → command ≡ command_with first last count (take i (statuses xs ys zs))
    → i < 31 → i < length xs → length ys ≡ length xs → length zs ≡ length xs
    → ◌≡◌ {A = LinkStatusCommand}
    (record {
      is_first_frame = command.is_first_frame;
      is_last_frame = command.is_last_frame;
      count = command.count;
      statuses = set command.statuses i (status (get_or xs i 0) (get_or ys i 0) (get_or zs i 0));
    })
    (command_with first last count (take (i + 1) (statuses xs ys zs)))
stored command first last count i xs ys zs e h l p q = λ k. record {
  is_first_frame = (e k).is_first_frame;
  is_last_frame = (e k).is_last_frame;
  count = (e k).count;
  statuses = ((λ k. set (e k).statuses i (status (get_or xs i 0) (get_or ys i 0) (get_or zs i 0))) ∙ next i xs ys zs h l p q) k;
}

-- all that have a place are read
all_read : (n i : ℕ) (xs ys zs : List ℕ) → min (length xs) n ≤ i → pad n no_status (take i (statuses xs ys zs)) ≡ pad n no_status (statuses xs ys zs)
all_read zero i xs ys zs h = refl
all_read (suc n) zero [] ys zs h = refl
all_read (suc n) (suc i) [] ys zs h = refl
all_read (suc n) zero (x ∷ xs) ys zs h = absurd (omega arith)
all_read (suc n) (suc i) (x ∷ xs) [] zs h = refl
all_read (suc n) (suc i) (x ∷ xs) (y ∷ ys) [] h = refl
all_read (suc n) (suc i) (x ∷ xs) (y ∷ ys) (z ∷ zs) h = cons (status x y z) (all_read n i xs ys zs (omega arith))

pub read : (first last count i : ℕ) (xs ys zs : List ℕ) → min (length xs) 31 ≤ i
    → command_with first last count (take i (statuses xs ys zs)) ≡ command_with first last count (statuses xs ys zs)
read first last count i xs ys zs h = λ k. record {
  is_first_frame = (command_with first last count []).is_first_frame;
  is_last_frame = (command_with first last count []).is_last_frame;
  count = count;
  statuses = all_read 31 i xs ys zs h k;
}
