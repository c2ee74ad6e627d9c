-- The relays are copied to the first places and the others are filled with 0: so the places are the relays, padded.
use Prim.Native.Nat.{ℕ, ◌+◌, ◌-◌, ◌<◌, ◌≤◌}
use native.Mathlib.Omega.{arith}
use mathlib.Core.List.{List, ◌++◌}
use mathlib.Core.Logic.{⊎_elim}
use mathlib.Core.Path.{◌≡◌, refl, ap, ◌∙◌}
use lib.ListN.{length, take, drop, get_or, length-append, length-take, length-drop, get_or-append, get_or-eq_default}
use lib.Seq.{take_at, length-take-le}
use Rattle.std.proofs.lemmas.List.{get_or-append_right}
use Rattle.flat_map.specs.Rows.{pad}
use Rattle.flat_map.proofs.Compare.{below_or_not}
use Rattle.flat_map.proofs.Rows.{pad-is}
use Rattle.door_decision.proofs.outcome.copy_relays.Goals as goal

-- zeros after a list pad it
module _ (xs zs rest : List ℕ) (none : length rest ≡ 0) (zero : (j : ℕ) → j < length zs → get_or zs j 0 ≡ 0) where
  after : (k : ℕ) → get_or (zs ++ rest) k 0 ≡ 0
  after k =
      ⊎_elim (λ (h : k < length zs). get_or-append zs rest 0 k h ∙ zero k h)
      (λ (h : length zs ≤ k). get_or-eq_default (zs ++ rest) 0 {n = k} (omega (arith, length-append zs rest))) (below_or_not k (length zs))

  zeros-pad : (n : ℕ) → length xs + length zs ≡ n → xs ++ (zs ++ rest) ≡ pad n 0 xs
  zeros-pad n e =
      pad-is (xs ++ (zs ++ rest)) (length xs) 0 (λ i h. get_or-append_right xs (zs ++ rest) (length xs) i 0 refl h ∙ after (i - length xs))
      ∙ ap (λ (m : ℕ). pad m 0 (take (length xs) (xs ++ (zs ++ rest)))) (omega (arith, length-append xs (zs ++ rest), length-append zs rest))
      ∙ ap (pad n 0) (take_at xs (zs ++ rest) (length xs) refl)

pub returns : goal.returns
returns c =
    let n = c.args.count in
    let old = c.args.relays.now in
    let row = c.copy_from_slice.new.self in
    let copied = row ++ drop n old in
    let xs = take n c.args.from.now in
    let many = length-take-le n c.args.from.now c.requires.1 in
    let same : row ≡ xs = c.copy_from_slice.ensures.after in
    let long : length row ≡ n = ap length same ∙ many in
    let wide : length copied ≡ 32 = length-append row (drop n old) ∙ omega (arith, long, length-drop n old, c.requires) in
    let left : length c.fill.new.self ≡ 32 - n = omega (arith, c.fill.ensures.len, wide, length-take (length copied - n) (drop n copied), length-drop n copied) in
    ap (λ (ys : List ℕ). ys ++ (c.fill.new.self ++ drop (length copied - n) (drop n copied))) (take_at row (drop n old) n long ∙ same)
    ∙ zeros-pad xs c.fill.new.self (drop (length copied - n) (drop n copied)) (omega (arith, length-drop (length copied - n) (drop n copied), length-drop n copied)) (λ j h. c.fill.ensures.clones j 0 (omega (arith, c.fill.ensures.len)) refl) 32 (omega (arith, left, many))
