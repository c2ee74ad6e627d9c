-- A ring means the list of its samples, oldest first: a push does to the list what document 01 says and keeps the ring well formed,
-- so a ring holds the last three samples pushed. In each shape of a well-formed ring both sides compute to the same.
use Prim.Native.Nat.{ℕ}
use native.Mathlib.Nat.{add_comm}
use native.Mathlib.Omega.{arith}
use mathlib.Core.Bool.{cond}
use mathlib.Core.List.{List, [], ◌∷◌, ◌++◌, append-nil, append_assoc}
use mathlib.Core.Path.{◌≡◌, refl, sym, ap, ◌∙◌}
use borrow.Author.Tests.{le-ltb}
use lib.Dec.{eqb}
use lib.ListN.{length, take, drop, take-append-drop}
use Rattle.standard.specs.LinkCost.{link_cost, incoming_cost}
use Rattle.standard.specs.Median.{times, median_of}
use Rattle.standard.specs.Ring.{last_three, pushed}
use Rattle.standard.proofs.Median.{median-same, times-append}
use Rattle.standard.proofs.Ring.{few-kept, cut_again}
use Rattle.ring_buffer.specs.declared.RingBuffer.{RingBuffer}
use Rattle.ring_buffer.specs.Ring.{fresh, after_push, after_all, held, WellFormed}
use Rattle.ring_buffer.proofs.Shapes.{well, ring, by_shape}

pub fresh-well-formed : WellFormed fresh
fresh-well-formed = well refl

pub push-well-formed : (value : ℕ) (r : RingBuffer) → WellFormed r → WellFormed (after_push r value)
push-well-formed value =
    by_shape
    (λ r. WellFormed (after_push r value))
    (well refl)
    (λ a. well refl)
    (λ a b. well refl)
    (λ a b c. well refl)
    (λ a b c. well refl)
    (λ a b c. well refl)

-- a push appends to the samples held and keeps the last three
pub push-held : (value : ℕ) (r : RingBuffer) → WellFormed r → held (after_push r value) ≡ pushed (held r) value
push-held value =
    by_shape
    (λ r. held (after_push r value) ≡ pushed (held r) value)
    refl
    (λ a. refl)
    (λ a b. refl)
    (λ a b c. refl)
    (λ a b c. refl)
    (λ a b c. refl)

pub held-count : (r : RingBuffer) → WellFormed r → length (held r) ≡ r.len
held-count =
    by_shape
    (λ r. length (held r) ≡ r.len)
    refl
    (λ a. refl)
    (λ a b. refl)
    (λ a b c. refl)
    (λ a b c. refl)
    (λ a b c. refl)

all_held : (r : RingBuffer) (vs : List ℕ) → WellFormed r → held (after_all r vs) ≡ last_three (held r ++ vs)
all_held r [] w = sym (ap last_three (append-nil (held r)) ∙ few-kept (held r) (rw (held-count r w) w.count))
all_held r (v ∷ vs) w =
    all_held (after_push r v) vs (push-well-formed v r w)
    ∙ ap (λ (l : List ℕ). last_three (l ++ vs)) (push-held v r w)
    ∙ cut_again (held r ++ (v ∷ [])) vs
    ∙ ap last_three (append_assoc (held r) (v ∷ []) vs)

-- a ring that was fresh holds the last three of all samples pushed
pub last-three-held : (vs : List ℕ) → held (after_all fresh vs) ≡ last_three vs
last-three-held vs = all_held fresh vs fresh-well-formed

-- the places of a full ring hold the samples, from another one on
turned : (n k : ℕ) (l : List ℕ) → times n l ≡ times n (drop k l ++ take k l)
turned n k l =
    ap (times n) (sym (take-append-drop k l))
    ∙ times-append n (take k l) (drop k l)
    ∙ add_comm (times n (take k l)) (times n (drop k l))
    ∙ sym (times-append n (drop k l) (take k l))

pub full-median : (r : RingBuffer) → r.len ≡ 3 → median_of r.values ≡ median_of (held r)
full-median r e =
    rw (le-ltb r.len 3 (omega arith))
    (median-same (drop r.next r.values ++ take r.next r.values) r.values (λ n. turned n r.next r.values))

-- the incoming cost by the ring's count and places
pub incoming-cost : (r : RingBuffer) → WellFormed r
    → incoming_cost (held r) ≡ cond (eqb r.len 3) (link_cost (median_of r.values)) 0
incoming-cost =
    by_shape
    (λ r. incoming_cost (held r) ≡ cond (eqb r.len 3) (link_cost (median_of r.values)) 0)
    refl
    (λ a. refl)
    (λ a b. refl)
    (λ a b c. refl)
    (λ a b c. ap link_cost (sym (full-median (ring (a ∷ b ∷ c ∷ []) 3 1) refl)))
    (λ a b c. ap link_cost (sym (full-median (ring (a ∷ b ∷ c ∷ []) 3 2) refl)))
