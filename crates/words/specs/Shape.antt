-- The shape of a call's numbers, one letter for each value, and when numbers have it.
-- docs/ORACLE.md: "'Too large' is judged by the kind"; "A list may have 80 elements, each pair or triple counting as one; 81 is `bad`".
-- Assumes nothing.
use Rattle.std.specs.Prelude.{ℕ, zero, suc, ◌*◌, ◌%◌, Bool, false, cond, not, ◌&&◌, ◌||◌, List, [], ◌∷◌, eqb, leb, ltb, drop}

-- the letters: a full stop ends a shape
abbrev pub is_flag : ℕ → Bool
is_flag l = eqb l 98

-- `?` is 0, or 1 and the next letter's value; `!` is 0, or 1 and the next two letters' values
abbrev pub is_option : ℕ → Bool
is_option l = eqb l 63 || eqb l 33

-- `n` a list of addresses, `e` of 64-bit numbers, `l` of an address and two bytes each
abbrev pub is_list : ℕ → Bool
is_list l = eqb l 110 || (eqb l 101 || eqb l 108)

-- the largest value: `r` a relationship, `v` a version, `y` a byte, `a` an address, `A` one in place of the next letter, `c` a counter,
-- and any other letter, as `q`, any number
unfoldable pub most_of_others : ℕ → ℕ
most_of_others l =
    cond (eqb l 114) 9
    (cond (eqb l 118) 15
    (cond (is_list l) 80
    (cond (eqb l 121) 255
    (cond (eqb l 97 || eqb l 65) 65535
    (cond (eqb l 99) 4294967295 18446744073709551615)))))

-- and of `b` a bool, `d` a device type or how to discover, `t` two bits, `f` a frame type, `m` a mode
unfoldable pub most : ℕ → ℕ
most l =
    cond (is_flag l || is_option l) 1
    (cond (eqb l 100) 2
    (cond (eqb l 116 || eqb l 102) 3
    (cond (eqb l 109) 5 (most_of_others l))))

-- a value that a letter allows; there is no frame type 2, and none after the end
unfoldable pub within : ℕ → ℕ → Bool
within l x = not (eqb l 46) && (leb x (most l) && not (eqb l 102 && eqb x 2))

-- `m` is followed by `An`, the hop of modes 2 and 4 and the list of modes 3 and 5
unfoldable pub passes_mode : ℕ → ℕ
passes_mode x = cond (ltb x 2) 3 (cond (eqb (x % 2) 0) 1 2)

-- how many letters a value passes
unfoldable pub passes : ℕ → ℕ → ℕ
passes l x =
    cond (eqb l 63) (cond (eqb x 0) 2 1)
    (cond (eqb l 33) (cond (eqb x 0) 3 1)
    (cond (eqb l 109) (passes_mode x)
    (cond (eqb l 65) 2 1)))

-- how many values the elements of a list have, by the list's letter and its count; 0 where the letter is no list
unfoldable pub items : ℕ → ℕ → ℕ
items l x = cond (eqb l 108) (3 * x) (cond (eqb l 110 || eqb l 101) x 0)

-- the letter of the next value in a list, where p values are left
unfoldable pub item : ℕ → ℕ → ℕ
item k p = cond (eqb k 108) (cond (eqb (p % 3) 0) 97 121) (cond (eqb k 110) 97 113)

abbrev pub is_end : List ℕ → Bool
is_end [] = false
is_end (l ∷ s) = eqb l 46

-- numbers of a shape, after p values more of the list k
unfoldable pub fit : List ℕ → ℕ → ℕ → List ℕ → Bool
fit s k p [] = eqb p 0 && is_end s
fit s k (suc p) (x ∷ xs) = within (item k (suc p)) x && fit s k p xs
fit [] k zero (x ∷ xs) = false
fit (l ∷ s) k zero (x ∷ xs) = within l x && fit (drop (passes l x) (l ∷ s)) l (items l x) xs

-- numbers that have a shape, all of them used up
abbrev pub fits_shape : List ℕ → List ℕ → Bool
fits_shape s args = fit s 0 0 args
