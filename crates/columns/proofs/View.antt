-- Sound columns are their rows, laid into columns; and rows that fit and are in range, laid into columns, are sound columns whose rows they are.
use Prim.Native.Nat.{ℕ, zero, suc, ◌+◌, ◌<◌, ◌≤◌}
use native.Mathlib.Nat.{le_of_suc-le-suc, not-suc-le-zero}
use native.Mathlib.Omega.{arith}
use mathlib.Core.List.{List, [], ◌∷◌, map}
use mathlib.Core.Logic.{⊎_elim}
use mathlib.Core.Path.{◌≡◌, refl, sym, ap, ◌∙◌, subst}
use lib.ListN.{length, take, drop, get_or, length-map, get_or-map}
use lib.Seq.{length-take-le, ext_get_or, get_or-take}
use Rattle.flat_map.specs.Rows.{pad}
use Rattle.flat_map.specs.Table.{Fit, Formed, ZeroFrom}
use Rattle.flat_map.proofs.Compare.{below_or_not}
use Rattle.flat_map.proofs.Lists.{any-default}
use Rattle.flat_map.proofs.Rows.{length-pad, pad-is, getD-pad, getD-blank}
use Rattle.flat_map.proofs.Table.{formed-rows, rows_back, row-at}
use Rattle.columns.specs.Columns.{at, entries, Long, noughts, ZerosFrom}
use Rattle.columns.specs.Codec.{Codec}
use Rattle.columns.specs.Table.{Sound, rows_in, column, columns_from}
use Rattle.columns.proofs.Places.{place_at, entries-length}
use Rattle.columns.proofs.Formed as formed
use Rattle.columns.proofs.Rows as rows

-- column m, place by place
at-column : (i : ℕ) (cs : List (List ℕ)) (m : ℕ) → m < length cs → get_or (at i cs) m 0 ≡ get_or (get_or cs m []) i 0
at-column i [] m h = absurd (not-suc-le-zero h)
at-column i (c ∷ cs) zero h = refl
at-column i (c ∷ cs) (suc m) h = at-column i cs m (le_of_suc-le-suc h)

long-column : (n : ℕ) (cs : List (List ℕ)) → Long n cs → (m : ℕ) → m < length cs → length (get_or cs m []) ≡ n
long-column n [] l m h = absurd (not-suc-le-zero h)
long-column n (c ∷ cs) l zero h = l.0
long-column n (c ∷ cs) l (suc m) h = long-column n cs l.1 m (le_of_suc-le-suc h)

zero-column : (k : ℕ) (cs : List (List ℕ)) → ZerosFrom k cs → (m : ℕ) → m < length cs → ZeroFrom (get_or cs m []) k
zero-column k [] z m h = absurd (not-suc-le-zero h)
zero-column k (c ∷ cs) z zero h = z.0
zero-column k (c ∷ cs) z (suc m) h = zero-column k cs z.1 m (le_of_suc-le-suc h)

module _
    {E : Type 0}
    (cap width : ℕ)
    (key_of : E → ℕ)
    (blank : E)
    (read : List ℕ → E)
    (write : E → List ℕ)
    (Clean : List ℕ → Type 0)
    (InRange : E → Type 0)
    (c : Codec width key_of blank read write Clean InRange)
  where
    -- from the columns to the rows
    module _ (ks : List ℕ) (cs : List (List ℕ)) (n : ℕ) (s : Sound cap width Clean ks cs n) where
      abbrev xs : List E
      xs = rows_in read cap (ks ∷ cs) n

      many : length xs ≡ n
      many = rows.rows-many cap width key_of blank read write Clean InRange c ks cs n s

      pub row_is : (i : ℕ) → i < n → get_or xs i blank ≡ read (at i (ks ∷ cs))
      row_is i h =
          sym (row-at cap key_of blank ks (entries read cap (ks ∷ cs)) n (rows.table cap width key_of blank read write Clean InRange c ks cs n s) i h)
          ∙ rows.row_reads cap width key_of blank read write Clean InRange c ks cs n s i

      pub row-writes : (i : ℕ) → i < n → write (get_or xs i blank) ≡ at i (ks ∷ cs)
      row-writes i h = ap write (row_is i h) ∙ c.forth (at i (ks ∷ cs)) (formed.at_length i (ks ∷ cs) ∙ s.wide) (s.clean i)

      -- each column is the numbers of the rows
      pub column-is : (m : ℕ) → m < width → get_or (ks ∷ cs) m [] ≡ column write cap xs m
      column-is m h =
          pad-is col n 0 (zero-column n (ks ∷ cs) s.ordered.zeros m (omega (arith, h, s.wide)))
          ∙ ap (λ (k : ℕ). pad k 0 (take n col)) long
          ∙ ap (pad cap 0) (ext_get_or 0 (take n col) (map number xs) (taken ∙ sym (length-map xs number ∙ many)) same) where
            col : List ℕ
            col = get_or (ks ∷ cs) m []

            number : E → ℕ
            number e = get_or (write e) m 0

            long : length col ≡ cap
            long = long-column cap (ks ∷ cs) s.ordered.long m (omega (arith, h, s.wide))

            taken : length (take n col) ≡ n
            taken = length-take-le n col (omega (arith, long, s.ordered.small))

            same : (i : ℕ) → i < length (take n col) → get_or (take n col) i 0 ≡ get_or (map number xs) i 0
            same i l =
                get_or-take n col i 0 (omega (arith, taken))
                ∙ sym (at-column i (ks ∷ cs) m (omega (arith, h, s.wide)))
                ∙ ap (λ (v : List ℕ). get_or v m 0) (sym (row-writes i (omega (arith, taken))))
                ∙ sym (get_or-map number xs i blank)
                ∙ any-default (map number xs) i (number blank) 0 (omega (arith, taken, length-map xs number, many))

      -- the rows are in range
      pub row-in-range : (i : ℕ) → i < n → InRange (get_or xs i blank)
      row-in-range i h = subst InRange (sym (row_is i h)) (c.within (at i (ks ∷ cs)) (s.clean i))

    -- from the rows to the columns
    module _ (xs : List E) (f : Fit cap key_of blank xs) (r : (i : ℕ) → i < length xs → InRange (get_or xs i blank)) where
      numbers-at : (i m : ℕ) → i < length xs → get_or (column write cap xs m) i 0 ≡ get_or (write (get_or xs i blank)) m 0
      numbers-at i m h =
          getD-pad cap i 0 (map number xs) (omega (arith, h, length-map xs number)) (omega (arith, f.small, length-map xs number))
          ∙ any-default (map number xs) i 0 (number blank) (omega (arith, h, length-map xs number))
          ∙ get_or-map number xs i blank where
            number : E → ℕ
            number e = get_or (write e) m 0

      rest-is : (v : List ℕ) (i m w : ℕ) → ((j : ℕ) → get_or (column write cap xs j) i 0 ≡ get_or v j 0) → length v ≡ m + w → at i (columns_from write cap xs m w) ≡ drop m v
      rest-is v i m zero q l = sym (none m v (omega (arith, l))) where
        none : (m : ℕ) (v : List ℕ) → length v ≤ m → drop m v ≡ []
        none zero [] h = refl
        none zero (x ∷ v) h = absurd (not-suc-le-zero h)
        none (suc m) [] h = refl
        none (suc m) (x ∷ v) h = none m v (le_of_suc-le-suc h)
      rest-is v i m (suc w) q l = (λ z. q m z ∷ rest-is v i (suc m) w q (omega (arith, l)) z) ∙ sym (next m v (omega (arith, l))) where
        next : (m : ℕ) (v : List ℕ) → m < length v → drop m v ≡ get_or v m 0 ∷ drop (suc m) v
        next m [] h = absurd (not-suc-le-zero h)
        next zero (x ∷ v) h = refl
        next (suc m) (x ∷ v) h = next m v (le_of_suc-le-suc h)

      pub numbers-in : (i : ℕ) → i < length xs → at i (columns_from write cap xs 0 width) ≡ write (get_or xs i blank)
      numbers-in i h = rest-is (write (get_or xs i blank)) i 0 width (λ j. numbers-at i j h) (omega (arith, c.wide (get_or xs i blank)))

      numbers-past : (i : ℕ) → length xs ≤ i → (m w : ℕ) → at i (columns_from write cap xs m w) ≡ noughts w
      numbers-past i h m zero = refl
      numbers-past i h m (suc w) = λ z. getD-blank cap i 0 (map (λ (e : E). get_or (write e) m 0) xs) (omega (arith, h, length-map xs (λ (e : E). get_or (write e) m 0))) z ∷ numbers-past i h (suc m) w z

      columns-long : (m w : ℕ) → Long cap (columns_from write cap xs m w)
      columns-long m zero = tt
      columns-long m (suc w) = (length-pad cap 0 (map (λ (e : E). get_or (write e) m 0) xs), columns-long (suc m) w)

      columns-wide : (m w : ℕ) → length (columns_from write cap xs m w) ≡ w
      columns-wide m zero = refl
      columns-wide m (suc w) = ap suc (columns-wide (suc m) w)

      columns-clean : (i : ℕ) → Clean (at i (columns_from write cap xs 0 width))
      columns-clean i =
          ⊎_elim (λ h. subst Clean (sym (numbers-in i h)) (c.clean (get_or xs i blank) (r i h))) (λ h. subst Clean (sym (numbers-past i h 0 width)) c.clean-zero)
          (below_or_not i (length xs))

      entries-are : entries read cap (columns_from write cap xs 0 width) ≡ pad cap blank xs
      entries-are =
          ext_get_or blank (entries read cap (columns_from write cap xs 0 width)) (pad cap blank xs)
          (entries-length read cap (columns_from write cap xs 0 width) ∙ sym (length-pad cap blank xs))
          (λ i h. place_at cap (λ j. read (at j (columns_from write cap xs 0 width))) i blank (omega (arith, h, entries-length read cap (columns_from write cap xs 0 width)))
          ∙ ⊎_elim (λ l. ap read (numbers-in i l) ∙ c.back (get_or xs i blank) (r i l) ∙ sym (getD-pad cap i blank xs l f.small))
          (λ l. ap read (numbers-past i l 0 width) ∙ c.zero ∙ sym (getD-blank cap i blank xs l))
          (below_or_not i (length xs)))

      keys-are : column write cap xs 0 ≡ pad cap 0 (map key_of xs)
      keys-are = ap (pad cap 0) (go xs) where
        go : (xs : List E) → map (λ (e : E). get_or (write e) 0 0) xs ≡ map key_of xs
        go [] = refl
        go (x ∷ xs) = λ z. c.key-first x z ∷ go xs z

      module _ (w : ℕ) (q : width ≡ suc w) where
        table : Formed cap key_of blank (column write cap xs 0) (entries read cap (columns_from write cap xs 0 (suc w))) (length xs)
        table =
            subst (λ (l : List E). Formed cap key_of blank (column write cap xs 0) l (length xs)) (sym (ap (λ (v : ℕ). entries read cap (columns_from write cap xs 0 v)) (sym q) ∙ entries-are))
            (subst (λ (k : List ℕ). Formed cap key_of blank k (pad cap blank xs) (length xs)) (sym keys-are) (formed-rows cap key_of blank xs f))

        pub made-sound : Sound cap width Clean (column write cap xs 0) (columns_from write cap xs 1 w) (length xs)
        made-sound =
            formed.sound cap width key_of blank read write Clean InRange c (column write cap xs 0) (columns_from write cap xs 1 w) (length xs) (columns-wide 0 (suc w) ∙ sym q) (columns-long 0 (suc w))
            (λ i. subst (λ (v : ℕ). Clean (at i (columns_from write cap xs 0 v))) q (columns-clean i))
            table

        pub made-rows : rows_in read cap (column write cap xs 0 ∷ columns_from write cap xs 1 w) (length xs) ≡ xs
        made-rows = ap (take (length xs)) (ap (λ (v : ℕ). entries read cap (columns_from write cap xs 0 v)) (sym q) ∙ entries-are) ∙ rows_back cap key_of blank xs f
