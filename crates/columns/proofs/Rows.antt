-- A step on sound columns is a step on their rows, and leaves them sound: a row stored over the one of its key, put in, taken out.
-- Once over the number of columns, the capacity, the kind of row and its layout.
use Rattle.std.specs.Prelude.{Some, None, Result, Ok, Err}
use Prim.Native.Nat.{ℕ, zero, suc, ◌+◌, ◌-◌, ◌<◌, ◌≤◌}
use native.Mathlib.Nat.{eq-or-lt_of_le}
use native.Mathlib.Omega.{arith}
use mathlib.Core.List.{List, [], ◌∷◌, map}
use mathlib.Core.Logic.{◌⊎◌, inl, inr, ⊎_elim}
use mathlib.Core.Path.{◌≡◌, refl, sym, ap, ◌∙◌, subst}
use lib.ListN.{length, take, drop, get_or, set}
use borrow.Author.Tests.{le-leb}
use lib.Dec.{leb}
use Rattle.standard.specs.Ordered.{lookup, put, remove, count_with}
use Rattle.standard.proofs.Tells.{tells-one, tells-le, tells-lt, tells-so}
use Rattle.flat_map.specs.Rows.{remove_at}
use Rattle.flat_map.specs.Seek.{place_of}
use Rattle.flat_map.specs.Shift.{shift_in, shift_out}
use Rattle.flat_map.specs.Table.{Formed, Fit, Holds}
use Rattle.flat_map.proofs.Compare.{Tri, lt, eq, gt, tri, below_or_not}
use Rattle.flat_map.proofs.Fits.{fit-put, room-known, fit-remove}
use Rattle.flat_map.proofs.Ordered.{count-with-missing}
use Rattle.flat_map.proofs.Order.{asc-remove_at}
use Rattle.flat_map.proofs.Places.{placed_at, found_at, below_at}
use Rattle.flat_map.proofs.Rows.{cons, map-remove_at, length-remove_at}
use Rattle.flat_map.proofs.Table.{fit, rows-length, replaced, inserted, taken_out, removed, holds-formed, holds_rows, found_within, found-row, missing-row}
use lib.Seq.{get_or-take}
use Rattle.columns.specs.Columns.{at, entries, Long, sets, ins, outs, noughts}
use Rattle.columns.specs.Codec.{Codec}
use Rattle.columns.specs.Room.{room_for}
use Rattle.columns.specs.Table.{Sound, rows_in}
use Rattle.columns.proofs.Places as places
use Rattle.columns.proofs.Formed as formed

-- a number stored where it stands already
pub set_same : (xs : List ℕ) (i : ℕ) → set xs i (get_or xs i 0) ≡ xs
set_same [] i = refl
set_same (x ∷ xs) zero = refl
set_same (x ∷ xs) (suc i) = cons x (set_same xs i)

pub head_tail : (v : List ℕ) → 0 < length v → v ≡ get_or v 0 0 ∷ drop 1 v
head_tail [] h = absurd (omega arith)
head_tail (x ∷ v) h = refl

-- every place of columns, after a step: what was there, or what was put there
module _ (Clean : List ℕ → Type 0) (n i : ℕ) (cs : List (List ℕ)) (l : Long n cs) (all : (j : ℕ) → Clean (at j cs)) where
  pub clean-set : (vs : List ℕ) → length vs ≡ length cs → Clean vs → (j : ℕ) → Clean (at j (sets i vs cs))
  clean-set vs k v j = go (tri j i) where
    else : (j ≡ i → ⊥) → Clean (at j (sets i vs cs))
    else w = subst Clean (sym (places.at-sets-else n i cs vs j w)) (all j)

    go : Tri j i → Clean (at j (sets i vs cs))
    go (lt h) = else (λ w. omega (arith, h, w))
    go (gt h) = else (λ w. omega (arith, h, w))
    go (eq h) =
        ⊎_elim (λ (b : i < n). subst (λ (m : ℕ). Clean (at m (sets i vs cs))) (sym h) (subst Clean (sym (places.at-sets n i cs vs l k b)) v))
        (λ (b : n ≤ i). subst Clean (sym (past b)) (all j)) (below_or_not i n) where
          past : n ≤ i → at j (sets i vs cs) ≡ at j cs
          past b =
              formed.at-past n (sets i vs cs) (places.long-set n i cs vs l) j (omega (arith, b, h))
              ∙ ap noughts (sets-length vs cs)
              ∙ sym (formed.at-past n cs l j (omega (arith, b, h))) where
                sets-length : (vs : List ℕ) (cs : List (List ℕ)) → length (sets i vs cs) ≡ length cs
                sets-length vs [] = refl
                sets-length [] (c ∷ cs) = ap suc (sets-length [] cs)
                sets-length (v ∷ vs) (c ∷ cs) = ap suc (sets-length vs cs)

  pub clean-in : (vs : List ℕ) → length vs ≡ length cs → Clean vs → Clean (noughts (length cs)) → (j : ℕ) → Clean (at j (ins i vs cs))
  clean-in vs k v z j = ⊎_elim (λ (b : j < n). inside j b (tri j i)) (λ (b : n ≤ j). subst Clean (sym (past b)) z) (below_or_not j n) where
    ins-length : (vs : List ℕ) (cs : List (List ℕ)) → length (ins i vs cs) ≡ length cs
    ins-length vs [] = refl
    ins-length [] (c ∷ cs) = ap suc (ins-length [] cs)
    ins-length (v ∷ vs) (c ∷ cs) = ap suc (ins-length vs cs)

    past : n ≤ j → at j (ins i vs cs) ≡ noughts (length cs)
    past b = formed.at-past n (ins i vs cs) (places.long-in n i cs vs l) j b ∙ ap noughts (ins-length vs cs)

    inside : (j : ℕ) → j < n → Tri j i → Clean (at j (ins i vs cs))
    inside j b (lt h) = subst Clean (sym (places.at-ins-before n i cs vs j h)) (all j)
    inside j b (eq h) = subst (λ (m : ℕ). Clean (at m (ins i vs cs))) (sym h) (subst Clean (sym (places.at-ins n i cs vs l k (omega (arith, b, h)))) v)
    inside zero b (gt h) = absurd (omega (arith, h))
    inside (suc j) b (gt h) = subst Clean (sym (places.at-ins-after n i cs vs j l b (omega (arith, h)))) (all j)

  pub clean-out : Clean (noughts (length cs)) → (j : ℕ) → Clean (at j (outs i cs))
  clean-out z j = ⊎_elim (λ (b : suc j < n). inside b (below_or_not j i)) (λ (b : n ≤ suc j). last (eq-or-lt_of_le b) (below_or_not j i)) (below_or_not (suc j) n) where
    outs-length : (cs : List (List ℕ)) → length (outs i cs) ≡ length cs
    outs-length [] = refl
    outs-length (c ∷ cs) = ap suc (outs-length cs)

    before : j < i → Clean (at j (outs i cs))
    before h = subst Clean (sym (places.at-outs-before n i cs j h)) (all j)

    inside : suc j < n → (j < i) ⊎ (i ≤ j) → Clean (at j (outs i cs))
    inside b (inl h) = before h
    inside b (inr h) = subst Clean (sym (places.at-outs-after n i cs j l b h)) (all (suc j))

    last : (n ≡ suc j) ⊎ (n < suc j) → (j < i) ⊎ (i ≤ j) → Clean (at j (outs i cs))
    last b (inl h) = before h
    last (inl b) (inr h) = subst Clean (sym (places.at-outs-last n i cs j l (sym b) h)) z
    last (inr b) (inr h) = subst Clean (sym (formed.at-past n (outs i cs) (places.long-out n i cs l) j (omega (arith, b)) ∙ ap noughts (outs-length cs))) z

module _
    {E : Type 0}
    (cap width : ℕ)
    (key_of : E → ℕ)
    (blank : E)
    (read : List ℕ → E)
    (write : E → List ℕ)
    (Clean : List ℕ → Type 0)
    (InRange : E → Type 0)
    (c : Codec width key_of blank read write Clean InRange)
    (ks : List ℕ)
    (cs : List (List ℕ))
    (n : ℕ)
    (s : Sound cap width Clean ks cs n)
  where
    abbrev es : List E
    es = entries read cap (ks ∷ cs)

    abbrev rows : List E
    rows = rows_in read cap (ks ∷ cs) n

    -- as a table of flat_map
    pub table : Formed cap key_of blank ks es n
    table = formed.formed cap width key_of blank read write Clean InRange c ks cs n s

    -- the rows fit, and there are n of them
    pub rows_fit : Fit cap key_of blank rows
    rows_fit = fit cap key_of blank ks es n table

    pub rows-many : length rows ≡ n
    rows-many = rows-length cap key_of blank ks es n table

    -- what stands in a place
    pub row_reads : (i : ℕ) → get_or es i blank ≡ read (at i (ks ∷ cs))
    row_reads i = formed.reads cap width key_of blank read write Clean InRange c ks cs n s.wide s.ordered.long i

    -- what the place of a key says of the rows
    pub found : (k i : ℕ) → Ok i ≡ place_of (take n ks) k → lookup key_of k rows ≡ Some (read (at i (ks ∷ cs)))
    found k i p = found-row cap key_of blank ks es n table k i p ∙ ap Some (row_reads i)

    pub found_below : (k i : ℕ) → Ok i ≡ place_of (take n ks) k → i < n
    found_below k i p = found_within cap key_of blank ks es n table k i p

    pub found-key : (k i : ℕ) → Ok i ≡ place_of (take n ks) k → get_or ks i 0 ≡ k
    found-key k i p = sym (get_or-take n ks i 0 (found_below k i p)) ∙ (placed_at (take n ks) k (Ok i) p).1

    pub missing : (k i : ℕ) → Err i ≡ place_of (take n ks) k → lookup key_of k rows ≡ None
    missing k i p = missing-row cap key_of blank ks es n table k i p

    -- the place of the key that stands in a place
    pub own-place : (i : ℕ) → i < n → Ok i ≡ place_of (take n ks) (get_or ks i 0)
    own-place i h =
        found_at ks n (get_or ks i 0) (omega (arith, s.ordered.small, s.ordered.long.0)) i h (below_at ks n (get_or ks i 0) s.ordered.rising i h refl) refl

    -- columns that are clean and hold rows
    back : (ks' : List ℕ) (cs' : List (List ℕ)) (m : ℕ) (xs : List E) → length (ks' ∷ cs') ≡ width → Long cap (ks' ∷ cs') → ((i : ℕ) → Clean (at i (ks' ∷ cs')))
        → Holds cap key_of blank ks' (entries read cap (ks' ∷ cs')) m xs → Fit cap key_of blank xs
        → Sound cap width Clean ks' cs' m × (rows_in read cap (ks' ∷ cs') m ≡ xs)
    back ks' cs' m xs w l clean h f = (
      formed.sound cap width key_of blank read write Clean InRange c ks' cs' m w l clean (holds-formed cap key_of blank ks' (entries read cap (ks' ∷ cs')) m xs h f),
      holds_rows cap key_of blank ks' (entries read cap (ks' ∷ cs')) m xs h f,
    )

    vs-head : (e : E) → write e ≡ key_of e ∷ drop 1 (write e)
    vs-head e = head_tail (write e) (omega (arith, c.wide e, s.wide)) ∙ ap (λ (k : ℕ). k ∷ drop 1 (write e)) (c.key-first e)

    vs-long : (e : E) → length (write e) ≡ length (ks ∷ cs)
    vs-long e = c.wide e ∙ sym s.wide

    module _ (e : E) (r : InRange e) (i : ℕ) where
      -- a row stored over the one of its key: the key's column is not touched
      abbrev pub over : List (List ℕ)
      over = sets i (drop 1 (write e)) cs

      module _ (p : Ok i ≡ place_of (take n ks) (key_of e)) where
        over-is : sets i (write e) (ks ∷ cs) ≡ ks ∷ over
        over-is =
            ap (λ (vs : List ℕ). sets i vs (ks ∷ cs)) (vs-head e)
            ∙ ap (λ (k : ℕ). set ks i k ∷ over) (sym (found-key (key_of e) i p))
            ∙ ap (λ (l : List ℕ). l ∷ over) (set_same ks i)

        pub over-entries : entries read cap (ks ∷ over) ≡ set es i e
        over-entries =
            ap (entries read cap) (sym over-is)
            ∙ places.entries-set read cap (ks ∷ cs) s.ordered.long i (write e) (vs-long e)
            ∙ ap (set es i) (c.back e r)

        over-clean : (j : ℕ) → Clean (at j (ks ∷ over))
        over-clean =
            subst (λ (l : List (List ℕ)). (j : ℕ) → Clean (at j l)) over-is
            (clean-set Clean cap i (ks ∷ cs) s.ordered.long s.clean (write e) (vs-long e) (c.clean e r))

        over-long : Long cap (ks ∷ over)
        over-long = (s.ordered.long.0, places.long-set cap i cs (drop 1 (write e)) s.ordered.long.1)

        over-wide : length (ks ∷ over) ≡ width
        over-wide = ap suc (go (drop 1 (write e)) cs) ∙ s.wide where
          go : (vs : List ℕ) (cs : List (List ℕ)) → length (sets i vs cs) ≡ length cs
          go vs [] = refl
          go [] (c ∷ cs) = ap suc (go [] cs)
          go (v ∷ vs) (c ∷ cs) = ap suc (go vs cs)

        pub over-put : Sound cap width Clean ks over n × (rows_in read cap (ks ∷ over) n ≡ put key_of e rows)
        over-put =
            back ks over n (put key_of e rows) over-wide over-long over-clean
            (subst (λ (l : List E). Holds cap key_of blank ks l n (put key_of e rows)) (sym over-entries) (replaced cap key_of blank ks es n table e i p))
            (fit-put cap key_of blank rows rows_fit e (room-known cap key_of blank rows rows_fit (key_of e) (read (at i (ks ∷ cs))) (found (key_of e) i p)))

      -- a row put in where its key is missing
      abbrev pub in-keys : List ℕ
      in-keys = shift_in i (key_of e) ks

      abbrev pub in-others : List (List ℕ)
      in-others = ins i (drop 1 (write e)) cs

      module _ (p : Err i ≡ place_of (take n ks) (key_of e)) (room : n < cap) where
        in_is : ins i (write e) (ks ∷ cs) ≡ in-keys ∷ in-others
        in_is = ap (λ (vs : List ℕ). ins i vs (ks ∷ cs)) (vs-head e)

        in-entries : entries read cap (in-keys ∷ in-others) ≡ shift_in i e es
        in-entries =
            ap (entries read cap) (sym in_is)
            ∙ places.entries-in read cap (ks ∷ cs) s.ordered.long i (write e) (vs-long e)
            ∙ ap (λ (x : E). shift_in i x es) (c.back e r)

        in_clean : (j : ℕ) → Clean (at j (in-keys ∷ in-others))
        in_clean =
            subst (λ (l : List (List ℕ)). (j : ℕ) → Clean (at j l)) in_is
            (clean-in Clean cap i (ks ∷ cs) s.ordered.long s.clean (write e) (vs-long e) (c.clean e r) (subst (λ (w : ℕ). Clean (noughts w)) (sym s.wide) c.clean-zero))

        in-wide : length (in-keys ∷ in-others) ≡ width
        in-wide = ap suc (go (drop 1 (write e)) cs) ∙ s.wide where
          go : (vs : List ℕ) (cs : List (List ℕ)) → length (ins i vs cs) ≡ length cs
          go vs [] = refl
          go [] (c ∷ cs) = ap suc (go [] cs)
          go (v ∷ vs) (c ∷ cs) = ap suc (go vs cs)

        pub in-put : Sound cap width Clean in-keys in-others (n + 1) × (rows_in read cap (in-keys ∷ in-others) (n + 1) ≡ put key_of e rows)
        in-put =
            back in-keys in-others (n + 1) (put key_of e rows) in-wide (subst (Long cap) in_is (places.long-in cap i (ks ∷ cs) (write e) s.ordered.long)) in_clean
            (subst (λ (l : List E). Holds cap key_of blank in-keys l (n + 1) (put key_of e rows)) (sym in-entries) (inserted cap key_of blank ks es n table e i p room))
            (fit-put cap key_of blank rows rows_fit e (omega (arith, room, rows-many, count-with-missing key_of (key_of e) rows (missing (key_of e) i p))))

    -- a row taken out
    module _ (i : ℕ) where
      abbrev pub out-keys : List ℕ
      out-keys = shift_out i 0 ks

      abbrev pub out-others : List (List ℕ)
      out-others = outs i cs

      pub out-entries : entries read cap (out-keys ∷ out-others) ≡ shift_out i blank es
      out-entries =
          places.entries-out read cap (ks ∷ cs) s.ordered.long i
          ∙ ap (λ (b : E). shift_out i b es) (ap (λ (w : ℕ). read (noughts w)) s.wide ∙ c.zero)

      out-wide : length (out-keys ∷ out-others) ≡ width
      out-wide = ap suc (go cs) ∙ s.wide where
        go : (cs : List (List ℕ)) → length (outs i cs) ≡ length cs
        go [] = refl
        go (c ∷ cs) = ap suc (go cs)

      pub out-long : Long cap (out-keys ∷ out-others)
      out-long = places.long-out cap i (ks ∷ cs) s.ordered.long

      out-clean : (j : ℕ) → Clean (at j (out-keys ∷ out-others))
      out-clean = clean-out Clean cap i (ks ∷ cs) s.ordered.long s.clean (subst (λ (w : ℕ). Clean (noughts w)) (sym s.wide) c.clean-zero)

      pub out-sound : Formed cap key_of blank out-keys (shift_out i blank es) (n - 1) → Sound cap width Clean out-keys out-others (n - 1)
      out-sound f =
          formed.sound cap width key_of blank read write Clean InRange c out-keys out-others (n - 1) out-wide out-long out-clean
          (subst (λ (l : List E). Formed cap key_of blank out-keys l (n - 1)) (sym out-entries) f)

      module _ (h : i < n) where
        less : Fit cap key_of blank (remove_at i rows)
        less = record {
          small = omega (arith, rows-many, s.ordered.small, length-remove_at i rows (omega (arith, rows-many)));
          ascending = rw (map-remove_at key_of i rows) (asc-remove_at (map key_of rows) i rows_fit.ascending);
        }

        pub out_at : Sound cap width Clean out-keys out-others (n - 1) × (rows_in read cap (out-keys ∷ out-others) (n - 1) ≡ remove_at i rows)
        out_at =
            back out-keys out-others (n - 1) (remove_at i rows) out-wide out-long out-clean
            (subst (λ (l : List E). Holds cap key_of blank out-keys l (n - 1) (remove_at i rows)) (sym out-entries) (taken_out cap key_of blank ks es n table i h))
            less

      pub out-key : (k : ℕ) → Ok i ≡ place_of (take n ks) k → Sound cap width Clean out-keys out-others (n - 1) × (rows_in read cap (out-keys ∷ out-others) (n - 1) ≡ remove key_of k rows)
      out-key k p =
          back out-keys out-others (n - 1) (remove key_of k rows) out-wide out-long out-clean
          (subst (λ (l : List E). Holds cap key_of blank out-keys l (n - 1) (remove key_of k rows)) (sym out-entries) (removed cap key_of blank ks es n table k i p))
          (fit-remove cap key_of blank rows rows_fit k)

    -- what the place of a key says of the room for a row under it
    pub room-told : (k : ℕ) (p : Result ℕ ℕ) → p ≡ place_of (take n ks) k → leb (count_with key_of k rows) cap ≡ room_for p n cap
    room-told k (Ok i) q = le-leb (count_with key_of k rows) cap (room-known cap key_of blank rows rows_fit k (read (at i (ks ∷ cs))) (found k i q))
    room-told k (Err i) q =
        tells-one (tells-le (count_with key_of k rows) cap)
        (tells-so (λ (h : n < cap). omega (arith, h, rows-many, count-with-missing key_of k rows (missing k i q)))
        (λ (h : count_with key_of k rows ≤ cap). omega (arith, h, rows-many, count-with-missing key_of k rows (missing k i q))) (tells-lt n cap))
