-- What a store, a shift in and a shift out of every column, and a store in one column, do to the entries.
-- Once over the number of columns, the number of places and the reading of a place.
use Prim.Native.Nat.{ℕ, zero, suc, ◌<◌, ◌≤◌}
use native.Mathlib.Nat.{le_of_suc-le-suc, not-suc-le-zero}
use native.Mathlib.Omega.{arith}
use mathlib.Core.List.{List, [], ◌∷◌, ◌++◌}
use mathlib.Core.Path.{◌≡◌, refl, ap, ◌∙◌}
use lib.ListN.{length, get_or, set, length-set}
use Rattle.flat_map.specs.Shift.{shift_in, shift_out}
use Rattle.flat_map.proofs.Rows.{cons}
use Rattle.flat_map.proofs.Shift.{length-shift-in, length-shift-out}
use Rattle.columns.specs.Columns.{places, at, entries, Long, sets, ins, outs, noughts}

-- places, by what stands in each
module _ {E : Type 0} where
  pub places-length : (n : ℕ) (f : ℕ → E) → length (places n f) ≡ n
  unfolding places
  places-length zero f = refl
  places-length (suc n) f = ap suc (places-length n (λ i. f (suc i)))

  pub place_at : (n : ℕ) (f : ℕ → E) (i : ℕ) (b : E) → i < n → get_or (places n f) i b ≡ f i
  unfolding places
  place_at zero f i b h = absurd (not-suc-le-zero h)
  place_at (suc n) f zero b h = refl
  place_at (suc n) f (suc i) b h = place_at n (λ j. f (suc j)) i b (le_of_suc-le-suc h)

  pub places_same : (n : ℕ) (f g : ℕ → E) → ((j : ℕ) → j < n → g j ≡ f j) → places n g ≡ places n f
  unfolding places
  places_same zero f g q = refl
  places_same (suc n) f g q = λ z. q zero (omega arith) z ∷ places_same n (λ j. f (suc j)) (λ j. g (suc j)) (λ j h. q (suc j) (omega (arith, h))) z

  pub places-set : (n : ℕ) (f g : ℕ → E) (i : ℕ) (e : E) → (i < n → g i ≡ e) → ((j : ℕ) → j < n → (j ≡ i → ⊥) → g j ≡ f j)
      → places n g ≡ set (places n f) i e
  unfolding places
  places-set zero f g i e p q = refl
  places-set (suc n) f g zero e p q =
      λ z. p (omega arith) z ∷ places_same n (λ j. f (suc j)) (λ j. g (suc j)) (λ j h. q (suc j) (omega (arith, h)) (λ w. omega (arith, w))) z
  places-set (suc n) f g (suc i) e p q =
      λ z. q zero (omega arith) (λ w. omega (arith, w)) z
      ∷ places-set n (λ j. f (suc j)) (λ j. g (suc j)) i e (λ h. p (omega (arith, h))) (λ j h w. q (suc j) (omega (arith, h)) (λ v. w (omega (arith, v)))) z

  pub places-in : (n : ℕ) (f g : ℕ → E) (i : ℕ) (e : E) → ((j : ℕ) → j < n → j < i → g j ≡ f j) → (i < n → g i ≡ e)
      → ((j : ℕ) → suc j < n → i ≤ j → g (suc j) ≡ f j) → places n g ≡ shift_in i e (places n f)
  unfolding places
  places-in zero f g i e a p b = refl
  places-in (suc n) f g zero e a p b =
      λ z. p (omega arith) z
      ∷ places-in n (λ j. f (suc j)) (λ j. g (suc j)) zero (f zero) (λ j h w. absurd (not-suc-le-zero w)) (λ h. b zero (omega (arith, h)) (omega arith))
      (λ j h w. b (suc j) (omega (arith, h)) (omega arith)) z
  places-in (suc n) f g (suc i) e a p b =
      λ z. a zero (omega arith) (omega arith) z
      ∷ places-in n (λ j. f (suc j)) (λ j. g (suc j)) i e (λ j h w. a (suc j) (omega (arith, h)) (omega (arith, w))) (λ h. p (omega (arith, h)))
      (λ j h w. b (suc j) (omega (arith, h)) (omega (arith, w))) z

  places-more : (n : ℕ) (f g : ℕ → E) (b : E) → ((j : ℕ) → j < n → g j ≡ f j) → g n ≡ b → places (suc n) g ≡ places n f ++ (b ∷ [])
  unfolding places
  places-more zero f g b a p = λ z. p z ∷ []
  places-more (suc n) f g b a p = λ z. a zero (omega arith) z ∷ places-more n (λ j. f (suc j)) (λ j. g (suc j)) b (λ j h. a (suc j) (omega (arith, h))) p z

  pub places-out : (n : ℕ) (f g : ℕ → E) (i : ℕ) (b : E) → ((j : ℕ) → j < n → j < i → g j ≡ f j)
      → ((j : ℕ) → suc j < n → i ≤ j → g j ≡ f (suc j)) → ((j : ℕ) → suc j ≡ n → i ≤ j → g j ≡ b) → places n g ≡ shift_out i b (places n f)
  unfolding places
  places-out zero f g i b a p q = refl
  places-out (suc n) f g zero b a p q = places-more n (λ j. f (suc j)) g b (λ j h. p j (omega (arith, h)) (omega arith)) (q n refl (omega arith))
  places-out (suc n) f g (suc i) b a p q =
      λ z. a zero (omega arith) (omega arith) z
      ∷ places-out n (λ j. f (suc j)) (λ j. g (suc j)) i b (λ j h w. a (suc j) (omega (arith, h)) (omega (arith, w)))
      (λ j h w. p (suc j) (omega (arith, h)) (omega (arith, w))) (λ j h w. q (suc j) (omega (arith, h)) (omega (arith, w))) z

-- one column, place by place
set_here : (c : List ℕ) (i v : ℕ) → i < length c → get_or (set c i v) i 0 ≡ v
set_here [] i v h = absurd (not-suc-le-zero h)
set_here (x ∷ c) zero v h = refl
set_here (x ∷ c) (suc i) v h = set_here c i v (le_of_suc-le-suc h)

set_else : (c : List ℕ) (i v j : ℕ) → (j ≡ i → ⊥) → get_or (set c i v) j 0 ≡ get_or c j 0
set_else [] i v j w = refl
set_else (x ∷ c) zero v zero w = absurd (w refl)
set_else (x ∷ c) zero v (suc j) w = refl
set_else (x ∷ c) (suc i) v zero w = refl
set_else (x ∷ c) (suc i) v (suc j) w = set_else c i v j (λ q. w (ap suc q))

in-here : (c : List ℕ) (i v : ℕ) → i < length c → get_or (shift_in i v c) i 0 ≡ v
in-here [] i v h = absurd (not-suc-le-zero h)
in-here (x ∷ c) zero v h = refl
in-here (x ∷ c) (suc i) v h = in-here c i v (le_of_suc-le-suc h)

in-before : (c : List ℕ) (i v j : ℕ) → j < i → get_or (shift_in i v c) j 0 ≡ get_or c j 0
in-before [] i v j w = refl
in-before (x ∷ c) zero v j w = absurd (not-suc-le-zero w)
in-before (x ∷ c) (suc i) v zero w = refl
in-before (x ∷ c) (suc i) v (suc j) w = in-before c i v j (le_of_suc-le-suc w)

in_after : (c : List ℕ) (i v j : ℕ) → suc j < length c → i ≤ j → get_or (shift_in i v c) (suc j) 0 ≡ get_or c j 0
in_after [] i v j h w = absurd (not-suc-le-zero h)
in_after (x ∷ c) zero v zero h w = in-here c zero x (le_of_suc-le-suc h)
in_after (x ∷ c) zero v (suc j) h w = in_after c zero x j (le_of_suc-le-suc h) (omega arith)
in_after (x ∷ c) (suc i) v zero h w = absurd (not-suc-le-zero w)
in_after (x ∷ c) (suc i) v (suc j) h w = in_after c i v j (le_of_suc-le-suc h) (le_of_suc-le-suc w)

more-here : (c : List ℕ) (j : ℕ) → length c ≡ j → get_or (c ++ (0 ∷ [])) j 0 ≡ 0
more-here [] zero h = refl
more-here [] (suc j) h = refl
more-here (x ∷ c) zero h = absurd (omega arith)
more-here (x ∷ c) (suc j) h = more-here c j (omega (arith, h))

more-before : (c : List ℕ) (j : ℕ) → j < length c → get_or (c ++ (0 ∷ [])) j 0 ≡ get_or c j 0
more-before [] j h = absurd (not-suc-le-zero h)
more-before (x ∷ c) zero h = refl
more-before (x ∷ c) (suc j) h = more-before c j (le_of_suc-le-suc h)

out-before : (c : List ℕ) (i j : ℕ) → j < i → get_or (shift_out i 0 c) j 0 ≡ get_or c j 0
out-before [] i j w = refl
out-before (x ∷ c) zero j w = absurd (not-suc-le-zero w)
out-before (x ∷ c) (suc i) zero w = refl
out-before (x ∷ c) (suc i) (suc j) w = out-before c i j (le_of_suc-le-suc w)

out-after : (c : List ℕ) (i j : ℕ) → suc j < length c → i ≤ j → get_or (shift_out i 0 c) j 0 ≡ get_or c (suc j) 0
out-after [] i j h w = absurd (not-suc-le-zero h)
out-after (x ∷ c) zero j h w = more-before c j (le_of_suc-le-suc h)
out-after (x ∷ c) (suc i) zero h w = absurd (not-suc-le-zero w)
out-after (x ∷ c) (suc i) (suc j) h w = out-after c i j (le_of_suc-le-suc h) (le_of_suc-le-suc w)

out-last : (c : List ℕ) (i j : ℕ) → suc j ≡ length c → i ≤ j → get_or (shift_out i 0 c) j 0 ≡ 0
out-last [] i j h w = refl
out-last (x ∷ c) zero j h w = more-here c j (omega (arith, h))
out-last (x ∷ c) (suc i) zero h w = absurd (not-suc-le-zero w)
out-last (x ∷ c) (suc i) (suc j) h w = out-last c i j (omega (arith, h)) (le_of_suc-le-suc w)

-- all columns, place by place
module _ (n i : ℕ) where
  pub at-sets : (cs : List (List ℕ)) (vs : List ℕ) → Long n cs → length vs ≡ length cs → i < n → at i (sets i vs cs) ≡ vs
  at-sets [] [] l k h = refl
  at-sets [] (v ∷ vs) l k h = absurd (omega (arith, k))
  at-sets (c ∷ cs) [] l k h = absurd (omega (arith, k))
  at-sets (c ∷ cs) (v ∷ vs) l k h = λ z. set_here c i v (omega (arith, h, l.0)) z ∷ at-sets cs vs l.1 (omega (arith, k)) h z

  pub at-sets-else : (cs : List (List ℕ)) (vs : List ℕ) (j : ℕ) → (j ≡ i → ⊥) → at j (sets i vs cs) ≡ at j cs
  at-sets-else [] vs j w = refl
  at-sets-else (c ∷ cs) [] j w = cons (get_or c j 0) (at-sets-else cs [] j w)
  at-sets-else (c ∷ cs) (v ∷ vs) j w = λ z. set_else c i v j w z ∷ at-sets-else cs vs j w z

  pub at-ins : (cs : List (List ℕ)) (vs : List ℕ) → Long n cs → length vs ≡ length cs → i < n → at i (ins i vs cs) ≡ vs
  at-ins [] [] l k h = refl
  at-ins [] (v ∷ vs) l k h = absurd (omega (arith, k))
  at-ins (c ∷ cs) [] l k h = absurd (omega (arith, k))
  at-ins (c ∷ cs) (v ∷ vs) l k h = λ z. in-here c i v (omega (arith, h, l.0)) z ∷ at-ins cs vs l.1 (omega (arith, k)) h z

  pub at-ins-before : (cs : List (List ℕ)) (vs : List ℕ) (j : ℕ) → j < i → at j (ins i vs cs) ≡ at j cs
  at-ins-before [] vs j w = refl
  at-ins-before (c ∷ cs) [] j w = λ z. in-before c i 0 j w z ∷ at-ins-before cs [] j w z
  at-ins-before (c ∷ cs) (v ∷ vs) j w = λ z. in-before c i v j w z ∷ at-ins-before cs vs j w z

  pub at-ins-after : (cs : List (List ℕ)) (vs : List ℕ) (j : ℕ) → Long n cs → suc j < n → i ≤ j → at (suc j) (ins i vs cs) ≡ at j cs
  at-ins-after [] vs j l h w = refl
  at-ins-after (c ∷ cs) [] j l h w = λ z. in_after c i 0 j (omega (arith, h, l.0)) w z ∷ at-ins-after cs [] j l.1 h w z
  at-ins-after (c ∷ cs) (v ∷ vs) j l h w = λ z. in_after c i v j (omega (arith, h, l.0)) w z ∷ at-ins-after cs vs j l.1 h w z

  pub at-outs-before : (cs : List (List ℕ)) (j : ℕ) → j < i → at j (outs i cs) ≡ at j cs
  at-outs-before [] j w = refl
  at-outs-before (c ∷ cs) j w = λ z. out-before c i j w z ∷ at-outs-before cs j w z

  pub at-outs-after : (cs : List (List ℕ)) (j : ℕ) → Long n cs → suc j < n → i ≤ j → at j (outs i cs) ≡ at (suc j) cs
  at-outs-after [] j l h w = refl
  at-outs-after (c ∷ cs) j l h w = λ z. out-after c i j (omega (arith, h, l.0)) w z ∷ at-outs-after cs j l.1 h w z

  pub at-outs-last : (cs : List (List ℕ)) (j : ℕ) → Long n cs → suc j ≡ n → i ≤ j → at j (outs i cs) ≡ noughts (length cs)
  at-outs-last [] j l h w = refl
  at-outs-last (c ∷ cs) j l h w = λ z. out-last c i j (omega (arith, h, l.0)) w z ∷ at-outs-last cs j l.1 h w z

-- the laws of the entries
module _ {E : Type 0} (read : List ℕ → E) (n : ℕ) (cs : List (List ℕ)) where
  pub entries-length : length (entries read n cs) ≡ n
  entries-length = places-length n (λ j. read (at j cs))

  pub entry_at : (i : ℕ) (b : E) → i < n → get_or (entries read n cs) i b ≡ read (at i cs)
  entry_at i b h = place_at n (λ j. read (at j cs)) i b h

  module _ (l : Long n cs) (i : ℕ) where
    pub entries-set : (vs : List ℕ) → length vs ≡ length cs → entries read n (sets i vs cs) ≡ set (entries read n cs) i (read vs)
    entries-set vs k =
        places-set n (λ j. read (at j cs)) (λ j. read (at j (sets i vs cs))) i (read vs) (λ h. ap read (at-sets n i cs vs l k h)) (λ j h w. ap read (at-sets-else n i cs vs j w))

    pub entries-in : (vs : List ℕ) → length vs ≡ length cs → entries read n (ins i vs cs) ≡ shift_in i (read vs) (entries read n cs)
    entries-in vs k =
        places-in n (λ j. read (at j cs)) (λ j. read (at j (ins i vs cs))) i (read vs) (λ j h w. ap read (at-ins-before n i cs vs j w)) (λ h. ap read (at-ins n i cs vs l k h))
        (λ j h w. ap read (at-ins-after n i cs vs j l h w))

    pub entries-out : entries read n (outs i cs) ≡ shift_out i (read (noughts (length cs))) (entries read n cs)
    entries-out =
        places-out n (λ j. read (at j cs)) (λ j. read (at j (outs i cs))) i (read (noughts (length cs))) (λ j h w. ap read (at-outs-before n i cs j w)) (λ j h w. ap read (at-outs-after n i cs j l h w))
        (λ j h w. ap read (at-outs-last n i cs j l h w))

-- the columns keep their places
module _ (n i : ℕ) where
  pub long-in : (cs : List (List ℕ)) (vs : List ℕ) → Long n cs → Long n (ins i vs cs)
  long-in [] vs l = tt
  long-in (c ∷ cs) [] l = (length-shift-in c i 0 ∙ l.0, long-in cs [] l.1)
  long-in (c ∷ cs) (v ∷ vs) l = (length-shift-in c i v ∙ l.0, long-in cs vs l.1)

  pub long-out : (cs : List (List ℕ)) → Long n cs → Long n (outs i cs)
  long-out [] l = tt
  long-out (c ∷ cs) l = (length-shift-out c i 0 ∙ l.0, long-out cs l.1)

  pub long-set : (cs : List (List ℕ)) (vs : List ℕ) → Long n cs → Long n (sets i vs cs)
  long-set [] vs l = tt
  long-set (c ∷ cs) [] l = (l.0, long-set cs [] l.1)
  long-set (c ∷ cs) (v ∷ vs) l = (length-set c i v ∙ l.0, long-set cs vs l.1)
