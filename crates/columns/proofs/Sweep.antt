-- Loops over sound columns: one that takes out what fails a test, and one that changes every row in its place.
-- At each turn the rest of the work, done now, gives the goal: the laws of flat_map's sweeps, read through the columns.
use Rattle.std.specs.Prelude.{Ok}
use Prim.Native.Nat.{ℕ, ◌+◌, ◌-◌, ◌<◌, ◌≤◌}
use mathlib.Core.Bool.{Bool, true, false}
use mathlib.Core.List.{List, ◌∷◌, map}
use mathlib.Core.Path.{◌≡◌, sym, ap, ◌∙◌, subst}
use lib.ListN.{take, drop, get_or}
use Rattle.standard.specs.Ordered.{keep}
use Rattle.flat_map.specs.Seek.{place_of}
use Rattle.flat_map.specs.Shift.{shift_out}
use Rattle.flat_map.specs.Table.{Formed}
use Rattle.flat_map.proofs.Change.{Changing, change-start, change-step, change-end}
use Rattle.flat_map.proofs.Fits.{fit-map}
use Rattle.flat_map.proofs.Table.{Sweep, sweep-start, sweep-kept, sweep-removed, sweep-end, holds_rows}
use Rattle.columns.specs.Columns.{at, entries, sets, outs}
use Rattle.columns.specs.Codec.{Codec}
use Rattle.columns.specs.Table.{Sound, rows_in}
use Rattle.columns.proofs.Rows as rows

module _
    {E : Type 0}
    (cap width : ℕ)
    (key_of : E → ℕ)
    (blank : E)
    (read : List ℕ → E)
    (write : E → List ℕ)
    (Clean : List ℕ → Type 0)
    (InRange : E → Type 0)
    (c : Codec width key_of blank read write Clean InRange)
  where
    -- i rows are passed, and the rest of the sweep leaves the rows `goal`
    pub record Sweeping (p : E → Bool) (goal : List E) (ks : List ℕ) (cs : List (List ℕ)) (n i : ℕ) : Type 0 where
      pub sound : Sound cap width Clean ks cs n
      pub sweep : Sweep cap key_of blank p goal ks (entries read cap (ks ∷ cs)) n i

    -- the rows before i are changed, those from i on are as they were
    pub record Mapping (g : E → E) (ks : List ℕ) (cs₀ cs : List (List ℕ)) (n i : ℕ) : Type 0 where
      pub sound : Sound cap width Clean ks cs n
      pub mapped : Changing cap g ks (entries read cap (ks ∷ cs₀)) n ks (entries read cap (ks ∷ cs)) n i

    module _ (p : E → Bool) (ks : List ℕ) (cs : List (List ℕ)) (n : ℕ) where
      pub sweep-begins : Sound cap width Clean ks cs n → Sweeping p (keep p (rows_in read cap (ks ∷ cs) n)) ks cs n 0
      sweep-begins s = record { sound = s; sweep = sweep-start cap key_of blank p ks (entries read cap (ks ∷ cs)) n (rows.table cap width key_of blank read write Clean InRange c ks cs n s) }

      module _ (goal : List E) (i : ℕ) (s : Sweeping p goal ks cs n i) where
        at_place : get_or (entries read cap (ks ∷ cs)) i blank ≡ read (at i (ks ∷ cs))
        at_place = rows.row_reads cap width key_of blank read write Clean InRange c ks cs n s.sound i

        pub sweep-passes : i < n → p (read (at i (ks ∷ cs))) ≡ true → Sweeping p goal ks cs n (i + 1)
        sweep-passes l q = record { sound = s.sound; sweep = sweep-kept cap key_of blank p ks (entries read cap (ks ∷ cs)) n goal i s.sweep l (ap p at_place ∙ q) }

        pub sweep-takes : i < n → p (read (at i (ks ∷ cs))) ≡ false → Sweeping p goal (shift_out i 0 ks) (outs i cs) (n - 1) i
        sweep-takes l q =
            let x = sweep-removed cap key_of blank p ks (entries read cap (ks ∷ cs)) n goal i s.sweep l (ap p at_place ∙ q) in
            record {
              sound = rows.out-sound cap width key_of blank read write Clean InRange c ks cs n s.sound i x.formed;
              sweep =
                  subst (λ (l : List E). Sweep cap key_of blank p goal (shift_out i 0 ks) l (n - 1) i)
                  (sym (rows.out-entries cap width key_of blank read write Clean InRange c ks cs n s.sound i)) x;
            }

        pub sweep-ends : n ≤ i → rows_in read cap (ks ∷ cs) n ≡ goal
        sweep-ends h = sweep-end cap key_of blank p ks (entries read cap (ks ∷ cs)) n goal i s.sweep h

    module _ (g : E → E) (same : (x : E) → key_of (g x) ≡ key_of x) (ks : List ℕ) (cs₀ : List (List ℕ)) (n : ℕ) (s₀ : Sound cap width Clean ks cs₀ n) where
      table₀ : Formed cap key_of blank ks (entries read cap (ks ∷ cs₀)) n
      table₀ = rows.table cap width key_of blank read write Clean InRange c ks cs₀ n s₀

      pub map-begins : Mapping g ks cs₀ cs₀ n 0
      map-begins = record { sound = s₀; mapped = change-start cap key_of blank g ks (entries read cap (ks ∷ cs₀)) n table₀ }

      module _ (cs : List (List ℕ)) (i : ℕ) (m : Mapping g ks cs₀ cs n i) where
        -- the row in place i, changed and stored
        pub map-turns : i < n → (e : E) → InRange e → e ≡ g (read (at i (ks ∷ cs))) → Mapping g ks cs₀ (sets i (drop 1 (write e)) cs) n (i + 1)
        map-turns l e r q = record { sound = (rows.over-put cap width key_of blank read write Clean InRange c ks cs n m.sound e r i place).0; mapped = turned } where
          is : read (at i (ks ∷ cs)) ≡ get_or (entries read cap (ks ∷ cs)) i blank
          is = sym (rows.row_reads cap width key_of blank read write Clean InRange c ks cs n m.sound i)

          key-is : get_or ks i 0 ≡ key_of e
          key-is = sym (ap key_of q ∙ same (read (at i (ks ∷ cs))) ∙ c.own_key (at i (ks ∷ cs)) (m.sound.clean i))

          place : Ok i ≡ place_of (take n ks) (key_of e)
          place = rows.own-place cap width key_of blank read write Clean InRange c ks cs n m.sound i l ∙ ap (place_of (take n ks)) key-is

          turned : Changing cap g ks (entries read cap (ks ∷ cs₀)) n ks (entries read cap (ks ∷ sets i (drop 1 (write e)) cs)) n (i + 1)
          turned =
              subst (λ (l : List E). Changing cap g ks (entries read cap (ks ∷ cs₀)) n ks l n (i + 1))
              (sym (rows.over-entries cap width key_of blank read write Clean InRange c ks cs n m.sound e r i place))
              (change-step cap key_of blank g ks (entries read cap (ks ∷ cs₀)) n table₀ ks (entries read cap (ks ∷ cs)) n i m.mapped e l (q ∙ ap g is))

        pub map-ends : n ≤ i → rows_in read cap (ks ∷ cs) n ≡ map g (rows_in read cap (ks ∷ cs₀) n)
        map-ends h =
            holds_rows cap key_of blank ks (entries read cap (ks ∷ cs)) n (map g (rows_in read cap (ks ∷ cs₀) n))
            (change-end cap key_of blank g ks (entries read cap (ks ∷ cs₀)) n table₀ ks (entries read cap (ks ∷ cs)) n i m.mapped same h)
            (fit-map cap key_of blank (rows_in read cap (ks ∷ cs₀) n) (rows.rows_fit cap width key_of blank read write Clean InRange c ks cs₀ n s₀) g same)
