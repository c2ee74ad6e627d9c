-- Where a row stands that is looked up by addresses that may be given: what each look-up tells of the rows.
use Rattle.std.specs.Prelude.{Option, Some, None, Ok, Err}
use Prim.Native.Nat.{ℕ, ◌+◌, ◌<◌, ◌≤◌}
use native.Mathlib.Nat.{eq-or-lt_of_le}
use native.Mathlib.Omega.{arith}
use mathlib.Core.Bool.{true, false}
use mathlib.Core.List.{List}
use mathlib.Core.Logic.{⊎_elim}
use mathlib.Core.Path.{◌≡◌, refl, sym, ap, ◌∙◌, subst}
use lib.ListN.{length, take, get_or}
use Rattle.types.specs.declared.Eui64.{Eui64}
use Rattle.types.specs.declared.Nwk.{Nwk}
use Rattle.flat_map.specs.Seek.{place_of}
use Rattle.standard.specs.Query.{first}
use Rattle.columns.specs.Columns.{FirstAt}
use Rattle.neighbor_table.specs.declared.NeighborEntry.{NeighborEntry}
use Rattle.neighbor_queries.specs.declared.Filter.TheVariants.{EndDeviceChildAt}
use Rattle.neighbor_queries.specs.Filter.{fits}
use Rattle.neighbor_columns.specs.Codec.{neighbor_from}
use Rattle.neighbor_columns.specs.Table.{NeighborTable, row_at}
use Rattle.neighbor_columns.specs.Lent.{lent_keys, with_nwks, with_links, with_count}
use Rattle.neighbor_columns.proofs.Rows.{found-row, missing-row, first-row, first-no-row}
use Rattle.neighbor_changes_lent.proofs.Held.{place-below, address-row, no-address-row}
use Rattle.children.specs.Known.{by_name_of, by_address, or_else, known}
use Rattle.children_lent.specs.Places.{StandsAt}
use Rattle.children_lent.specs.Parts.{child_here}

-- by an extended address
module _ (keys : List ℕ) (n : ℕ) (m : Option Eui64) where
  pub named : (k : Eui64) (i : ℕ) → m ≡ Some k → n ≤ length keys → Ok i ≡ place_of (take n keys) k.0 → StandsAt (lent_keys keys n) (by_name_of m) n i
  named k i e l p =
      subst (λ (x : Option Eui64). StandsAt (lent_keys keys n) (by_name_of x) n i) (sym e)
      (record { there = λ h t f. found-row (lent_keys keys n t) f k.0 i p; nowhere = λ h. absurd (omega (arith, h, place-below keys n k.0 i l p)) })

  pub not_named : (k : Eui64) (i : ℕ) → m ≡ Some k → Err i ≡ place_of (take n keys) k.0 → StandsAt (lent_keys keys n) (by_name_of m) n n
  not_named k i e p =
      subst (λ (x : Option Eui64). StandsAt (lent_keys keys n) (by_name_of x) n n) (sym e)
      (record { there = λ h. absurd (omega arith); nowhere = λ h t f. missing-row (lent_keys keys n t) f k.0 i p })

  pub no_name : m ≡ None → StandsAt (lent_keys keys n) (by_name_of m) n n
  no_name e =
      subst (λ (x : Option Eui64). StandsAt (lent_keys keys n) (by_name_of x) n n) (sym e) (record { there = λ h. absurd (omega arith); nowhere = λ h t f. refl })

-- by a network address
module _ (nwks : List ℕ) (n : ℕ) (m : Option Nwk) where
  pub addressed : (k : Nwk) (i : ℕ) → m ≡ Some k → FirstAt nwks n k.0 i → StandsAt (λ t. with_nwks nwks (with_count n t)) (by_address m) n i
  addressed k i e p =
      subst (λ (x : Option Nwk). StandsAt (λ t. with_nwks nwks (with_count n t)) (by_address x) n i) (sym e)
      (record {
        there = λ h t f. address-row (with_nwks nwks (with_count n t)) f k i p h;
        nowhere = λ h t f. no-address-row (with_nwks nwks (with_count n t)) f k i p h;
      })

  pub no_address : m ≡ None → StandsAt (λ t. with_nwks nwks (with_count n t)) (by_address m) n n
  no_address e =
      subst (λ (x : Option Nwk). StandsAt (λ t. with_nwks nwks (with_count n t)) (by_address x) n n) (sym e)
      (record { there = λ h. absurd (omega arith); nowhere = λ h t f. refl })

-- by both: the extended address wins
first-known : (m : Option Eui64) (a : Option Nwk) (xs : List NeighborEntry) (e : NeighborEntry) → by_name_of m xs ≡ Some e → known m a xs ≡ Some e
unfolding known
first-known m a xs e h = ap (λ (o : Option NeighborEntry). or_else o (by_address a xs)) h

then-known : (m : Option Eui64) (a : Option Nwk) (xs : List NeighborEntry) → by_name_of m xs ≡ None → known m a xs ≡ by_address a xs
unfolding known
then-known m a xs h = ap (λ (o : Option NeighborEntry). or_else o (by_address a xs)) h

module _ (keys nwks : List ℕ) (n : ℕ) (m : Option Eui64) (a : Option Nwk) (i : ℕ) (s : StandsAt (lent_keys keys n) (by_name_of m) n i) where
  pub known-named : i < n → StandsAt (λ t. with_nwks nwks (lent_keys keys n t)) (known m a) n i
  known-named l = record { there = λ h t f. first-known m a _ _ (s.there l (with_nwks nwks t) f); nowhere = λ h. absurd (omega (arith, h, l)) }

  pub known-addressed : n ≤ i → (j : ℕ) → StandsAt (λ t. with_nwks nwks (with_count n t)) (by_address a) n j → StandsAt (λ t. with_nwks nwks (lent_keys keys n t)) (known m a) n j
  known-addressed l j r = record {
    there = λ h t f. then-known m a _ (s.nowhere l (with_nwks nwks t) f) ∙ r.there h (lent_keys keys n t) f;
    nowhere = λ h t f. then-known m a _ (s.nowhere l (with_nwks nwks t) f) ∙ r.nowhere h (lent_keys keys n t) f;
  }

-- a walk over the places that stops at the first end device child with a network address
abbrev pub Passed : List ℕ → List ℕ → Nwk → ℕ → Type 0
Passed nwks links nwk i = (j : ℕ) → j < i → child_here nwk (get_or nwks j 0) (get_or links j 0) ≡ false

row_here : (t : NeighborTable) (nwk : Nwk) (j : ℕ) → fits (EndDeviceChildAt nwk) (row_at t j) ≡ child_here nwk (get_or t.nwks j 0) (get_or t.links j 0)
unfolding fits neighbor_from
row_here t nwk j = refl

module _ (nwks links : List ℕ) (n : ℕ) (nwk : Nwk) where
  abbrev seen : NeighborTable → NeighborTable
  seen t = with_nwks nwks (with_links links (with_count n t))

  pub passed-more : (i : ℕ) → Passed nwks links nwk i → child_here nwk (get_or nwks i 0) (get_or links i 0) ≡ false → Passed nwks links nwk (i + 1)
  passed-more i p q j h = ⊎_elim (λ (w : j ≡ i). ap (λ (m : ℕ). child_here nwk (get_or nwks m 0) (get_or links m 0)) w ∙ q) (λ (w : j < i). p j w) (eq-or-lt_of_le (omega (arith, h)))

  pub child-stands : (i : ℕ) → i < n → Passed nwks links nwk i → child_here nwk (get_or nwks i 0) (get_or links i 0) ≡ true → StandsAt (λ t. with_nwks nwks (with_links links (with_count n t))) (first (fits (EndDeviceChildAt nwk))) n i
  child-stands i l p q = record {
    there = λ h t f. first-row (seen t) f (fits (EndDeviceChildAt nwk)) i h (λ j g. row_here (seen t) nwk j ∙ p j g) (row_here (seen t) nwk i ∙ q);
    nowhere = λ h. absurd (omega (arith, h, l));
  }

  pub child-nowhere : (i : ℕ) → n ≤ i → Passed nwks links nwk i → StandsAt (λ t. with_nwks nwks (with_links links (with_count n t))) (first (fits (EndDeviceChildAt nwk))) n n
  child-nowhere i l p = record {
    there = λ h. absurd (omega arith);
    nowhere = λ h t f. first-no-row (seen t) f (fits (EndDeviceChildAt nwk)) (λ j g. row_here (seen t) nwk j ∙ p j (omega (arith, g, l)));
  }
