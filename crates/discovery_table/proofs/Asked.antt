-- Whether one of the rows fits, asked row by row: the answer so far, or the answer over the rest, is the answer over all,
-- since a row passed is in the answer so far.
use Prim.Native.Nat.{ℕ, ◌+◌, ◌/◌, ◌%◌, ◌<◌, ◌≤◌}
use mathlib.Core.Bool.{Bool, not, ◌&&◌, ◌||◌, or_assoc, or-false}
use mathlib.Core.List.{List, ◌∷◌}
use mathlib.Core.Path.{◌≡◌, refl, sym, ap, ◌∙◌}
use borrow.Author.Tests.{lt-ltb, le-ltb, le-leb, lt-leb}
use lib.Dec.{eqb, ltb, leb}
use lib.ListN.{drop, get_or}
use mathlib.Core.Logic.{⊎_elim}
use Rattle.flat_map.proofs.Compare.{below_or_not}
use Rattle.flat_map.proofs.Query.{some-done}
use Rattle.standard.specs.declared.DiscoveryEntry.{DiscoveryEntry}
use Rattle.standard.specs.Discovery.{is_over, names, awaits}
use Rattle.standard.specs.Query.{some_fits}
use Rattle.discovery_table.specs.Codec.{discovery_in}
use Rattle.discovery_table.specs.Table.{DiscoveryTable, WellFormed, rows_of}
use Rattle.discovery_table.proofs.Rows.{next_row, no_row}

-- i rows are passed
abbrev pub Asked : DiscoveryTable → (DiscoveryEntry → Bool) → Bool → ℕ → Type 0
Asked t fits said i = (said || some_fits fits (drop i (rows_of t))) ≡ some_fits fits (rows_of t)

some_next : (fits : DiscoveryEntry → Bool) (xs rest : List DiscoveryEntry) (x : DiscoveryEntry) → xs ≡ x ∷ rest → some_fits fits xs ≡ (fits x || some_fits fits rest)
unfolding some_fits
some_next fits xs rest x e = rw (e, some_fits)

module _ (t : DiscoveryTable) (w : WellFormed t) (fits : DiscoveryEntry → Bool) (said : Bool) (i : ℕ) (a : Asked t fits said i) where
  pub asked-more : i < t.count → (b : Bool) → b ≡ fits (discovery_in (get_or t.keys i 0) (get_or t.words i 0) (get_or t.ends i 0)) → Asked t fits (said || b) (i + 1)
  asked-more h b q =
      or_assoc said b (some_fits fits (drop (i + 1) (rows_of t)))
      ∙ ap (λ (c : Bool). said || (c || some_fits fits (drop (i + 1) (rows_of t)))) q
      ∙ ap (λ (c : Bool). said || c) (sym (some_next fits (drop i (rows_of t)) (drop (i + 1) (rows_of t)) _ (next_row t w i h)))
      ∙ a

  pub asked-all : t.count ≤ i → said ≡ some_fits fits (rows_of t)
  asked-all h = sym (or-false said) ∙ ap (λ (c : Bool). said || c) (sym (some-done fits (no_row t w i h))) ∙ a

-- each test, by the numbers of a place
module _ (k w u : ℕ) where
  pub over-is : (now : ℕ) → leb u now ≡ is_over now (discovery_in k w u)
  unfolding discovery_in
  over-is now = ⊎_elim (λ (h : now < u). lt-leb u now h ∙ ap not (sym (lt-ltb now u h))) (λ (h : u ≤ now). le-leb u now h ∙ ap not (sym (le-ltb now u h))) (below_or_not now u)

  pub names-is : (d : ℕ) → eqb ((w / 65536) % 65536) d ≡ names d (discovery_in k w u)
  unfolding discovery_in
  names-is d = refl

  pub awaits-is : (d now : ℕ) → (ltb now u && eqb ((w / 65536) % 65536) d) ≡ awaits d now (discovery_in k w u)
  unfolding discovery_in
  awaits-is d now = refl
