-- The routes gone through one after the other: a sweep that takes out what fails a test, and a question asked row by row.
-- Both are laws of columns and of rows, for this table.
use Prim.Native.Nat.{ℕ, ◌+◌, ◌-◌, ◌<◌, ◌≤◌}
use mathlib.Core.Bool.{Bool, true, false}
use mathlib.Core.List.{List, [], ◌∷◌}
use mathlib.Core.Path.{◌≡◌, sym, ap, ◌∙◌, subst}
use native.Mathlib.Omega.{arith}
use lib.ListN.{drop, get_or}
use Rattle.flat_map.specs.Shift.{shift_out}
use Rattle.flat_map.proofs.Query as query
use Rattle.standard.specs.declared.RouteEntry.{RouteEntry}
use Rattle.standard.specs.Ordered.{keep}
use Rattle.standard.specs.Query.{some_fits}
use Rattle.standard.specs.Route.{route_key}
use Rattle.columns.specs.Columns.{entries}
use Rattle.columns.proofs.Rows as rows
use Rattle.columns.proofs.Sweep.{Sweeping, sweep-begins, sweep-passes, sweep-takes, sweep-ends}
use Rattle.route_table.specs.Codec.{route_numbers, route_in, route_of, Clean, InRange}
use Rattle.route_table.specs.Table.{RouteTable, in_columns, blank_route, WellFormed, rows_of, Holds}
use Rattle.route_table.proofs.Codec.{codec}
use Rattle.route_table.proofs.Rows.{table-sound, sound-formed, flat-table, many}

-- i rows are passed, and the rest of the sweep leaves the rows `goal`
abbrev pub Swept : (RouteEntry → Bool) → List RouteEntry → List ℕ → List ℕ → List ℕ → ℕ → ℕ → Type 0
Swept p goal keys words usage n i = Sweeping 64 3 route_key blank_route route_of route_numbers Clean InRange codec p goal keys (words ∷ usage ∷ []) n i

module _ (p : RouteEntry → Bool) (keys words usage : List ℕ) (n : ℕ) where
  pub begun : WellFormed (in_columns keys words usage n) → Swept p (keep p (rows_of (in_columns keys words usage n))) keys words usage n 0
  begun w = sweep-begins 64 3 route_key blank_route route_of route_numbers Clean InRange codec p keys (words ∷ usage ∷ []) n (table-sound (in_columns keys words usage n) w)

  module _ (goal : List RouteEntry) (i : ℕ) (s : Swept p goal keys words usage n i) (e : RouteEntry) (is : e ≡ route_in (get_or keys i 0) (get_or words i 0) (get_or usage i 0)) where
    pub kept : i < n → p e ≡ true → Swept p goal keys words usage n (i + 1)
    kept l h = sweep-passes 64 3 route_key blank_route route_of route_numbers Clean InRange codec p keys (words ∷ usage ∷ []) n goal i s l (ap p (sym is) ∙ h)

    pub taken : i < n → p e ≡ false → (keys' words' usage' : List ℕ) → keys' ≡ shift_out i 0 keys → words' ≡ shift_out i 0 words → usage' ≡ shift_out i 0 usage
        → Swept p goal keys' words' usage' (n - 1) i
    taken l h keys' words' usage' f g u =
        subst (λ (t : RouteTable). Swept p goal t.keys t.words t.usage (n - 1) i) (sym (λ z. in_columns (f z) (g z) (u z) n))
        (sweep-takes 64 3 route_key blank_route route_of route_numbers Clean InRange codec p keys (words ∷ usage ∷ []) n goal i s l (ap p (sym is) ∙ h))

  pub ended : (goal : List RouteEntry) (i : ℕ) → Swept p goal keys words usage n i → n ≤ i → Holds (in_columns keys words usage n) goal
  ended goal i s h = record {
    formed = sound-formed (in_columns keys words usage n) s.sound;
    rows = sweep-ends 64 3 route_key blank_route route_of route_numbers Clean InRange codec p keys (words ∷ usage ∷ []) n goal i s h;
  }

-- no row that is passed fits
abbrev pub NoneYet : RouteTable → (RouteEntry → Bool) → ℕ → Type 0
NoneYet t fits i = some_fits fits (drop i (rows_of t)) ≡ some_fits fits (rows_of t)

module _ (t : RouteTable) (w : WellFormed t) (fits : RouteEntry → Bool) (i : ℕ) (a : NoneYet t fits i) where
  next_row : (e : RouteEntry) → e ≡ route_in (get_or t.keys i 0) (get_or t.words i 0) (get_or t.usage i 0) → i < t.count → drop i (rows_of t) ≡ e ∷ drop (i + 1) (rows_of t)
  next_row e is h =
      query.next_row 64 route_key blank_route t.keys (entries route_of 64 (t.keys ∷ t.words ∷ t.usage ∷ [])) t.count (flat-table t w) i h
      ∙ ap (λ (x : RouteEntry). x ∷ drop (i + 1) (rows_of t))
      (rows.row_reads 64 3 route_key blank_route route_of route_numbers Clean InRange codec t.keys (t.words ∷ t.usage ∷ []) t.count (table-sound t w) i ∙ sym is)

  module _ (e : RouteEntry) (is : e ≡ route_in (get_or t.keys i 0) (get_or t.words i 0) (get_or t.usage i 0)) (h : i < t.count) where
    pub one-fits : fits e ≡ true → true ≡ some_fits fits (rows_of t)
    one-fits q = sym (query.some-here fits (next_row e is h) q) ∙ a

    pub not-this : fits e ≡ false → NoneYet t fits (i + 1)
    not-this q = sym (query.some-past fits (next_row e is h) q) ∙ a

  pub none-fits : t.count ≤ i → false ≡ some_fits fits (rows_of t)
  none-fits h = sym (query.some-done fits (query.rest-done (rows_of t) i (omega (arith, h, many t w)))) ∙ a
