-- A copy that moves numbers by a row leaves them where the shift of the rows has them and the others as they were:
-- the store is the shifted list of rows laid out.
use Rattle.std.specs.Prelude.{Ok, Err}
use Prim.Native.Nat.{ℕ, suc, ◌+◌, ◌-◌, ◌*◌, ◌<◌, ◌≤◌}
use native.Mathlib.Omega.{arith}
use mathlib.Core.List.{List, [], map}
use mathlib.Core.Path.{◌≡◌, sym, ap, ◌∙◌}
use lib.ListN.{length, get_or, set}
use lib.Seq.{get_or-set_same}
use Rattle.std.specs.List.{CopiedTo, SameBelow}
use Rattle.types.specs.declared.Nwk.{Nwk}
use Rattle.standard.specs.declared.RelayList.{RelayList}
use Rattle.flat_map.specs.Shift.{shift_in, shift_out}
use Rattle.flat_map.specs.Table.{Each}
use Rattle.flat_map.proofs.Rows.{length-pad}
use Rattle.flat_map.proofs.Shift.{length-shift-in}
use Rattle.columns.proofs.Places.{places-in, places-out}
use Rattle.relay_store.specs.Store.{number, row_at, with_row, rows_in, flat, on_rows, row_of, row_put, blank_row, relays_of, relay_list}
use Rattle.relay_store.proofs.Cells.{list-relays, list_count}
use Rattle.relay_store.proofs.Rows.{Wide, count-rows, flat_rows, rows-flat, length-flat, row_is, wide_row, wide_rows, rows-with-row, length-with-row, row_kept, wide-shift-in, set-shift-in, rows-places, row_same}

-- a row that holds relays has 32 numbers
pub wide_of : (relays : List Nwk) → Wide (row_of relays)
wide_of relays = length-pad {A = ℕ} 32 0 (map number relays)

pub wide : (l : RelayList) → Wide (row_of (relays_of l))
wide l = wide_of (relays_of l)

-- a list that names no relay makes the blank row
pub none_row : (l : RelayList) → l ≡ relay_list [] → row_of (relays_of l) ≡ blank_row
none_row l e = ap (λ (x : RelayList). row_of (relays_of x)) e ∙ ap row_of (list-relays [] (omega arith))

pub none-few : (l : RelayList) → l ≡ relay_list [] → l.count ≤ 32
none-few l e = omega (arith, ap (λ (x : RelayList). x.count) e, list_count [])

-- the store after a row was written
module _ (s : List ℕ) (places : length s ≡ 2048) (i : ℕ) (h : i < 64) (row : List ℕ) (w : Wide row) (after : List ℕ) (e : after ≡ with_row i row s) where
  pub written-places : length after ≡ 2048
  written-places = ap length e ∙ length-with-row row w 64 i s h (omega arith) ∙ places

  pub written-rows : rows_in 64 after ≡ set (rows_in 64 s) i row
  written-rows = ap (rows_in 64) e ∙ rows-with-row row w 64 i s h (omega arith)

-- a store whose rows are known is these rows laid out
pub laid_out : (s : List ℕ) (rows : List (List ℕ)) → length s ≡ 2048 → rows_in 64 s ≡ rows → s ≡ flat rows
laid_out s rows places e = sym (flat_rows 64 s (omega arith)) ∙ ap flat e

wide_at : (s : List ℕ) → length s ≡ 2048 → (r : ℕ) → r < 64 → length (row_at r s) ≡ 32
wide_at s places r h = wide_row 64 r s (omega arith) h

-- upwards: the numbers from row i on copied to the next row, up to the end
module _ (s₀ s : List ℕ) (i : ℕ) (places : length s₀ ≡ 2048) (h : i < 64) (e : length s ≡ length s₀) (low : SameBelow s₀ s (32 * i + 32)) (copied : CopiedTo s₀ s (32 * i) (32 * i + 32) (2016 - 32 * i)) where
  pub rows-raised : s ≡ on_rows (shift_in i (row_at i s₀)) s₀
  rows-raised = laid_out s (shift_in i (row_at i s₀) (rows_in 64 s₀)) (e ∙ places)
      (rows-places 64 s
      ∙ places-in 64 (λ q. row_at q s₀) (λ q. row_at q s) i (row_at i s₀) (λ q g b. kept q g (omega arith)) (λ g. kept i g (omega arith)) moved
      ∙ ap (shift_in i (row_at i s₀)) (sym (rows-places 64 s₀))) where
        kept : (q : ℕ) → q < 64 → q ≤ i → row_at q s ≡ row_at q s₀
        kept q g b = row_same s s₀ q q (wide_at s (e ∙ places) q g) (wide_at s₀ places q g) (λ k m. low (32 * q + k) 0 (omega arith))

        less : (q k : ℕ) → i ≤ q → 32 * i + (32 * suc q + k - (32 * i + 32)) ≡ 32 * q + k
        less q k b = omega arith

        moved : (q : ℕ) → suc q < 64 → i ≤ q → row_at (suc q) s ≡ row_at q s₀
        moved q g b = row_same s s₀ (suc q) q (wide_at s (e ∙ places) (suc q) g) (wide_at s₀ places q (omega arith))
            (λ k m. copied (32 * suc q + k) 0 (omega arith) (omega arith) ∙ ap (λ (n : ℕ). get_or s₀ n 0) (less q k b))

-- downwards: the numbers after row i copied to the row before, and the last row written blank
module _ (s₀ s : List ℕ) (i : ℕ) (places : length s₀ ≡ 2048) (h : i < 64) (e : length s ≡ length s₀) (low : SameBelow s₀ s (32 * i)) (copied : CopiedTo s₀ s (32 * i + 32) (32 * i) (2048 - (32 * i + 32))) where
  pub rows-lowered : (none : RelayList) → none ≡ relay_list [] → (after : List ℕ) → after ≡ with_row 63 (row_of (relays_of none)) s → after ≡ on_rows (shift_out i blank_row) s₀
  rows-lowered none n after a = laid_out after (shift_out i blank_row (rows_in 64 s₀)) size
      (rows-places 64 after
      ∙ places-out 64 (λ q. row_at q s₀) (λ q. row_at q after) i blank_row
      (λ q g b. other q (omega arith) ∙ row_same s s₀ q q (wide_at s (e ∙ places) q g) (wide_at s₀ places q g) (λ k m. low (32 * q + k) 0 (omega arith)))
      (λ q g b. other q (omega arith) ∙ row_same s s₀ q (suc q) (wide_at s (e ∙ places) q (omega arith)) (wide_at s₀ places (suc q) g) (λ k m. copied (32 * q + k) 0 (omega arith) (omega arith) ∙ ap (λ (n : ℕ). get_or s₀ n 0) (more q k b)))
      last
      ∙ ap (shift_out i blank_row) (sym (rows-places 64 s₀))) where
        size : length after ≡ 2048
        size = written-places s (e ∙ places) 63 (omega arith) (row_of (relays_of none)) (wide none) after a

        other : (q : ℕ) → q < 63 → row_at q after ≡ row_at q s
        other q g = ap (row_at q) a ∙ row_kept (row_of (relays_of none)) (wide none) 64 63 q s (omega arith) (omega arith) (omega (arith, e, places)) (λ w. omega arith)

        more : (q k : ℕ) → i ≤ q → 32 * i + 32 + (32 * q + k - 32 * i) ≡ 32 * suc q + k
        more q k b = omega arith

        last : (q : ℕ) → suc q ≡ 64 → i ≤ q → row_at q after ≡ blank_row
        last q g b =
            sym (row_is 64 q after [] (omega arith))
            ∙ ap (λ (rows : List (List ℕ)). get_or rows q []) (written-rows s (e ∙ places) 63 (omega arith) (row_of (relays_of none)) (wide none) after a)
            ∙ ap (λ (m : ℕ). get_or (set (rows_in 64 s) 63 (row_of (relays_of none))) m []) (at q g)
            ∙ get_or-set_same (rows_in 64 s) 63 (row_of (relays_of none)) [] (omega (arith, count-rows 64 s))
            ∙ none_row none n where
              at : (q : ℕ) → suc q ≡ 64 → q ≡ 63
              at q g = omega arith

-- a row written over the one of its place, or where the rows were shifted to make room for it
module _ (s : List ℕ) (places : length s ≡ 2048) (i : ℕ) (h : i < 64) (row : List ℕ) (w : Wide row) where
  pub row-over : (after : List ℕ) → after ≡ with_row i row s → after ≡ on_rows (row_put (Ok i) row) s
  row-over after e = laid_out after _ (written-places s places i h row w after e) (written-rows s places i h row w after e)

  pub row-between : (x : List ℕ) → Wide x → (shifted after : List ℕ) → shifted ≡ on_rows (shift_in i x) s → after ≡ with_row i row shifted → after ≡ on_rows (row_put (Err i) row) s
  row-between x v shifted after q e =
      laid_out after _ (written-places shifted size i h row w after e)
      (written-rows shifted size i h row w after e ∙ ap (λ (rows : List (List ℕ)). set rows i row) now ∙ set-shift-in (rows_in 64 s) i x row) where
        rows : List (List ℕ)
        rows = shift_in i x (rows_in 64 s)

        each : Each Wide rows
        each = wide-shift-in (rows_in 64 s) i x v (wide_rows 64 s (omega arith))

        many : length rows ≡ 64
        many = length-shift-in (rows_in 64 s) i x ∙ count-rows 64 s

        size : length shifted ≡ 2048
        size = ap length q ∙ omega (arith, length-flat rows each, many)

        now : rows_in 64 shifted ≡ rows
        now = ap (rows_in 64) q ∙ rows-flat rows 64 each many
