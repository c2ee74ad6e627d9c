-- A table that is lent is well formed, which the type says; so it is a table for every law of tables, and each step leaves one.
use Rattle.std.specs.Prelude.{Ok, Err}
use Prim.Native.Nat.{ℕ, ◌+◌, ◌-◌, ◌<◌}
use mathlib.Core.Bool.{true}
use mathlib.Core.List.{List, [], ◌∷◌}
use mathlib.Core.Path.{◌≡◌, sym, ap, ◌∙◌, subst}
use lib.ListN.{set}
use Rattle.standard.specs.declared.DiscoveryEntry.{DiscoveryEntry}
use Rattle.standard.specs.Discovery.{discovery_key}
use Rattle.standard.specs.Ordered.{put}
use Rattle.flat_map.specs.Shift.{shift_in, shift_out}
use Rattle.columns.proofs.Rows as rows
use Rattle.discovery_table.specs.Codec.{discovery_word, discovery_numbers, discovery_of, Clean, InRange}
use Rattle.discovery_table.specs.Table.{DiscoveryTable, in_columns, blank_discovery, WellFormed, well_formed, rows_of, Holds}
use Rattle.discovery_table.specs.declared.Discoveries.{Discoveries}
use Rattle.discovery_table.specs.declared.DiscoveryValues.{DiscoveryValues}
use Rattle.discovery_table.specs.declared.DiscoveriesSeen.{DiscoveriesSeen}
use Rattle.discovery_table.specs.Lent.{table, value_table, seen_table, discoveries_of, place_in}
use Rattle.discovery_table.proofs.Codec.{codec}
use Rattle.discovery_table.proofs.Rows.{well-formed-told, table-sound, sound-formed, set_holds, insert-holds}

pub formed : (d : Discoveries) → WellFormed (table d)
formed d = (well-formed-told (table d)).fact d.formed

pub values-formed : (d : DiscoveryValues) → WellFormed (value_table d)
values-formed d = (well-formed-told (value_table d)).fact d.formed

pub seen-formed : (d : DiscoveriesSeen) → WellFormed (seen_table d)
seen-formed d = (well-formed-told (seen_table d)).fact d.formed

-- the test of columns that hold discoveries
pub told : (t : DiscoveryTable) → WellFormed t → well_formed t ≡ true
told t w = (well-formed-told t).flag w

-- a lent table as one that holds its discoveries
pub holds : (d : Discoveries) (xs : List DiscoveryEntry) → discoveries_of d ≡ xs → Holds (table d) xs
holds d xs p = record { formed = formed d; rows = p }

module _ (t : DiscoveryTable) (w : WellFormed t) (e : DiscoveryEntry) (r : InRange e) (i : ℕ) where
  -- the table with a discovery stored over the one of its pair
  pub over : Ok i ≡ place_in t (discovery_key e) → (words ends : List ℕ) (v : ℕ) → v ≡ discovery_word e → words ≡ set t.words i v → ends ≡ set t.ends i e.expiration_time
      → Holds (in_columns t.keys words ends t.count) (put discovery_key e (rows_of t))
  over p words ends v q f g =
      subst (λ (x : DiscoveryTable). Holds x (put discovery_key e (rows_of t))) (sym (λ z. in_columns t.keys ((f ∙ ap (set t.words i) q) z) (g z) t.count)) (set_holds t w e r i p)

  -- and with one put in where its pair is missing
  pub put-in : Err i ≡ place_in t (discovery_key e) → t.count < 32 → (k v : ℕ) → k ≡ discovery_key e → v ≡ discovery_word e
      → (x : DiscoveryTable) → x ≡ in_columns (shift_in i k t.keys) (shift_in i v t.words) (shift_in i e.expiration_time t.ends) (t.count + 1)
      → Holds x (put discovery_key e (rows_of t))
  put-in p room k v f g x q =
      subst (λ (y : DiscoveryTable). Holds y (put discovery_key e (rows_of t)))
      (sym (q ∙ (λ z. in_columns (shift_in i (f z) t.keys) (shift_in i (g z) t.words) (shift_in i e.expiration_time t.ends) (t.count + 1))))
      (insert-holds t w e r i p room)

-- the table with a place in use taken out
pub out-formed : (t : DiscoveryTable) → WellFormed t → (i : ℕ) → i < t.count
    → WellFormed (in_columns (shift_out i 0 t.keys) (shift_out i 0 t.words) (shift_out i 0 t.ends) (t.count - 1))
out-formed t w i l =
    sound-formed _ (rows.out_at 32 3 discovery_key blank_discovery discovery_of discovery_numbers Clean InRange codec t.keys (t.words ∷ t.ends ∷ []) t.count (table-sound t w) i l).0
