-- A table that is lent is well formed, which the type says; so it is a table for every law of tables, and each step leaves one.
use Rattle.std.specs.Prelude.{Ok}
use Prim.Native.Nat.{ℕ, ◌-◌, ◌<◌}
use mathlib.Core.Bool.{true}
use mathlib.Core.List.{List, [], ◌∷◌}
use mathlib.Core.Path.{◌≡◌, sym, ap, ◌∙◌, subst}
use lib.ListN.{set}
use Rattle.standard.specs.declared.RouteEntry.{RouteEntry}
use Rattle.standard.specs.Ordered.{put}
use Rattle.standard.specs.Route.{route_key}
use Rattle.flat_map.specs.Shift.{shift_out}
use Rattle.columns.proofs.Rows as rows
use Rattle.route_table.specs.Codec.{route_word, route_numbers, route_of, Clean, InRange}
use Rattle.route_table.specs.Table.{RouteTable, in_columns, blank_route, WellFormed, well_formed, rows_of, Holds}
use Rattle.route_table.specs.declared.Routes.{Routes}
use Rattle.route_table.specs.declared.RouteValues.{RouteValues}
use Rattle.route_table.specs.declared.RoutesSeen.{RoutesSeen}
use Rattle.route_table.specs.Lent.{table, value_table, seen_table, routes_of, place_in, ValuesBecome}
use Rattle.route_table.proofs.Codec.{codec}
use Rattle.route_table.proofs.Rows.{well-formed-told, table-sound, sound-formed, over-holds}

pub formed : (r : Routes) → WellFormed (table r)
formed r = (well-formed-told (table r)).fact r.formed

pub values-formed : (r : RouteValues) → WellFormed (value_table r)
values-formed r = (well-formed-told (value_table r)).fact r.formed

pub seen-formed : (r : RoutesSeen) → WellFormed (seen_table r)
seen-formed r = (well-formed-told (seen_table r)).fact r.formed

-- the test of columns that hold routes
pub told : (t : RouteTable) → WellFormed t → well_formed t ≡ true
told t w = (well-formed-told t).flag w

-- a lent table as one that holds its routes
pub holds : (r : Routes) (xs : List RouteEntry) → routes_of r ≡ xs → Holds (table r) xs
holds r xs p = record { formed = formed r; rows = p }

-- and one whose values alone were lent: its keys and its count are as they were
pub values-hold : (old new : RouteValues) (xs : List RouteEntry) → ValuesBecome old new xs → Holds (in_columns old.keys.now new.words.now new.usage.now old.count) xs
values-hold old new xs q =
    subst (λ (t : RouteTable). Holds t xs) (λ z. in_columns ((q.keys z).now) new.words.now new.usage.now (q.count z))
    (record { formed = values-formed new; rows = q.routes })

-- the table with a route stored over the one of its destination
module _ (t : RouteTable) (w : WellFormed t) (e : RouteEntry) (r : InRange e) (i : ℕ) (p : Ok i ≡ place_in t (route_key e)) (words usage : List ℕ) (v : ℕ) where
  pub over : v ≡ route_word e → words ≡ set t.words i v → usage ≡ set t.usage i e.total_usage_count → Holds (in_columns t.keys words usage t.count) (put route_key e (rows_of t))
  over q f g =
      subst (λ (x : RouteTable). Holds x (put route_key e (rows_of t))) (sym (λ z. in_columns t.keys ((f ∙ ap (set t.words i) q) z) (g z) t.count)) (over-holds t w e r i p)

-- the table with a place in use taken out
pub out-formed : (t : RouteTable) → WellFormed t → (i : ℕ) → i < t.count
    → WellFormed (in_columns (shift_out i 0 t.keys) (shift_out i 0 t.words) (shift_out i 0 t.usage) (t.count - 1))
out-formed t w i l =
    sound-formed _ (rows.out_at 64 3 route_key blank_route route_of route_numbers Clean InRange codec t.keys (t.words ∷ t.usage ∷ []) t.count (table-sound t w) i l).0

-- the columns when a loan is over, each of them the memory that was lent: they are the table that the loan left
pub given-back : (r : Routes) (keys words usage : List ℕ) → keys ≡ r.keys.now → words ≡ r.words.now → usage ≡ r.usage.now
    → (xs : List RouteEntry) → routes_of r ≡ xs → Holds (in_columns keys words usage r.count) xs
given-back r keys words usage k w u xs p = subst (λ (t : RouteTable). Holds t xs) (sym (λ z. in_columns (k z) (w z) (u z) r.count)) (holds r xs p)

pub values-given-back : (old new : RouteValues) (xs : List RouteEntry) → ValuesBecome old new xs
    → (words usage : List ℕ) → words ≡ new.words.now → usage ≡ new.usage.now → Holds (in_columns old.keys.now words usage old.count) xs
values-given-back old new xs q words usage w u =
    subst (λ (t : RouteTable). Holds t xs) (sym (λ z. in_columns old.keys.now (w z) (u z) old.count)) (values-hold old new xs q)
