-- A change that keeps the key is one put over the row found, at the place where it stands; without a row it leaves the rows as they are.
-- A row put is refused by the count of rows that it would make, and a removal leaves fewer rows exactly where there was one.
use Rattle.std.specs.Prelude.{Option, Some, None, Result, Ok, Err}
use Prim.Native.Nat.{ℕ, suc, ◌+◌, ◌<◌, ◌≤◌}
use mathlib.Core.Bool.{Bool, true, false, cond}
use mathlib.Core.List.{List, [], ◌∷◌}
use mathlib.Core.Path.{◌≡◌, refl, sym, ap, ◌∙◌}
use native.Mathlib.Omega.{arith}
use borrow.Author.Tests.{lt-ltb, le-ltb}
use lib.Dec.{leb, ltb}
use lib.ListN.{length, take, drop, get_or}
use Rattle.types.specs.declared.Refusal.TheVariants.{RouteTableFull}
use Rattle.standard.specs.declared.RouteEntry.{RouteEntry}
use Rattle.standard.specs.declared.Status.{Status}
use Rattle.standard.specs.Rows.{put_back}
use Rattle.standard.specs.Calls.{change_route, has_route, sought}
use Rattle.standard.specs.Ordered.{Ascending, lookup, put, remove, count_with}
use Rattle.standard.specs.Query.{is_there}
use Rattle.standard.specs.Route.{is_active, route_key, with_status, used, record_known}
use Rattle.flat_map.specs.Seek.{place_of}
use Rattle.flat_map.proofs.Compare.{Tri, lt, eq, gt, tri}
use Rattle.flat_map.proofs.Ordered.{lookup_key, lookup-none, lookup-past, length-put, none-some, remove-here, remove-past}
use Rattle.flat_map.proofs.Query.{next_row, no_row}
use Rattle.flat_map.proofs.Table.{remove_absent}
use Rattle.columns.specs.Room.{room_for}
use Rattle.columns.specs.Columns.{entries}
use Rattle.columns.proofs.Rows as rows
use Rattle.route_table.specs.Codec.{route_numbers, route_in, route_of, Clean, InRange}
use Rattle.route_table.specs.Table.{RouteTable, blank_route, WellFormed, rows_of, Holds}
use Rattle.route_table.proofs.Codec.{codec}
use Rattle.route_table.proofs.Rows.{table-sound, flat-table, found-row, missing-row}
use Rattle.route_calls.specs.Answer.{step_to}

-- a change that leaves the destination
abbrev pub KeepsKey : (RouteEntry → RouteEntry) → Type 0
KeepsKey change = (e : RouteEntry) → route_key (change e) ≡ route_key e

pub status-key : (s : Status) → KeepsKey (with_status s)
status-key s e = refl

pub used-key : KeepsKey used
used-key e = refl

kept-or : (b : Bool) (x y : RouteEntry) → route_key y ≡ route_key x → route_key (cond b x y) ≡ route_key x
kept-or true x y e = refl
kept-or false x y e = e

pub known-key : KeepsKey record_known
known-key e = kept-or e.no_route_cache e _ refl

pub sought-key : KeepsKey sought
sought-key e = kept-or (is_active e.status) e _ refl

-- a change at the place of its key
module _ (t : RouteTable) (w : WellFormed t) (k i : ℕ) (change : RouteEntry → RouteEntry) where
  pub left-as-is : Err i ≡ place_of (take t.count t.keys) k → Holds t (change_route k change (rows_of t))
  unfolding change_route
  left-as-is p = record {
    formed = w;
    rows = sym (ap (λ (o : Option RouteEntry). put_back route_key change o (rows_of t)) (missing-row t w k i p));
  }

  module _
      (p : Ok i ≡ place_of (take t.count t.keys) k)
      (e f : RouteEntry)
      (read : e ≡ route_in (get_or t.keys i 0) (get_or t.words i 0) (get_or t.usage i 0))
      (q : f ≡ change e)
    where
      row : lookup route_key k (rows_of t) ≡ Some e
      row = found-row t w k i p ∙ ap Some (sym read)

      pub change-place : KeepsKey change → Ok i ≡ place_of (take t.count t.keys) (route_key f)
      change-place same = p ∙ ap (place_of (take t.count t.keys)) (sym (ap route_key q ∙ same e ∙ lookup_key route_key k (rows_of t) e row))

      pub changed : (u : RouteTable) → Holds u (put route_key f (rows_of t)) → Holds u (change_route k change (rows_of t))
      unfolding change_route
      changed u h = record {
        formed = h.formed;
        rows =
            h.rows
            ∙ ap (λ (x : RouteEntry). put route_key x (rows_of t)) q
            ∙ sym (ap (λ (o : Option RouteEntry). put_back route_key change o (rows_of t)) row);
      }

-- the outcome by the room that the rows want, and the room that a row put wants
pub step_by : (old xs : List RouteEntry) (b : Bool) → leb (length xs) 64 ≡ b
    → step_to old xs ≡ cond b (record { answer = Ok tt; rows = xs }) (record { answer = Err RouteTableFull; rows = old })
unfolding step_to
step_by old xs b p = rw p

pub put-room : (xs : List RouteEntry) → Ascending route_key xs → (e : RouteEntry) → leb (length (put route_key e xs)) 64 ≡ leb (count_with route_key (route_key e) xs) 64
put-room xs a e = ap (λ (n : ℕ). leb n 64) (length-put route_key e xs a)

-- the place of a destination tells that room
pub place-room : (t : RouteTable) → WellFormed t → (k : ℕ) (p : Result ℕ ℕ) → p ≡ place_of (take t.count t.keys) k → leb (count_with route_key k (rows_of t)) 64 ≡ room_for p t.count 64
place-room t w k p q = rows.room-told 64 3 route_key blank_route route_of route_numbers Clean InRange codec t.keys (t.words ∷ t.usage ∷ []) t.count (table-sound t w) k p q

-- fewer routes are left exactly where there was one
one_less : (k : ℕ) (e : RouteEntry) (xs : List RouteEntry) → lookup route_key k xs ≡ Some e → length (remove route_key k xs) < length xs
one_less k e [] h = absurd (none-some e (sym (lookup-none route_key k) ∙ h))
one_less k e (x ∷ xs) h = go (tri (route_key x) k) (λ q. one_less k e xs q) where
  past : (route_key x ≡ k → ⊥) → (lookup route_key k xs ≡ Some e → length (remove route_key k xs) < length xs) → length (remove route_key k (x ∷ xs)) < suc (length xs)
  past n ih = rw (remove-past route_key k x xs n) (omega (arith, ih (sym (lookup-past route_key k x xs n) ∙ h)))

  go : Tri (route_key x) k → (lookup route_key k xs ≡ Some e → length (remove route_key k xs) < length xs) → length (remove route_key k (x ∷ xs)) < suc (length xs)
  go (lt p) ih = past (λ q. omega arith) ih
  go (eq p) ih = rw (remove-here route_key k x xs p) (omega arith)
  go (gt p) ih = past (λ q. omega arith) ih

pub fewer-told : (k : ℕ) (xs : List RouteEntry) → ltb (length (remove route_key k xs)) (length xs) ≡ has_route k xs
unfolding has_route
fewer-told k xs = go (lookup route_key k xs) refl where
  go : (o : Option RouteEntry) → lookup route_key k xs ≡ o → ltb (length (remove route_key k xs)) (length xs) ≡ is_there o
  go None h = le-ltb (length (remove route_key k xs)) (length xs) (omega (arith, ap length (remove_absent route_key blank_route k xs h)))
  go (Some e) h = lt-ltb (length (remove route_key k xs)) (length xs) (one_less k e xs h)

-- the routes left, gone through one after the other
module _ (t : RouteTable) (w : WellFormed t) (i : ℕ) where
  pub next-route : i < t.count → (e : RouteEntry) → e ≡ route_in (get_or t.keys i 0) (get_or t.words i 0) (get_or t.usage i 0) → drop i (rows_of t) ≡ e ∷ drop (i + 1) (rows_of t)
  next-route h e q =
      next_row 64 route_key blank_route t.keys (entries route_of 64 (t.keys ∷ t.words ∷ t.usage ∷ [])) t.count (flat-table t w) i h
      ∙ ap (λ (x : RouteEntry). x ∷ drop (i + 1) (rows_of t))
      (rows.row_reads 64 3 route_key blank_route route_of route_numbers Clean InRange codec t.keys (t.words ∷ t.usage ∷ []) t.count (table-sound t w) i ∙ sym q)

  pub no-route : t.count ≤ i → drop i (rows_of t) ≡ []
  no-route h = no_row 64 route_key blank_route t.keys (entries route_of 64 (t.keys ∷ t.words ∷ t.usage ∷ [])) t.count (flat-table t w) i h
