-- The route table under the laws of columns: well-formed columns are sound, and so are their rows laid into columns;
-- the test tells well-formedness, a place of a key is a look-up, and a step on the columns is a step on the rows.
use Rattle.std.specs.Prelude.{Option, Some, None, Ok, Err}
use Prim.Native.Nat.{ℕ, ◌+◌, ◌-◌, ◌<◌, ◌≤◌}
use native.Mathlib.Omega.{arith}
use mathlib.Core.Bool.{Bool, true, false, cond, ◌&&◌}
use mathlib.Core.List.{List, [], ◌∷◌, map}
use mathlib.Core.Path.{◌≡◌, refl, sym, ap, ◌∙◌, subst}
use lib.Dec.{eqb}
use lib.ListN.{length, take, get_or, set}
use lib.Seq.{take-length}
use Rattle.types.specs.declared.Nwk.{Nwk}
use Rattle.standard.specs.Ordered.{lookup, put, remove, keep, count_with}
use Rattle.standard.specs.Query.{entry_at}
use Rattle.standard.specs.Tells.{Tells}
use Rattle.standard.specs.declared.RouteEntry.{RouteEntry}
use Rattle.standard.specs.declared.Status.TheVariants.{Inactive}
use Rattle.standard.specs.Route.{is_active, route_key, with_status, decayed, unlinked}
use Rattle.standard.proofs.Tells.{tells_both, tells-so}
use Rattle.flat_map.specs.Seek.{place_of}
use Rattle.flat_map.specs.Shift.{shift_in, shift_out}
use Rattle.flat_map.specs.Table.{Each, Formed, Rising, ZeroFrom}
use Rattle.flat_map.proofs.Each.{each_placed, each_at, each-put, each-remove, each_keep}
use Rattle.flat_map.proofs.Fits.{fit-put, fit-remove, fit-keep, fit-map}
use Rattle.flat_map.proofs.Ordered.{count-with-missing}
use Rattle.flat_map.proofs.Query.{entry-in-use, entry-not-in-use}
use Rattle.flat_map.proofs.Table.{missing-within, remove_absent}
use Rattle.columns.specs.Columns.{entries, Long, Ordered, Under}
use Rattle.columns.specs.Table.{Sound}
use Rattle.columns.proofs.Places.{entries-length}
use Rattle.columns.proofs.Rows as rows
use Rattle.columns.proofs.Sweep as sweep
use Rattle.columns.proofs.Told.{ordered-told, under-told}
use Rattle.columns.proofs.View as view
use Rattle.route_table.specs.Codec.{route_word, word_end, route_numbers, route_in, route_of, Clean, InRange}
use Rattle.route_table.specs.Table.{RouteTable, in_columns, blank_route, WellFormed, well_formed, rows_of, table_of, Fits, Holds}
use Rattle.route_table.proofs.Codec.{codec, usage-read, read-in-range}

-- the columns after the keys
abbrev others : RouteTable → List (List ℕ)
others t = t.words ∷ t.usage ∷ []

-- well-formed columns are sound columns, and back
pub table-sound : (t : RouteTable) → WellFormed t → Sound 64 3 Clean t.keys (others t) t.count
table-sound t w = record { wide = refl; ordered = w.ordered; clean = w.fields }

pub sound-formed : (t : RouteTable) → Sound 64 3 Clean t.keys (others t) t.count → WellFormed t
sound-formed t s = record { ordered = s.ordered; fields = s.clean }

-- the test tells it
pub well-formed-told : (t : RouteTable) → Tells (WellFormed t) (well_formed t)
well-formed-told t =
    tells-so there back (tells_both (ordered-told 64 t.keys (others t) t.count) (under-told word_end (omega arith) t.words)) where
      there : Ordered 64 t.keys (others t) t.count × Under word_end t.words → WellFormed t
      there p = record { ordered = p.0; fields = p.1 }

      back : WellFormed t → Ordered 64 t.keys (others t) t.count × Under word_end t.words
      back w = (w.ordered, w.fields)

-- and so do its parts, told one by one
module _ (t : RouteTable) (l : Long 64 (t.keys ∷ others t)) (small : t.count ≤ 64) where
  abbrev Tested : Type 0
  Tested = (((Rising t.keys t.count × ZeroFrom t.keys t.count) × ZeroFrom t.words t.count) × ZeroFrom t.usage t.count) × Under word_end t.words

  there : Tested → WellFormed t
  there ((((up, no_keys), no_words), no-usage), under) = record {
    ordered = record { long = l; small = small; rising = up; zeros = (no_keys, (no_words, (no-usage, tt))) };
    fields = under;
  }

  back : WellFormed t → Tested
  back w = ((((w.ordered.rising, w.ordered.zeros.0), w.ordered.zeros.1.0), w.ordered.zeros.1.1.0), w.fields)

  pub parts-told : {a b c d e : Bool}
      → Tells (Rising t.keys t.count) a → Tells (ZeroFrom t.keys t.count) b → Tells (ZeroFrom t.words t.count) c → Tells (ZeroFrom t.usage t.count) d
      → Tells (Under word_end t.words) e → Tells (WellFormed t) ((((a && b) && c) && d) && e)
  parts-told ta tb tc td te = tells-so there back (tells_both (tells_both (tells_both (tells_both ta tb) tc) td) te)

module _ (t : RouteTable) (w : WellFormed t) where
  -- a place in use is in every column
  pub in-columns : (i : ℕ) → i < t.count → (i < length t.keys) × (i < length t.words) × (i < length t.usage)
  in-columns i h = (omega (arith, w.ordered.small, w.ordered.long.0), omega (arith, w.ordered.small, w.ordered.long.1.0), omega (arith, w.ordered.small, w.ordered.long.1.1.0))

  -- as a table of flat_map
  pub flat-table : Formed 64 route_key blank_route t.keys (entries route_of 64 (t.keys ∷ others t)) t.count
  flat-table = rows.table 64 3 route_key blank_route route_of route_numbers Clean InRange codec t.keys (others t) t.count (table-sound t w)

  pub many : length (rows_of t) ≡ t.count
  many = rows.rows-many 64 3 route_key blank_route route_of route_numbers Clean InRange codec t.keys (others t) t.count (table-sound t w)

  row_reads : (i : ℕ) → get_or (entries route_of 64 (t.keys ∷ others t)) i blank_route ≡ route_in (get_or t.keys i 0) (get_or t.words i 0) (get_or t.usage i 0)
  row_reads i = rows.row_reads 64 3 route_key blank_route route_of route_numbers Clean InRange codec t.keys (others t) t.count (table-sound t w) i

  -- a well-formed table is the table of its rows
  pub table-view : t ≡ table_of (rows_of t)
  unfolding table_of
  table-view =
      let column-is = view.column-is 64 3 route_key blank_route route_of route_numbers Clean InRange codec t.keys (others t) t.count (table-sound t w) in
      λ z. record { keys = column-is 0 (omega arith) z; words = column-is 1 (omega arith) z; usage = column-is 2 (omega arith) z; count = sym many z }

  pub table-fit : Fits (rows_of t)
  table-fit = record {
    fit = rows.rows_fit 64 3 route_key blank_route route_of route_numbers Clean InRange codec t.keys (others t) t.count (table-sound t w);
    ranged =
        each_placed InRange blank_route (entries route_of 64 (t.keys ∷ others t)) t.count
        (omega (arith, w.ordered.small, entries-length route_of 64 (t.keys ∷ others t)))
        (λ i h. subst InRange (sym (row_reads i)) (read-in-range _ _ _));
  }

  -- what the place of a destination says of the rows
  module _ (k i : ℕ) where
    pub found-row : Ok i ≡ place_of (take t.count t.keys) k → lookup route_key k (rows_of t) ≡ Some (route_in (get_or t.keys i 0) (get_or t.words i 0) (get_or t.usage i 0))
    found-row p = rows.found 64 3 route_key blank_route route_of route_numbers Clean InRange codec t.keys (others t) t.count (table-sound t w) k i p

    pub place-within : Ok i ≡ place_of (take t.count t.keys) k → i < t.count
    place-within p = rows.found_below 64 3 route_key blank_route route_of route_numbers Clean InRange codec t.keys (others t) t.count (table-sound t w) k i p

    pub missing-row : Err i ≡ place_of (take t.count t.keys) k → lookup route_key k (rows_of t) ≡ None
    missing-row p = rows.missing 64 3 route_key blank_route route_of route_numbers Clean InRange codec t.keys (others t) t.count (table-sound t w) k i p

    pub missing-place : Err i ≡ place_of (take t.count t.keys) k → i ≤ t.count
    missing-place p = missing-within 64 route_key blank_route t.keys (entries route_of 64 (t.keys ∷ others t)) t.count flat-table k i p

    -- a destination that is missing and has room has a free place
    pub free-place : Err i ≡ place_of (take t.count t.keys) k → count_with route_key k (rows_of t) ≤ 64 → t.count < 64
    free-place p room = omega (arith, room, many, count-with-missing route_key k (rows_of t) (missing-row p))

  -- what stands in a place of the order
  pub row-in-use : (i : ℕ) → i < t.count → entry_at i (rows_of t) ≡ Some (route_in (get_or t.keys i 0) (get_or t.words i 0) (get_or t.usage i 0))
  row-in-use i h = entry-in-use 64 route_key blank_route t.keys (entries route_of 64 (t.keys ∷ others t)) t.count flat-table i h ∙ ap Some (row_reads i)

  pub row-not-in-use : (i : ℕ) → t.count ≤ i → entry_at i (rows_of t) ≡ None
  row-not-in-use i h = entry-not-in-use 64 route_key blank_route t.keys (entries route_of 64 (t.keys ∷ others t)) t.count flat-table i h

  -- a route stored over the one of its destination, and one put in
  module _ (e : RouteEntry) (r : InRange e) (i : ℕ) where
    pub over-holds : Ok i ≡ place_of (take t.count t.keys) (route_key e)
        → Holds (in_columns t.keys (set t.words i (route_word e)) (set t.usage i e.total_usage_count) t.count) (put route_key e (rows_of t))
    over-holds p =
        let q = rows.over-put 64 3 route_key blank_route route_of route_numbers Clean InRange codec t.keys (others t) t.count (table-sound t w) e r i p in
        record { formed = sound-formed _ q.0; rows = q.1 }

    pub in-holds : Err i ≡ place_of (take t.count t.keys) (route_key e) → t.count < 64
        → Holds (in_columns (shift_in i (route_key e) t.keys) (shift_in i (route_word e) t.words) (shift_in i e.total_usage_count t.usage) (t.count + 1)) (put route_key e (rows_of t))
    in-holds p room =
        let q = rows.in-put 64 3 route_key blank_route route_of route_numbers Clean InRange codec t.keys (others t) t.count (table-sound t w) e r i p room in
        record { formed = sound-formed _ q.0; rows = q.1 }

  -- a route taken out, and one that is not there
  pub out-holds : (k i : ℕ) → Ok i ≡ place_of (take t.count t.keys) k
      → Holds (in_columns (shift_out i 0 t.keys) (shift_out i 0 t.words) (shift_out i 0 t.usage) (t.count - 1)) (remove route_key k (rows_of t))
  out-holds k i p =
      let q = rows.out-key 64 3 route_key blank_route route_of route_numbers Clean InRange codec t.keys (others t) t.count (table-sound t w) i k p in
      record { formed = sound-formed _ q.0; rows = q.1 }

  pub none_out : (k i : ℕ) → Err i ≡ place_of (take t.count t.keys) k → Holds t (remove route_key k (rows_of t))
  none_out k i p = record { formed = w; rows = sym (remove_absent route_key blank_route k (rows_of t) (missing-row k i p)) }

-- a table that holds routes is the table of these
pub holds-table : (t : RouteTable) (xs : List RouteEntry) → Holds t xs → t ≡ table_of xs
holds-table t xs h = table-view t h.formed ∙ ap table_of h.rows

-- the table of routes that fit is well formed, and they are its routes
module _ (xs : List RouteEntry) (f : Fits xs) where
  ranged-at : (i : ℕ) → i < length xs → InRange (get_or xs i blank_route)
  ranged-at = each_at InRange blank_route xs (length xs) (omega arith) (subst (Each InRange) (sym (take-length xs)) f.ranged)

  pub table-formed : WellFormed (table_of xs)
  unfolding table_of
  table-formed = sound-formed (table_of xs) (view.made-sound 64 3 route_key blank_route route_of route_numbers Clean InRange codec xs f.fit ranged-at 2 refl)

  pub table-rows : rows_of (table_of xs) ≡ xs
  unfolding table_of
  table-rows = view.made-rows 64 3 route_key blank_route route_of route_numbers Clean InRange codec xs f.fit ranged-at 2 refl

  pub table-holds : Holds (table_of xs) xs
  table-holds = record { formed = table-formed; rows = table-rows }

  -- what each step leaves of routes that fit fits too
  pub fits-put : (e : RouteEntry) → InRange e → count_with route_key (route_key e) xs ≤ 64 → Fits (put route_key e xs)
  fits-put e r room = record { fit = fit-put 64 route_key blank_route xs f.fit e room; ranged = each-put InRange route_key e xs r f.ranged }

  pub fits-remove : (k : ℕ) → Fits (remove route_key k xs)
  fits-remove k = record { fit = fit-remove 64 route_key blank_route xs f.fit k; ranged = each-remove InRange route_key k xs f.ranged }

  pub fits-keep : (p : RouteEntry → Bool) → Fits (keep p xs)
  fits-keep p = record { fit = fit-keep 64 route_key blank_route xs f.fit p; ranged = each_keep InRange p xs f.ranged }

  pub fits-map : (g : RouteEntry → RouteEntry) → ((x : RouteEntry) → route_key (g x) ≡ route_key x) → ((x : RouteEntry) → InRange x → InRange (g x)) → Fits (map g xs)
  fits-map g same within = record { fit = fit-map 64 route_key blank_route xs f.fit g same; ranged = each_map xs f.ranged } where
    each_map : (ys : List RouteEntry) → Each InRange ys → Each InRange (map g ys)
    each_map [] e = tt
    each_map (y ∷ ys) e = (within y e.0, each_map ys e.1)

-- a look-up's answer, read back
pub looked-found : (o : Option RouteEntry) (e : RouteEntry) → Some e ≡ o → o ≡ Some e
looked-found None e q = absurd (let z : ◌≡◌ {A = ℕ} 0 1 = cc in omega arith)
looked-found (Some x) e q = cc

pub looked-missing : (o : Option RouteEntry) → None ≡ o → o ≡ None
looked-missing None q = refl
looked-missing (Some x) q = absurd (let z : ◌≡◌ {A = ℕ} 0 1 = cc in omega arith)

-- what decay and a lost hop change is not the key
key-kept : (b : Bool) (x y : RouteEntry) → route_key x ≡ route_key y → route_key (cond b x y) ≡ route_key y
key-kept true x y e = e
key-kept false x y e = refl

pub decayed-key : (e : RouteEntry) → route_key (decayed e) ≡ route_key e
decayed-key e = key-kept (is_active e.status) _ e refl

pub unlinked-key : (hop : Nwk) (e : RouteEntry) → route_key (unlinked hop e) ≡ route_key e
unlinked-key hop e = key-kept (is_active e.status && eqb e.next_hop_address.0 hop.0) _ e refl

-- nor the usage count, and the numbers stay within their fields
usage-kept : (b : Bool) (x y : RouteEntry) → x.total_usage_count ≡ y.total_usage_count → (cond b x y).total_usage_count ≡ y.total_usage_count
usage-kept true x y e = e
usage-kept false x y e = refl

pub decayed-usage : (e : RouteEntry) → (decayed e).total_usage_count ≡ e.total_usage_count
decayed-usage e = usage-kept (is_active e.status) _ e refl

pub unlinked-usage : (hop : Nwk) (e : RouteEntry) → (unlinked hop e).total_usage_count ≡ e.total_usage_count
unlinked-usage hop e = usage-kept (is_active e.status && eqb e.next_hop_address.0 hop.0) _ e refl

range-kept : (b : Bool) (x y : RouteEntry) → InRange x → InRange y → InRange (cond b x y)
range-kept true x y r q = r
range-kept false x y r q = q

pub decayed-in-range : (e : RouteEntry) → InRange e → InRange (decayed e)
decayed-in-range e r = range-kept (is_active e.status) _ e (record { hop = r.hop; cost = r.cost; recent = omega (arith, r.recent) }) r

pub unlinked-in-range : (hop : Nwk) (e : RouteEntry) → InRange e → InRange (unlinked hop e)
unlinked-in-range hop e r =
    range-kept (is_active e.status && eqb e.next_hop_address.0 hop.0) (with_status Inactive e) e
    (record { hop = r.hop; cost = r.cost; recent = r.recent }) r

-- every route changed in its place: a change that keeps the destination and the usage count stores words only
module _
    (g : RouteEntry → RouteEntry)
    (same_key : (x : RouteEntry) → route_key (g x) ≡ route_key x)
    (same-usage : (x : RouteEntry) → (g x).total_usage_count ≡ x.total_usage_count)
    (within : (x : RouteEntry) → InRange x → InRange (g x))
    (keys words₀ usage : List ℕ)
    (n : ℕ)
  where
    -- those before i are changed
    abbrev pub Changed : List ℕ → ℕ → Type 0
    Changed words i = sweep.Mapping 64 3 route_key blank_route route_of route_numbers Clean InRange codec g keys (words₀ ∷ usage ∷ []) (words ∷ usage ∷ []) n i

    module _ (w₀ : WellFormed (in_columns keys words₀ usage n)) where
      s₀ : Sound 64 3 Clean keys (words₀ ∷ usage ∷ []) n
      s₀ = table-sound (in_columns keys words₀ usage n) w₀

      pub change-begins : Changed words₀ 0
      change-begins = sweep.map-begins 64 3 route_key blank_route route_of route_numbers Clean InRange codec g same_key keys (words₀ ∷ usage ∷ []) n s₀

      module _ (words : List ℕ) (i : ℕ) (m : Changed words i) where
        pub change-formed : WellFormed (in_columns keys words usage n)
        change-formed = sound-formed (in_columns keys words usage n) m.sound

        pub change-turns : i < n → (e : RouteEntry) → e ≡ g (route_in (get_or keys i 0) (get_or words i 0) (get_or usage i 0)) → (v : ℕ) → v ≡ route_word e → Changed (set words i v) (i + 1)
        change-turns l e q v p =
            subst (λ (us : List ℕ). sweep.Mapping 64 3 route_key blank_route route_of route_numbers Clean InRange codec g keys (words₀ ∷ usage ∷ []) (set words i v ∷ us ∷ []) n (i + 1)) unused
            (subst (λ (x : ℕ). sweep.Mapping 64 3 route_key blank_route route_of route_numbers Clean InRange codec g keys (words₀ ∷ usage ∷ []) (set words i x ∷ set usage i e.total_usage_count ∷ []) n (i + 1)) (sym p)
            (sweep.map-turns 64 3 route_key blank_route route_of route_numbers Clean InRange codec g same_key keys (words₀ ∷ usage ∷ []) n s₀ (words ∷ usage ∷ []) i m l e in-range q)) where
              in-range : InRange e
              in-range = subst InRange (sym q) (within _ (read-in-range _ _ _))

              unused : set usage i e.total_usage_count ≡ usage
              unused =
                  ap (set usage i) (ap (λ (x : RouteEntry). x.total_usage_count) q ∙ same-usage _ ∙ usage-read (get_or keys i 0) (get_or words i 0) (get_or usage i 0))
                  ∙ rows.set_same usage i

        pub change-ends : n ≤ i → Holds (in_columns keys words usage n) (map g (rows_of (in_columns keys words₀ usage n)))
        change-ends h = record {
          formed = change-formed;
          rows = sweep.map-ends 64 3 route_key blank_route route_of route_numbers Clean InRange codec g same_key keys (words₀ ∷ usage ∷ []) n s₀ (words ∷ usage ∷ []) i m h;
        }
