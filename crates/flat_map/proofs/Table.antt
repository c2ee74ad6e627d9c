-- A well-formed table is its rows, padded with blanks; and what the steps on the two arrays do to the rows.
-- Once over the capacity, the kind of entry, its key and the blank entry.
use Rattle.std.specs.Prelude.{Some, None, Result, Ok, Err}
use Prim.Native.Nat.{ℕ, zero, suc, ◌+◌, ◌-◌, ◌<◌, ◌≤◌, zero-le}
use native.Mathlib.Numerals.{add-one}
use native.Mathlib.Omega.{arith}
use mathlib.Core.Bool.{Bool, true, false}
use mathlib.Core.List.{List, [], ◌∷◌, map}
use mathlib.Core.Path.{◌≡◌, refl, sym, ap, ◌∙◌, subst}
use lib.ListN.{length, take, get_or, set, length-set, length-map, get_or-map}
use lib.Seq.{map-set_same, ext_get_or, length-take-le, get_or-take}
use Rattle.standard.specs.Ordered.{Asc, Ascending, lookup, put, remove, keep}
use Rattle.flat_map.specs.Seek.{place_of}
use Rattle.flat_map.specs.Shift.{shift_in, shift_out}
use Rattle.flat_map.specs.Rows.{pad, insert_at, remove_at, keep_from, map_first}
use Rattle.flat_map.specs.Table.{Formed, Fit, Holds}
use Rattle.flat_map.proofs.Lists.{any-default}
use Rattle.flat_map.proofs.Compare.{Tri, lt, eq, gt, tri}
use Rattle.flat_map.proofs.Order.{rising-asc, asc-rising, asc-remove_at}
use Rattle.flat_map.proofs.Ordered.{none-some, lookup-here, lookup-past, lookup-none, lookup-below, put-none, put-lt, put-eq, put-gt, remove-none, remove-here, remove-past, keys-map}
use Rattle.flat_map.proofs.Places.{Placed, placed_at}
use Rattle.flat_map.proofs.Rows.{cons, length-pad, shift-in-pad, shift-out-pad, set-pad, take-pad, getD-pad, getD-blank, pad-is, length-insert_at, length-remove_at, map-insert_at, map-remove_at, map-pad, keep-kept, keep-removed, keep-end}

-- a place found in the keys, read as a step on the rows
module _ {E : Type 0} (key_of : E → ℕ) (blank : E) where
  tail-found : (x : E) (xs : List E) (k i : ℕ) → Placed (map key_of (x ∷ xs)) k (Ok (suc i)) → Placed (map key_of xs) k (Ok i)
  tail-found x xs k i p = (omega (arith, p.0), p.1, λ n l. p.2 (suc n) (omega arith))

  tail-missing : (x : E) (xs : List E) (k i : ℕ) → Placed (map key_of (x ∷ xs)) k (Err (suc i)) → Placed (map key_of xs) k (Err i)
  tail-missing x xs k i p = (omega (arith, p.0), (λ l. p.1 (omega arith)), λ n l. p.2 (suc n) (omega arith))

  pub lookup-found : (xs : List E) (k i : ℕ) → Placed (map key_of xs) k (Ok i) → lookup key_of k xs ≡ Some (get_or xs i blank)
  lookup-found [] k i p = absurd (omega (arith, p.0))
  lookup-found (x ∷ xs) k zero p = lookup-here key_of k x xs p.1
  lookup-found (x ∷ xs) k (suc i) p =
      lookup-past key_of k x xs (λ e. omega (arith, p.2 0 (omega arith))) ∙ lookup-found xs k i (tail-found x xs k i p)

  pub lookup-missing : (xs : List E) (k i : ℕ) → Ascending key_of xs → Placed (map key_of xs) k (Err i) → lookup key_of k xs ≡ None
  lookup-missing [] k i a p = lookup-none key_of k
  lookup-missing (x ∷ xs) k zero a p = lookup-below key_of k (x ∷ xs) (p.1 (omega arith)) a
  lookup-missing (x ∷ xs) k (suc i) a p =
      lookup-past key_of k x xs (λ e. omega (arith, p.2 0 (omega arith))) ∙ lookup-missing xs k i a.1 (tail-missing x xs k i p)

  pub put-found : (e : E) (xs : List E) (i : ℕ) → Placed (map key_of xs) (key_of e) (Ok i) → put key_of e xs ≡ set xs i e
  put-found e [] i p = absurd (omega (arith, p.0))
  put-found e (x ∷ xs) zero p = put-eq key_of e x xs (sym p.1)
  put-found e (x ∷ xs) (suc i) p = put-gt key_of e x xs (p.2 0 (omega arith)) ∙ cons x (put-found e xs i (tail-found x xs (key_of e) i p))

  pub put-missing : (e : E) (xs : List E) (i : ℕ) → Placed (map key_of xs) (key_of e) (Err i) → put key_of e xs ≡ insert_at i e xs
  put-missing e [] zero p = put-none key_of e
  put-missing e [] (suc i) p = absurd (omega (arith, p.0))
  put-missing e (x ∷ xs) zero p = put-lt key_of e x xs (p.1 (omega arith))
  put-missing e (x ∷ xs) (suc i) p = put-gt key_of e x xs (p.2 0 (omega arith)) ∙ cons x (put-missing e xs i (tail-missing x xs (key_of e) i p))

  pub remove-found : (k : ℕ) (xs : List E) (i : ℕ) → Placed (map key_of xs) k (Ok i) → remove key_of k xs ≡ remove_at i xs
  remove-found k [] i p = absurd (omega (arith, p.0))
  remove-found k (x ∷ xs) zero p = remove-here key_of k x xs p.1
  remove-found k (x ∷ xs) (suc i) p =
      remove-past key_of k x xs (λ e. omega (arith, p.2 0 (omega arith))) ∙ cons x (remove-found k xs i (tail-found x xs k i p))

  -- a key that is not there is not taken out
  pub remove_absent : (k : ℕ) (xs : List E) → lookup key_of k xs ≡ None → remove key_of k xs ≡ xs
  remove_absent k [] h = remove-none key_of k
  remove_absent k (x ∷ xs) h = go (tri (key_of x) k) (λ q. remove_absent k xs q) where
    past : (key_of x ≡ k → ⊥) → (lookup key_of k xs ≡ None → remove key_of k xs ≡ xs) → remove key_of k (x ∷ xs) ≡ x ∷ xs
    past n ih = remove-past key_of k x xs n ∙ cons x (ih (sym (lookup-past key_of k x xs n) ∙ h))

    go : Tri (key_of x) k → (lookup key_of k xs ≡ None → remove key_of k xs ≡ xs) → remove key_of k (x ∷ xs) ≡ x ∷ xs
    go (lt p) ih = past (λ e. omega arith) ih
    go (eq p) ih = absurd (none-some x (sym h ∙ lookup-here key_of k x xs p))
    go (gt p) ih = past (λ e. omega arith) ih

-- from the arrays to the rows
module _ {E : Type 0} (cap : ℕ) (key_of : E → ℕ) (blank : E) (keys : List ℕ) (entries : List E) (count : ℕ) (f : Formed cap key_of blank keys entries count) where
  pub rows-length : length (take count entries) ≡ count
  rows-length = length-take-le count entries (omega (arith, f.small, f.entry-places))

  keys_length : length (take count keys) ≡ count
  keys_length = length-take-le count keys (omega (arith, f.small, f.key-places))

  -- what stands in a place in use
  pub row-at : (i : ℕ) → i < count → get_or entries i blank ≡ get_or (take count entries) i blank
  row-at i h = sym (get_or-take count entries i blank h)

  -- the keys in use are those of the rows
  pub keys-rows : take count keys ≡ map key_of (take count entries)
  keys-rows = ext_get_or 0 (take count keys) (map key_of (take count entries)) (keys_length ∙ sym wide) same where
    wide : length (map key_of (take count entries)) ≡ count
    wide = length-map (take count entries) key_of ∙ rows-length

    same : (i : ℕ) → i < length (take count keys) → get_or (take count keys) i 0 ≡ get_or (map key_of (take count entries)) i 0
    same i h =
        get_or-take count keys i 0 (omega (arith, keys_length)) ∙ f.own i (omega (arith, keys_length))
        ∙ ap key_of (row-at i (omega (arith, keys_length)))
        ∙ sym (get_or-map key_of (take count entries) i blank)
        ∙ any-default (map key_of (take count entries)) i (key_of blank) 0 (omega (arith, keys_length, wide))

  -- a well-formed table is its rows, padded
  pub view : Holds cap key_of blank keys entries count (take count entries)
  view = record {
    keys-are = pad-is keys count 0 f.zeros ∙ ap (λ (n : ℕ). pad n 0 (take count keys)) f.key-places ∙ ap (pad cap 0) keys-rows;
    entries-are = pad-is entries count blank f.blanks ∙ ap (λ (n : ℕ). pad n blank (take count entries)) f.entry-places;
    count-is = sym rows-length;
  }

  pub keys-ascend : Asc (take count keys)
  keys-ascend = rising-asc (take count keys)
      (λ i l. rw (get_or-take count keys i 0 (omega (arith, keys_length)), get_or-take count keys (i + 1) 0 (omega (arith, keys_length)))
      (f.rising i (omega (arith, keys_length))))

  pub fit : Fit cap key_of blank (take count entries)
  fit = record { small = omega (arith, rows-length, f.small); ascending = subst Asc keys-rows keys-ascend }

  placed-rows : (k : ℕ) (p : Result ℕ ℕ) → p ≡ place_of (take count keys) k → Placed (map key_of (take count entries)) k p
  placed-rows k p e = subst (λ (ks : List ℕ). Placed ks k p) keys-rows (placed_at (take count keys) k p e)

  row_count : length (map key_of (take count entries)) ≡ count
  row_count = length-map (take count entries) key_of ∙ rows-length

  -- what a look-up in the keys says of the rows
  pub found_within : (k i : ℕ) → Ok i ≡ place_of (take count keys) k → i < count
  found_within k i e = omega (arith, (placed-rows k (Ok i) e).0, row_count)

  pub found-row : (k i : ℕ) → Ok i ≡ place_of (take count keys) k → lookup key_of k (take count entries) ≡ Some (get_or entries i blank)
  found-row k i e = lookup-found key_of blank (take count entries) k i (placed-rows k (Ok i) e) ∙ ap Some (sym (row-at i (found_within k i e)))

  pub missing-within : (k i : ℕ) → Err i ≡ place_of (take count keys) k → i ≤ count
  missing-within k i e = omega (arith, (placed-rows k (Err i) e).0, row_count)

  pub missing-row : (k i : ℕ) → Err i ≡ place_of (take count keys) k → lookup key_of k (take count entries) ≡ None
  missing-row k i e = lookup-missing key_of blank (take count entries) k i fit.ascending (placed-rows k (Err i) e)

  -- an entry put in where its key is missing, one stored over that of its key, one taken out
  pub inserted : (e : E) (i : ℕ) → Err i ≡ place_of (take count keys) (key_of e) → count < cap
      → Holds cap key_of blank (shift_in i (key_of e) keys) (shift_in i e entries) (count + 1) (put key_of e (take count entries))
  inserted e i p l = record {
    keys-are =
        ap (shift_in i (key_of e)) view.keys-are
        ∙ shift-in-pad cap i (key_of e) 0 (map key_of xs) (omega (arith, row_count, within)) (omega (arith, row_count))
        ∙ ap (pad cap 0) (sym (map-insert_at key_of i e xs) ∙ ap (map key_of) (sym is));
    entries-are =
        ap (shift_in i e) view.entries-are
        ∙ shift-in-pad cap i e blank xs (omega (arith, rows-length, within)) (omega (arith, rows-length))
        ∙ ap (pad cap blank) (sym is);
    count-is = add-one count ∙ ap suc (sym rows-length) ∙ sym (length-insert_at i e xs) ∙ ap length (sym is);
  } where
    xs : List E
    xs = take count entries

    within : i ≤ count
    within = missing-within (key_of e) i p

    is : put key_of e (take count entries) ≡ insert_at i e (take count entries)
    is = put-missing key_of blank e (take count entries) i (placed-rows (key_of e) (Err i) p)

  pub replaced : (e : E) (i : ℕ) → Ok i ≡ place_of (take count keys) (key_of e)
      → Holds cap key_of blank keys (set entries i e) count (put key_of e (take count entries))
  replaced e i p = record {
    keys-are = view.keys-are ∙ ap (pad cap 0) (sym (map-set_same key_of (take count entries) i e blank own) ∙ ap (map key_of) (sym is));
    entries-are =
        ap (λ (l : List E). set l i e) view.entries-are
        ∙ set-pad cap i e blank (take count entries) (omega (arith, rows-length, found_within (key_of e) i p)) (omega (arith, rows-length, f.small))
        ∙ ap (pad cap blank) (sym is);
    count-is = sym rows-length ∙ sym (length-set (take count entries) i e) ∙ ap length (sym is);
  } where
    at : Placed (map key_of (take count entries)) (key_of e) (Ok i)
    at = placed-rows (key_of e) (Ok i) p

    own : key_of e ≡ key_of (get_or (take count entries) i blank)
    own = sym at.1 ∙ any-default (map key_of (take count entries)) i 0 (key_of blank) at.0 ∙ get_or-map key_of (take count entries) i blank

    is : put key_of e (take count entries) ≡ set (take count entries) i e
    is = put-found key_of blank e (take count entries) i at

  pub taken_out : (i : ℕ) → i < count
      → Holds cap key_of blank (shift_out i 0 keys) (shift_out i blank entries) (count - 1) (remove_at i (take count entries))
  taken_out i l = record {
    keys-are =
        ap (shift_out i 0) view.keys-are
        ∙ shift-out-pad cap i 0 (map key_of (take count entries)) (omega (arith, row_count)) (omega (arith, row_count, f.small))
        ∙ ap (pad cap 0) (sym (map-remove_at key_of i (take count entries)));
    entries-are =
        ap (shift_out i blank) view.entries-are
        ∙ shift-out-pad cap i blank (take count entries) (omega (arith, rows-length)) (omega (arith, rows-length, f.small));
    count-is = omega (arith, rows-length, length-remove_at i (take count entries) (omega (arith, rows-length)));
  }

  pub removed : (k i : ℕ) → Ok i ≡ place_of (take count keys) k
      → Holds cap key_of blank (shift_out i 0 keys) (shift_out i blank entries) (count - 1) (remove key_of k (take count entries))
  removed k i p =
      subst (Holds cap key_of blank (shift_out i 0 keys) (shift_out i blank entries) (count - 1))
      (sym (remove-found key_of blank k (take count entries) i (placed-rows k (Ok i) p)))
      (taken_out i (found_within k i p))

  -- every entry in use changed, its key left
  pub changed : (g : E → E) → ((x : E) → key_of (g x) ≡ key_of x)
      → Holds cap key_of blank keys (map_first g count entries) count (map g (take count entries))
  changed g same = record {
    keys-are = view.keys-are ∙ ap (pad cap 0) (sym (keys-map key_of g same (take count entries)));
    entries-are =
        (λ z. map_first g (sym rows-length z) (view.entries-are z))
        ∙ map-pad g cap blank (take count entries) fit.small;
    count-is = sym rows-length ∙ sym (length-map (take count entries) g);
  }

-- from the rows to the arrays
module _ {E : Type 0} (cap : ℕ) (key_of : E → ℕ) (blank : E) (xs : List E) (h : Fit cap key_of blank xs) where
  as_many : length (map key_of xs) ≡ length xs
  as_many = length-map xs key_of

  key-at : (i : ℕ) → i < length xs → get_or (pad cap 0 (map key_of xs)) i 0 ≡ key_of (get_or xs i blank)
  key-at i l =
      getD-pad cap i 0 (map key_of xs) (omega (arith, as_many)) (omega (arith, as_many, h.small))
      ∙ any-default (map key_of xs) i 0 (key_of blank) (omega (arith, as_many))
      ∙ get_or-map key_of xs i blank

  -- the padded rows are a well-formed table, whose rows they are
  pub formed-rows : Formed cap key_of blank (pad cap 0 (map key_of xs)) (pad cap blank xs) (length xs)
  formed-rows = record {
    key-places = length-pad cap 0 (map key_of xs);
    entry-places = length-pad cap blank xs;
    small = h.small;
    rising = λ i l. up i l;
    own = λ i l. key-at i l ∙ ap key_of (sym (getD-pad cap i blank xs l h.small));
    zeros = λ i l. getD-blank cap i 0 (map key_of xs) (omega (arith, as_many));
    blanks = λ i l. getD-blank cap i blank xs l;
  } where
    here : (i : ℕ) → i < length xs → get_or (pad cap 0 (map key_of xs)) i 0 ≡ get_or (map key_of xs) i 0
    here i l = getD-pad cap i 0 (map key_of xs) (omega (arith, as_many)) (omega (arith, as_many, h.small))

    up : (i : ℕ) → i + 1 < length xs → get_or (pad cap 0 (map key_of xs)) i 0 < get_or (pad cap 0 (map key_of xs)) (i + 1) 0
    up i l = rw (here i (omega arith), here (i + 1) l) (asc-rising (map key_of xs) h.ascending i (omega (arith, as_many)))

  pub rows_back : take (length xs) (pad cap blank xs) ≡ xs
  rows_back = take-pad cap blank xs h.small

-- a table that holds rows which fit is well formed, and they are its rows
module _ {E : Type 0} (cap : ℕ) (key_of : E → ℕ) (blank : E) (keys : List ℕ) (entries : List E) (count : ℕ) (xs : List E) (t : Holds cap key_of blank keys entries count xs) (h : Fit cap key_of blank xs) where
  pub holds-formed : Formed cap key_of blank keys entries count
  holds-formed = rw (t.keys-are, t.entries-are, t.count-is) (formed-rows cap key_of blank xs h)

  pub holds_rows : take count entries ≡ xs
  holds_rows = rw (t.entries-are, t.count-is) (rows_back cap key_of blank xs h)

-- a sweep that has passed i rows and is to end with the rows `goal`
pub record Sweep {E : Type 0} (cap : ℕ) (key_of : E → ℕ) (blank : E) (p : E → Bool) (goal : List E) (keys : List ℕ) (entries : List E) (count i : ℕ) : Type 0 where
  pub formed : Formed cap key_of blank keys entries count
  pub within : i ≤ count
  pub same : keep_from p i (take count entries) ≡ goal

module _ {E : Type 0} (cap : ℕ) (key_of : E → ℕ) (blank : E) (p : E → Bool) (keys : List ℕ) (entries : List E) (count : ℕ) where
  pub sweep-start : Formed cap key_of blank keys entries count → Sweep cap key_of blank p (keep p (take count entries)) keys entries count 0
  sweep-start f = record { formed = f; within = zero-le; same = refl }

  module _ (goal : List E) (i : ℕ) (s : Sweep cap key_of blank p goal keys entries count i) where
    many : length (take count entries) ≡ count
    many = rows-length cap key_of blank keys entries count s.formed

    -- a row that passes is left
    pub sweep-kept : i < count → p (get_or entries i blank) ≡ true → Sweep cap key_of blank p goal keys entries count (i + 1)
    sweep-kept l e = record {
      formed = s.formed;
      within = omega arith;
      same =
          keep-kept p (take count entries) i blank (omega (arith, many))
          (ap p (sym (row-at cap key_of blank keys entries count s.formed i l)) ∙ e)
          ∙ s.same;
    }

    -- a row that fails is taken out
    pub sweep-removed : i < count → p (get_or entries i blank) ≡ false
        → Sweep cap key_of blank p goal (shift_out i 0 keys) (shift_out i blank entries) (count - 1) i
    sweep-removed l e = record {
      formed = holds-formed cap key_of blank (shift_out i 0 keys) (shift_out i blank entries) (count - 1) (remove_at i (take count entries)) out less;
      within = omega arith;
      same =
          ap (keep_from p i) (holds_rows cap key_of blank (shift_out i 0 keys) (shift_out i blank entries) (count - 1) (remove_at i (take count entries)) out less)
          ∙ keep-removed p (take count entries) i blank (omega (arith, many))
          (ap p (sym (row-at cap key_of blank keys entries count s.formed i l)) ∙ e)
          ∙ s.same;
    } where
      out : Holds cap key_of blank (shift_out i 0 keys) (shift_out i blank entries) (count - 1) (remove_at i (take count entries))
      out = taken_out cap key_of blank keys entries count s.formed i l

      less : Fit cap key_of blank (remove_at i (take count entries))
      less = record {
        small = omega (arith, many, s.formed.small, length-remove_at i (take count entries) (omega (arith, many)));
        ascending = rw (map-remove_at key_of i (take count entries)) (asc-remove_at (map key_of (take count entries)) i (fit cap key_of blank keys entries count s.formed).ascending);
      }

    pub sweep-end : count ≤ i → take count entries ≡ goal
    sweep-end l = sym (keep-end p (take count entries) i (omega (arith, many))) ∙ s.same
