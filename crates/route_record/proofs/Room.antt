-- The addresses that a route record gives a record to, counted with nothing written: an address makes one more exactly where it has no
-- record and stands nowhere before among the relays, so that the count after each is as many as there are addresses then.
use Rattle.std.specs.Prelude.{Option, Some, None, option_map}
use Prim.Native.Nat.{ℕ, ◌+◌, ◌<◌, ◌≤◌}
use native.Mathlib.Omega.{arith}
use mathlib.Core.Bool.{Bool, true, false, cond, not, ◌||◌, false≢true}
use mathlib.Core.List.{List, [], ◌∷◌, ◌++◌, map, map-id}
use mathlib.Core.Path.{◌≡◌, refl, sym, ap, ◌∙◌, subst}
use borrow.Author.Tests.{eqb-true, eqb-false}
use lib.Dec.{eqb}
use lib.ListN.{length, length-map}
use mir.Val.{bool_byte}
use Rattle.types.specs.declared.Nwk.{Nwk}
use Rattle.standard.specs.Ordered.{Asc, Ascending, lookup, put, count_with}
use Rattle.standard.specs.Record.{record_key}
use Rattle.standard.specs.Records.{RouteRecord, address_key, record_for, relays_stored, record_stored}
use Rattle.standard.specs.Tells.{Tells}
use Rattle.standard.proofs.Tells.{yes-so, not_so, denied}
use Rattle.flat_map.proofs.Mapped.{map-put}
use Rattle.flat_map.proofs.Ordered.{none-some, ascending-put, length-put, count-with-found, count-with-missing, lookup-put-same, lookup-put-other}
use Rattle.record_table.specs.Table.{RecordTable, WellFormed, rows_of}
use Rattle.record_table.proofs.Rows.{table-fit, many}
use Rattle.route_record.specs.Answer.{with_address, with_relays, one_more, new_addresses, among}

-- the addresses that have a record
abbrev pub addresses_of : RecordTable → List ℕ
addresses_of t = map record_key (rows_of t)

-- a put of a record puts its address
put-address : (x : RouteRecord) (xs : List RouteRecord) → map address_key (put address_key x xs) ≡ with_address x.destination (map address_key xs)
put-address x xs = sym (map-put address_key address_key (λ n. n) (λ y. refl) x xs)

relays-addresses : (relays : List Nwk) (xs : List RouteRecord) → map address_key (relays_stored relays xs) ≡ with_relays relays (map address_key xs)
unfolding relays_stored with_relays
relays-addresses [] xs = refl
relays-addresses (r ∷ rs) xs = relays-addresses rs (put address_key (record_for r rs) xs) ∙ ap (with_relays rs) (put-address (record_for r rs) xs)

-- as many records as addresses, after the source's record and after those of the relays
pub stored-count : (source : Nwk) (relays : List Nwk) (xs : List RouteRecord)
    → length (record_stored source relays xs) ≡ length (with_address source (with_relays relays (map address_key xs)))
unfolding record_stored
stored-count source relays xs =
    sym (length-map (record_stored source relays xs) address_key)
    ∙ ap length (put-address (record_for source relays) (relays_stored relays xs) ∙ ap (with_address source) (relays-addresses relays xs))

-- one address more
length-with : (a : Nwk) (ks : List ℕ) → Ascending (λ n. n) ks → length (with_address a ks) ≡ one_more (lookup (λ n. n) a.0 ks) + length ks
length-with a ks asc = length-put (λ n. n) a.0 ks asc ∙ by (lookup (λ n. n) a.0 ks) refl where
  by : (o : Option ℕ) → lookup (λ n. n) a.0 ks ≡ o → count_with (λ n. n) a.0 ks ≡ one_more o + length ks
  by None e = omega (arith, count-with-missing (λ n. n) a.0 ks e)
  by (Some k) e = omega (arith, count-with-found (λ n. n) a.0 k ks e)

-- and all of them
pub length-relays : (relays : List Nwk) (ks : List ℕ) → Ascending (λ n. n) ks → length (with_relays relays ks) ≡ new_addresses relays ks + length ks
unfolding with_relays new_addresses
length-relays [] ks asc = omega arith
length-relays (r ∷ rs) ks asc =
    omega (arith, length-relays rs (with_address r ks) (ascending-put (λ n. n) r.0 ks asc), length-with r ks asc)

-- an address that comes last
pub source-last : (source : Nwk) (relays : List Nwk) (ks : List ℕ) → with_address source (with_relays relays ks) ≡ with_relays (relays ++ (source ∷ [])) ks
unfolding with_relays
source-last source [] ks = refl
source-last source (r ∷ rs) ks = source-last source rs (with_address r ks)

pub relays-ascend : (relays : List Nwk) (ks : List ℕ) → Ascending (λ n. n) ks → Ascending (λ n. n) (with_relays relays ks)
unfolding with_relays
relays-ascend [] ks asc = asc
relays-ascend (r ∷ rs) ks asc = relays-ascend rs (with_address r ks) (ascending-put (λ n. n) r.0 ks asc)

-- each makes at most one more
one-few : (o : Option ℕ) → one_more o ≤ 1
one-few None = omega arith
one-few (Some k) = omega arith

new-few : (relays : List Nwk) (ks : List ℕ) → new_addresses relays ks ≤ length relays
unfolding new_addresses
new-few [] ks = omega arith
new-few (r ∷ rs) ks = omega (arith, one-few (lookup (λ n. n) r.0 ks), new-few rs (with_address r ks))

-- an address among those put is there, and one that is not is there if it was
pub neither : (a b : Bool) → (a || b) ≡ false → (a ≡ false) × (b ≡ false)
neither true b e = absurd (false≢true (sym e))
neither false b e = (refl, e)

with-other : (k : ℕ) (relays : List Nwk) (ks : List ℕ) → among k relays ≡ false → lookup (λ n. n) k (with_relays relays ks) ≡ lookup (λ n. n) k ks
unfolding with_relays
with-other k [] ks e = refl
with-other k (r ∷ rs) ks e =
    let p = neither (eqb r.0 k) (among k rs) e in
    with-other k rs (with_address r ks) p.1 ∙ lookup-put-other (λ n. n) k r.0 ks (eqb-false r.0 k p.0)

pub first : (a b : Bool) → (a || b) ≡ true → b ≡ false → a ≡ true
first true b e n = refl
first false b e n = absurd (false≢true (sym n ∙ e))

with-among : (k : ℕ) (relays : List Nwk) (ks : List ℕ) → among k relays ≡ true → lookup (λ n. n) k (with_relays relays ks) ≡ Some k
unfolding with_relays
with-among k [] ks e = absurd (false≢true e)
with-among k (r ∷ rs) ks e = go (among k rs) refl (λ h. with-among k rs (with_address r ks) h) where
  go : (b : Bool) → among k rs ≡ b → (among k rs ≡ true → lookup (λ n. n) k (with_relays rs (with_address r ks)) ≡ Some k)
      → lookup (λ n. n) k (with_relays rs (with_address r ks)) ≡ Some k
  go true h ih = ih h
  go false h ih =
      let is : r.0 ≡ k = eqb-true r.0 k (first (eqb r.0 k) (among k rs) e h) in
      with-other k rs (with_address r ks) h
      ∙ ap (λ (n : ℕ). lookup (λ m. m) n (with_address r ks)) (sym is)
      ∙ lookup-put-same (λ m. m) r.0 ks
      ∙ ap Some is

-- a key is there exactly if its row is
lookup-keys : {E : Type 0} (key_of : E → ℕ) (k : ℕ) (xs : List E) → lookup (λ n. n) k (map key_of xs) ≡ option_map key_of (lookup key_of k xs)
unfolding lookup
lookup-keys key_of k [] = refl
lookup-keys {E = E} key_of k (x ∷ xs) = go (eqb (key_of x) k) (lookup-keys key_of k xs) where
  go : (b : Bool) → lookup (λ n. n) k (map key_of xs) ≡ option_map key_of (lookup key_of k xs)
      → cond b (Some (key_of x)) (lookup (λ n. n) k (map key_of xs)) ≡ option_map key_of (cond b (Some x) (lookup key_of k xs))
  go true ih = refl
  go false ih = ih

-- which addresses are new
module _ (t : RecordTable) (a : Nwk) (relays : List Nwk) where
  pub known-told : {e : _} → lookup record_key a.0 (rows_of t) ≡ Some e → Tells (lookup (λ n. n) a.0 (with_relays relays (addresses_of t)) ≡ None) false
  known-told {e = e} q = not_so (λ m. go (among a.0 relays) refl m) where
    there : lookup (λ n. n) a.0 (addresses_of t) ≡ Some (record_key e)
    there = lookup-keys record_key a.0 (rows_of t) ∙ ap (option_map record_key) q

    go : (b : Bool) → among a.0 relays ≡ b → lookup (λ n. n) a.0 (with_relays relays (addresses_of t)) ≡ None → ⊥
    go true h m = none-some a.0 (sym m ∙ with-among a.0 relays (addresses_of t) h)
    go false h m = none-some (record_key e) (sym m ∙ with-other a.0 relays (addresses_of t) h ∙ there)

  pub missing-told : lookup record_key a.0 (rows_of t) ≡ None → Tells (lookup (λ n. n) a.0 (with_relays relays (addresses_of t)) ≡ None) (not (among a.0 relays))
  missing-told q = go (among a.0 relays) refl where
    gone : lookup (λ n. n) a.0 (addresses_of t) ≡ None
    gone = lookup-keys record_key a.0 (rows_of t) ∙ ap (option_map record_key) q

    go : (b : Bool) → among a.0 relays ≡ b → Tells (lookup (λ n. n) a.0 (with_relays relays (addresses_of t)) ≡ None) (not b)
    go true h = not_so (λ m. none-some a.0 (sym m ∙ with-among a.0 relays (addresses_of t) h))
    go false h = yes-so (with-other a.0 relays (addresses_of t) h ∙ gone)

-- one more relay asked after, beside those that were
pub among-more : (k : ℕ) (xs : List Nwk) (b : Nwk) → among k (xs ++ (b ∷ [])) ≡ (among k xs || eqb b.0 k)
among-more k [] b = by (eqb b.0 k) where
  by : (e : Bool) → (e || false) ≡ e
  by true = refl
  by false = refl
among-more k (x ∷ xs) b = ap (λ (e : Bool). eqb x.0 k || e) (among-more k xs b) ∙ by (eqb x.0 k) where
  by : (e : Bool) → (e || (among k xs || eqb b.0 k)) ≡ ((e || among k xs) || eqb b.0 k)
  by true = refl
  by false = refl

-- the count goes on with one where an address is new
one_told : (o : Option ℕ) (new : Bool) → Tells (o ≡ None) new → one_more o ≡ bool_byte new
one_told None true t = refl
one_told None false t = absurd (denied t refl refl)
one_told (Some k) true t = absurd (none-some k (sym (t.fact refl)))
one_told (Some k) false t = refl

module _ (t : RecordTable) (w : WellFormed t) where
  ascending : Ascending (λ n. n) (addresses_of t)
  ascending = subst Asc (sym (map-id (addresses_of t))) (table-fit t w).fit.ascending

  pub counted_none : t.count ≡ length (with_relays [] (addresses_of t))
  unfolding with_relays
  counted_none = sym (length-map (rows_of t) record_key ∙ many t w)

  pub counted-more : (before : List Nwk) (a : Nwk) (new : Bool) (total : ℕ) → Tells (lookup (λ n. n) a.0 (with_relays before (addresses_of t)) ≡ None) new
      → total ≡ length (with_relays before (addresses_of t)) → total + bool_byte new ≡ length (with_address a (with_relays before (addresses_of t)))
  counted-more before a new total told e =
      omega (arith, length-with a (with_relays before (addresses_of t)) (relays-ascend before (addresses_of t) ascending), one_told (lookup (λ n. n) a.0 (with_relays before (addresses_of t))) new told)

  -- few relays have room whatever they are
  pub all_fit : (source : Nwk) (relays : List Nwk) → t.count + length relays < 64 → length (with_address source (with_relays relays (addresses_of t))) ≤ 64
  all_fit source relays h =
      omega (arith, length-with source (with_relays relays (addresses_of t)) (relays-ascend relays (addresses_of t) ascending), one-few (lookup (λ n. n) source.0 (with_relays relays (addresses_of t))), length-relays relays (addresses_of t) ascending, new-few relays (addresses_of t), length-map (rows_of t) record_key, many t w)

pub bit-few : (b : Bool) → bool_byte b ≤ 1
bit-few true = omega arith
bit-few false = omega arith
