-- A source among its own relays is changed each time: as a relay it gets the relays after its last place,
-- which are fewer than all, so that its record never names the whole list when the two are compared.
use Rattle.std.specs.Prelude.{Some}
use Prim.Native.Nat.{ℕ, ◌<◌}
use native.Mathlib.Omega.{arith}
use mathlib.Core.Bool.{Bool, true, false, not, false≢true}
use mathlib.Core.List.{List, [], ◌∷◌}
use mathlib.Core.Path.{◌≡◌, refl, sym, ap, ◌∙◌}
use borrow.Author.Tests.{eqb-true, eqb-false}
use lib.Dec.{eqb}
use lib.ListN.{length}
use Rattle.types.specs.declared.Nwk.{Nwk}
use Rattle.standard.specs.Ordered.{lookup, put}
use Rattle.standard.specs.Records.{RouteRecord, address_key, record_for, relays_stored, other_relays, record_changed}
use Rattle.flat_map.proofs.Ordered.{lookup-put-same, lookup-put-other}
use Rattle.route_record.specs.Answer.{among}
use Rattle.route_record.proofs.Relays.{other_length}
use Rattle.route_record.proofs.Room.{neither, first}

-- the relays' records leave that of an address that is none of them
stored_other : (k : ℕ) (relays : List Nwk) (xs : List RouteRecord) → among k relays ≡ false → lookup address_key k (relays_stored relays xs) ≡ lookup address_key k xs
unfolding relays_stored
stored_other k [] xs e = refl
stored_other k (r ∷ rs) xs e =
    let p = neither (eqb r.0 k) (among k rs) e in
    stored_other k rs (put address_key (record_for r rs) xs) p.1 ∙ lookup-put-other address_key k (record_for r rs) xs (eqb-false r.0 k p.0)

-- one of them has a record with fewer relays
record Fewer (k : ℕ) (relays : List Nwk) (xs : List RouteRecord) : Type 0 where
  pub x : RouteRecord
  pub fewer : length x.relays < length relays
  pub held : lookup address_key k (relays_stored relays xs) ≡ Some x

stored-among : (k : ℕ) (relays : List Nwk) (xs : List RouteRecord) → among k relays ≡ true → Fewer k relays xs
unfolding relays_stored
stored-among k [] xs e = absurd (false≢true e)
stored-among k (r ∷ rs) xs e = go (among k rs) refl (λ h. stored-among k rs (put address_key (record_for r rs) xs) h) where
  go : (b : Bool) → among k rs ≡ b → (among k rs ≡ true → Fewer k rs (put address_key (record_for r rs) xs)) → Fewer k (r ∷ rs) xs
  go true h ih = let i = ih h in record { x = i.x; fewer = omega (arith, i.fewer); held = i.held }
  go false h ih =
      let is : r.0 ≡ k = eqb-true r.0 k (first (eqb r.0 k) (among k rs) e h) in
      record {
        x = record_for r rs;
        fewer = omega arith;
        held =
            stored_other k rs (put address_key (record_for r rs) xs) h
            ∙ ap (λ (n : ℕ). lookup address_key n (put address_key (record_for r rs) xs)) (sym is)
            ∙ lookup-put-same address_key (record_for r rs) xs;
      }

pub source-among : (source : Nwk) (relays : List Nwk) (xs : List RouteRecord) → among source.0 relays ≡ true → record_changed source relays xs ≡ true
unfolding record_changed
source-among source relays xs e =
    let i = stored-among source.0 relays xs e in
    ap (other_relays relays) i.held ∙ ap not (other_length i.x.relays relays (λ q. omega (arith, i.fewer)))
