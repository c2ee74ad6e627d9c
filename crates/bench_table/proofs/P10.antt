-- P10: "relays [A,B] from S, distinct: A has [B], B has [], S has [A,B]; the second time unchanged."
-- For any three addresses and whatever records are held; and from no record, with three addresses, the whole table and that it was changed.
use Rattle.std.specs.Prelude.{Some}
use mathlib.Core.Bool.{true, false, not}
use mathlib.Core.List.{List, [], ◌∷◌}
use mathlib.Core.Path.{◌≡◌, refl, sym, ap, ◌∙◌}
use borrow.Author.Tests.{eq-eqb}
use Rattle.types.specs.declared.Nwk.{Nwk}
use Rattle.standard.specs.Ordered.{Ascending, lookup, put}
use Rattle.standard.specs.Records.{RouteRecord, address_key, record_for, relays_stored, record_stored, same_relays, other_relays, record_changed}
use Rattle.standard.specs.Route.{nwk}
use Rattle.flat_map.proofs.Ordered.{lookup-put-same, lookup-put-other, ascending-put, put_id}

-- a list is the same as itself
same-itself : (relays : List Nwk) → same_relays relays relays ≡ true
same-itself [] = refl
same-itself (a ∷ relays) = rw (eq-eqb a.0 a.0 refl) (same-itself relays)

module _ (a b s : Nwk) (not-ab : a.0 ≡ b.0 → ⊥) (not-as : a.0 ≡ s.0 → ⊥) (not-bs : b.0 ≡ s.0 → ⊥) (xs : List RouteRecord) where
  abbrev after : List RouteRecord
  after = record_stored s (a ∷ b ∷ []) xs

  pub p10-first : lookup address_key a.0 after ≡ Some (record_for a (b ∷ []))
  unfolding record_stored relays_stored
  p10-first =
      lookup-put-other address_key a.0 (record_for s (a ∷ b ∷ [])) _ (λ e. not-as (sym e))
      ∙ lookup-put-other address_key a.0 (record_for b []) _ (λ e. not-ab (sym e))
      ∙ lookup-put-same address_key (record_for a (b ∷ [])) xs

  pub p10-second : lookup address_key b.0 after ≡ Some (record_for b [])
  unfolding record_stored relays_stored
  p10-second =
      lookup-put-other address_key b.0 (record_for s (a ∷ b ∷ [])) _ (λ e. not-bs (sym e))
      ∙ lookup-put-same address_key (record_for b []) _

  pub p10-source : lookup address_key s.0 after ≡ Some (record_for s (a ∷ b ∷ []))
  unfolding record_stored
  p10-source = lookup-put-same address_key (record_for s (a ∷ b ∷ [])) _

  pub p10-unchanged : record_changed s (a ∷ b ∷ []) after ≡ false
  unfolding record_changed relays_stored
  p10-unchanged =
      ap (other_relays (a ∷ b ∷ []))
      (lookup-put-other address_key s.0 (record_for b []) _ not-bs ∙ lookup-put-other address_key s.0 (record_for a (b ∷ [])) after not-as ∙ p10-source)
      ∙ ap not (same-itself (a ∷ b ∷ []))

  -- and the second time leaves every record as it was
  pub p10-same : Ascending address_key xs → record_stored s (a ∷ b ∷ []) after ≡ after
  unfolding record_stored relays_stored
  p10-same asc =
      ap (put address_key (record_for s (a ∷ b ∷ []))) (ap (put address_key (record_for b [])) one ∙ two)
      ∙ put_id address_key (record_for s (a ∷ b ∷ [])) after order p10-source where
        order : Ascending address_key after
        order = ascending-put address_key _ _ (ascending-put address_key _ _ (ascending-put address_key _ _ asc))

        one : put address_key (record_for a (b ∷ [])) after ≡ after
        one = put_id address_key (record_for a (b ∷ [])) after order p10-first

        two : put address_key (record_for b []) after ≡ after
        two = put_id address_key (record_for b []) after order p10-second

pub p10-records : record_stored (nwk 3) (nwk 1 ∷ nwk 2 ∷ []) [] ≡ record_for (nwk 1) (nwk 2 ∷ []) ∷ record_for (nwk 2) [] ∷ record_for (nwk 3) (nwk 1 ∷ nwk 2 ∷ []) ∷ []
unfolding put relays_stored record_stored
p10-records = refl

pub p10-changed : record_changed (nwk 3) (nwk 1 ∷ nwk 2 ∷ []) [] ≡ true
unfolding lookup put relays_stored record_stored record_changed
p10-changed = refl
