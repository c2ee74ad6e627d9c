-- What the place of a destination says of its record: there is none where it is missing, and where it is found the record names the
-- relays of that row, as many as the column of lengths says. Each law goes by the place.
use Rattle.std.specs.Prelude.{Option, Some, None, Result, Ok, Err}
use Prim.Native.Nat.{ℕ, ◌<◌, ◌≤◌}
use native.Mathlib.Omega.{arith}
use mathlib.Core.List.{List, [], ◌∷◌}
use mathlib.Core.Path.{◌≡◌, refl, sym, ap, ◌∙◌}
use lib.ListN.{length, take, get_or}
use Rattle.types.specs.declared.Nwk.{Nwk}
use Rattle.standard.specs.declared.RecordRoute.TheVariants.{Direct, SourceRoute}
use Rattle.standard.specs.declared.RelayList.{RelayList}
use Rattle.standard.specs.Records.{RouteRecord, ShortWay, address_key, other_relays, way_by}
use Rattle.standard.specs.Route.{nwk}
use Rattle.flat_map.specs.Seek.{place_of}
use Rattle.flat_map.proofs.Mapped.{each-found}
use Rattle.record_table.specs.Table.{RecordTable}
use Rattle.relay_store.specs.Store.{row_at, relay_list}
use Rattle.relay_store.specs.Packed.{record_by, records_of, Together}
use Rattle.relay_store.proofs.Rows.{wide_row}
use Rattle.route_record.specs.declared.RecordRow.{RecordRow}
use Rattle.route_record.specs.declared.RecordWay.{RecordWay}
use Rattle.route_record.specs.Answer.{record_of, row_for, record_held, record_found, listed, way_to, other_at_of}
use Rattle.route_record.proofs.Held as held
use Rattle.route_record.proofs.Relays.{row-relays, way-direct, way-short, way_long}

-- a record that is found has at most 32 relays
abbrev pub Short : Option RouteRecord → Type 0
Short o = (x : RouteRecord) → o ≡ Some x → ShortWay x

pub short-held : (t : RecordTable) (s : List ℕ) → Together t s → (destination : Nwk) → Short (record_of destination t s)
short-held t s g destination x e = each-found address_key ShortWay destination.0 (records_of t s) x (held.fits t s g).short e

no-relay : (relays : List Nwk) → length relays ≡ 0 → relays ≡ []
no-relay [] h = refl
no-relay (a ∷ relays) h = absurd (omega arith)

module _ (t : RecordTable) (s : List ℕ) (g : Together t s) where
  -- the record at a place, or none
  pub past_row : (i : ℕ) → t.count ≤ i → (l : RelayList) → l ≡ relay_list [] → ◌≡◌ {A = RecordRow} (record { entry = None; relays = l }) (record_held i t s)
  unfolding record_held
  past_row i h l e = (λ z. record { entry = None; relays = e z }) ∙ ap row_for (sym (held.record-past t s g i h))

  module _ (i : ℕ) (h : i < t.count) where
    abbrev x : RouteRecord
    x = record_by (held.held t s g i) (row_at i s)

    pub relays-many : length x.relays ≡ get_or t.lengths i 0
    relays-many = row-relays (get_or t.lengths i 0) (row_at i s) (wide_row 64 i s (omega (arith, g.agrees.places)) (held.use-within t s g i h)) (held.use-few t s g i)

    pub there-row : (l : RelayList) → l ≡ relay_list x.relays → ◌≡◌ {A = RecordRow} (record { entry = Some (held.held t s g i); relays = l }) (record_held i t s)
    unfolding record_held
    there-row l e =
        (λ z. record { entry = Some (record { destination = nwk (get_or t.keys i 0); relay_count = sym relays-many z }); relays = e z })
        ∙ ap row_for (sym (held.record-there t s g i h))

  module _ (d : Nwk) where
    abbrev at : Result ℕ ℕ
    at = place_of (take t.count t.keys) d.0

    -- by the place of a destination: its record with its relays
    pub missing-found : (i : ℕ) → Err i ≡ at → (l : RelayList) → l ≡ relay_list [] → ◌≡◌ {A = RecordRow} (record { entry = None; relays = l }) (record_found d t s)
    unfolding record_found
    missing-found i p l e = (λ z. record { entry = None; relays = e z }) ∙ ap row_for (sym (held.missing t s g d.0 i p))

    pub found-found : (i : ℕ) → Ok i ≡ at → (r : RecordRow) → r ≡ record_held i t s → r ≡ record_found d t s
    unfolding record_held record_found
    found-found i p r e = e ∙ ap row_for (held.found-there t s g d.0 i p)

    -- whether it names other relays
    pub other_at : (p : Result ℕ ℕ) → p ≡ at → (relays : List Nwk) → other_at_of p t.lengths s relays ≡ other_relays relays (record_of d t s)
    other_at (Ok i) p relays = ap (other_relays relays) (sym (held.found t s g d.0 i p))
    other_at (Err i) p relays = ap (other_relays relays) (sym (held.missing t s g d.0 i p))

    -- and the way
    module _ (limit : ℕ) (l : RelayList) where
      pub missing-way : (i : ℕ) → Err i ≡ at → l ≡ relay_list [] → ◌≡◌ {A = RecordWay} (record { route = None; relays = l }) (way_to d limit t s)
      unfolding way_to
      missing-way i p e = (λ z. record { route = None; relays = e z }) ∙ ap (λ (o : Option RouteRecord). listed (way_by limit o)) (sym (held.missing t s g d.0 i p))

      module _ (i : ℕ) (p : Ok i ≡ at) where
        abbrev y : RouteRecord
        y = record_by (held.held t s g i) (row_at i s)

        some-way : listed (way_by limit (Some y)) ≡ listed (way_by limit (record_of d t s))
        some-way = ap (λ (o : Option RouteRecord). listed (way_by limit o)) (sym (held.found t s g d.0 i p))

        number : length y.relays ≡ get_or t.lengths i 0
        number = relays-many i (held.in_use t s g d.0 i p)

        pub found-direct : get_or t.lengths i 0 ≡ 0 → l ≡ relay_list [] → ◌≡◌ {A = RecordWay} (record { route = Some Direct; relays = l }) (way_to d limit t s)
        unfolding way_to
        found-direct n e = (λ z. record { route = Some Direct; relays = e z }) ∙ ap listed (sym (way-direct limit y (number ∙ n))) ∙ some-way

        pub found-source : (get_or t.lengths i 0 ≡ 0 → ⊥) → get_or t.lengths i 0 < limit → l ≡ relay_list y.relays
            → ◌≡◌ {A = RecordWay} (record { route = Some SourceRoute; relays = l }) (way_to d limit t s)
        unfolding way_to
        found-source n h e =
            (λ z. record { route = Some SourceRoute; relays = e z }) ∙ ap listed (sym (way-short limit y (λ q. n (sym number ∙ q)) (omega (arith, number, h)))) ∙ some-way

        pub found_none : (get_or t.lengths i 0 ≡ 0 → ⊥) → limit ≤ get_or t.lengths i 0 → l ≡ relay_list [] → ◌≡◌ {A = RecordWay} (record { route = None; relays = l }) (way_to d limit t s)
        unfolding way_to
        found_none n h e = (λ z. record { route = None; relays = e z }) ∙ ap listed (sym (way_long limit y (λ q. n (sym number ∙ q)) (omega (arith, number, h)))) ∙ some-way
