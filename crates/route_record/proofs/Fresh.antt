-- Document 01's refusal 3 in its own words: a route record is refused exactly where more of its addresses are new than places are free.
-- Each new address makes one record more, and a known one none.
use Prim.Native.Nat.{ℕ, ◌+◌, ◌-◌, ◌<◌}
use native.Mathlib.Omega.{arith}
use mathlib.Core.Bool.{false}
use mathlib.Core.List.{List, [], ◌∷◌, ◌++◌, map, map-id}
use mathlib.Core.Path.{◌≡◌, sym, ap, ◌∙◌, subst}
use borrow.Author.Tests.{leb-false, lt-leb}
use lib.Dec.{leb}
use lib.ListN.{length, length-map}
use Rattle.types.specs.declared.Nwk.{Nwk}
use Rattle.standard.specs.Ordered.{Asc}
use Rattle.standard.specs.Records.{address_key, record_stored}
use Rattle.record_table.specs.Table.{RecordTable}
use Rattle.relay_store.specs.Packed.{records_of, Together}
use Rattle.route_record.specs.Answer.{new_addresses}
use Rattle.route_record.proofs.Held.{fits}
use Rattle.route_record.proofs.Room.{stored-count, length-relays, source-last}

module _ (t : RecordTable) (s : List ℕ) (g : Together t s) (source : Nwk) (relays : List Nwk) where
  pub stored-length : length (record_stored source relays (records_of t s)) ≡ new_addresses (relays ++ (source ∷ [])) (map address_key (records_of t s)) + length (records_of t s)
  stored-length =
      stored-count source relays (records_of t s)
      ∙ ap length (source-last source relays (map address_key (records_of t s)))
      ∙ length-relays (relays ++ (source ∷ [])) (map address_key (records_of t s)) (subst Asc (sym (map-id (map address_key (records_of t s)))) (fits t s g).fit.ascending)
      ∙ ap (λ (n : ℕ). new_addresses (relays ++ (source ∷ [])) (map address_key (records_of t s)) + n) (length-map (records_of t s) address_key)

  -- refused: more new addresses than free places; and where there are more, refused
  pub refused_over : leb (length (record_stored source relays (records_of t s))) 64 ≡ false
      → 64 - length (records_of t s) < new_addresses (relays ++ (source ∷ [])) (map address_key (records_of t s))
  refused_over e = omega (arith, leb-false (length (record_stored source relays (records_of t s))) 64 e, stored-length, (fits t s g).fit.small)

  pub over-refused : 64 - length (records_of t s) < new_addresses (relays ++ (source ∷ [])) (map address_key (records_of t s))
      → leb (length (record_stored source relays (records_of t s))) 64 ≡ false
  over-refused h = lt-leb (length (record_stored source relays (records_of t s))) 64 (omega (arith, stored-length))
