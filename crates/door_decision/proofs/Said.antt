-- What the code says of each choice is what is made of it, in every header that has the fields that are lent: such a header is left as it came, or a
-- source route is set in it.
use Rattle.std.specs.Prelude.{Result, Ok, Err}
use Prim.Native.Nat.{ℕ}
use mathlib.Core.List.{List}
use mathlib.Core.Path.{◌≡◌, refl, sym, ap}
use Rattle.types.specs.declared.Nwk.{Nwk}
use Rattle.types.specs.declared.Refusal.{Refusal}
use Rattle.types.specs.Refusal.{refusal_number}
use Rattle.frame.specs.declared.NwkHeader.{NwkHeader}
use Rattle.hop_choice.specs.declared.Choice.{Choice}
use Rattle.hop_choice.specs.declared.Choice.TheVariants.{Hop, ByRecord, ByHost, NeedDiscovery, Discard}
use Rattle.next_hop.specs.Made.{relays_in, made}
use Rattle.door.specs.Lent.{Asked}
use Rattle.door_records.specs.Records.{given}
use Rattle.door_decision.specs.Header.{HeaderPlaces, Values, header_in, header_places}
use Rattle.door_decision.specs.Decision.{ResolvePlaces, resolve_numbers, routed_places}
use Rattle.door_decision.proofs.Fields.{same-places}

module _ (lengths store host : List ℕ) (old : ResolvePlaces) (v : Values old.header) (x : Result Choice Refusal) where
  abbrev Said : ResolvePlaces → ℕ → Type 0
  Said new r = (d : Nwk) → Asked resolve_numbers (λ (h : NwkHeader). made h (given host) lengths store x) (header_in d old.header) old new r

  pub refused-said : (why : Refusal) → x ≡ Err why → (r : ℕ) → r ≡ refusal_number why → Said old r
  refused-said why e r q d = record { said = λ h. rw e (record { status = q; places = refl }) }

  -- the header as it came
  abbrev left : ℕ → ℕ → ResolvePlaces
  left decision hop = record { header = old.header; decision = decision; hop = hop }

  as-it-came : (d : Nwk) (h : NwkHeader) (decision hop : ℕ) → left decision hop ≡ record { header = header_places (header_in d old.header h); decision = decision; hop = hop }
  as-it-came d h decision hop = ap (λ (p : HeaderPlaces). record { header = p; decision = decision; hop = hop }) (sym (same-places d old.header v h))

  pub hop-said : (n : Nwk) → x ≡ (Ok (Hop n)) → Said (left 0 n.0) 0
  hop-said n e d = record { said = λ h. rw e (record { status = refl; places = as-it-came d h 0 n.0 }) }

  pub need-said : x ≡ (Ok NeedDiscovery) → Said (left 1 0) 0
  need-said e d = record { said = λ h. rw e (record { status = refl; places = as-it-came d h 1 0 }) }

  pub discard-said : x ≡ (Ok Discard) → Said (left 2 0) 0
  discard-said e d = record { said = λ h. rw e (record { status = refl; places = as-it-came d h 2 0 }) }

  -- a source route
  pub record-said : (i : ℕ) → x ≡ (Ok (ByRecord i)) → (new : ResolvePlaces) → new ≡ routed_places (relays_in lengths store i) → Said new 0
  record-said i e new q d = record { said = λ h. rw e (record { status = refl; places = q }) }

  pub host-said : x ≡ (Ok ByHost) → (new : ResolvePlaces) → new ≡ routed_places (given host) → Said new 0
  host-said e new q d = record { said = λ h. rw e (record { status = refl; places = q }) }
