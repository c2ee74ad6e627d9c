-- Lists of relays taken apart one relay at a time, compared from the front, and what their number says of the way.
-- Each law is read off the definition.
use Rattle.std.specs.Prelude.{Some}
use Prim.Native.Nat.{ℕ, suc, ◌+◌, ◌<◌, ◌≤◌}
use native.Mathlib.Numerals.{add-one}
use native.Mathlib.Omega.{arith}
use mathlib.Core.Bool.{Bool, true, false, ◌&&◌}
use mathlib.Core.List.{List, [], ◌∷◌, ◌++◌, map}
use mathlib.Core.Path.{◌≡◌, refl, ap, ◌∙◌}
use borrow.Author.Tests.{eq-eqb, ne_eqb, lt-ltb, le-ltb}
use lib.Dec.{eqb}
use lib.ListN.{length, take, drop, get_or, length-map, get_or-map}
use lib.Seq.{take-suc, get_or-take, length-take-le}
use Rattle.types.specs.declared.Nwk.{Nwk}
use Rattle.standard.specs.declared.RelayList.{RelayList}
use Rattle.standard.specs.declared.RecordRoute.TheVariants.{Direct, SourceRoute}
use Rattle.standard.specs.Records.{RouteRecord, same_relays, no_way, way_by}
use Rattle.standard.specs.Route.{nwk}
use Rattle.flat_map.proofs.Query.{rest-step, rest-done}
use Rattle.relay_store.specs.Store.{relays_of}
use Rattle.route_record.proofs.Held.{relays-count}

module _ (l : RelayList) (long : length l.addresses ≡ 32) (few : l.count ≤ 32) (i : ℕ) where
  -- the relays from i on begin with the one at i
  pub relay-next : i < l.count → drop i (relays_of l) ≡ get_or l.addresses i (nwk 0) ∷ drop (i + 1) (relays_of l)
  relay-next h =
      rest-step (relays_of l) i (nwk 0) (omega (arith, relays-count l long few))
      ∙ ap (λ (a : Nwk). a ∷ drop (i + 1) (relays_of l)) (get_or-take l.count l.addresses i (nwk 0) h)

  pub relay-end : l.count ≤ i → drop i (relays_of l) ≡ []
  relay-end h = rest-done (relays_of l) i (omega (arith, relays-count l long few))

  -- and the relays up to it end with it
  pub relays-more : i < l.count → take (i + 1) (relays_of l) ≡ take i (relays_of l) ++ (get_or l.addresses i (nwk 0) ∷ [])
  relays-more h =
      ap (λ (n : ℕ). take n (relays_of l)) (add-one i)
      ∙ take-suc (relays_of l) i (nwk 0) (omega (arith, relays-count l long few))
      ∙ ap (λ (a : Nwk). take i (relays_of l) ++ (a ∷ [])) (get_or-take l.count l.addresses i (nwk 0) h)

-- the first n numbers of a row, as relays, from i on
module _ (row : List ℕ) (n : ℕ) (h : n ≤ length row) (i : ℕ) where
  many : length (map nwk (take n row)) ≡ n
  many = length-map (take n row) nwk ∙ length-take-le n row h

  pub row_next : i < n → drop i (map nwk (take n row)) ≡ nwk (get_or row i 0) ∷ drop (i + 1) (map nwk (take n row))
  row_next l =
      rest-step (map nwk (take n row)) i (nwk 0) (omega (arith, many))
      ∙ ap (λ (a : Nwk). a ∷ drop (i + 1) (map nwk (take n row))) (get_or-map nwk (take n row) i 0 ∙ ap nwk (get_or-take n row i 0 l))

  pub row-end : n ≤ i → drop i (map nwk (take n row)) ≡ []
  row-end l = rest-done (map nwk (take n row)) i (omega (arith, many))

-- the first relays of two lists compared, beside what the answer is so far
pub same_turn : {xs ys r s : List Nwk} {a b : Nwk} → xs ≡ a ∷ r → ys ≡ b ∷ s → (so : Bool) → ((so && eqb a.0 b.0) && same_relays r s) ≡ (so && same_relays xs ys)
same_turn {r = r} {s = s} {a = a} {b = b} p q so = rw (p, q) (go so) where
  go : (so : Bool) → ((so && eqb a.0 b.0) && same_relays r s) ≡ (so && (eqb a.0 b.0 && same_relays r s))
  go true = refl
  go false = refl

pub same_end : {xs ys : List Nwk} → xs ≡ [] → ys ≡ [] → (so : Bool) → so ≡ (so && same_relays xs ys)
same_end p q true = rw (p, q)
same_end p q false = refl

pub other_length : (xs ys : List Nwk) → (length xs ≡ length ys → ⊥) → same_relays xs ys ≡ false
other_length [] [] n = absurd (n refl)
other_length [] (y ∷ ys) n = refl
other_length (x ∷ xs) [] n = refl
other_length (x ∷ xs) (y ∷ ys) n = both (eqb x.0 y.0) (other_length xs ys (λ e. n (ap suc e))) where
  both : (b : Bool) → same_relays xs ys ≡ false → (b && same_relays xs ys) ≡ false
  both true h = h
  both false h = refl

-- as many relays as an entry counts are read from its row
pub row-relays : (n : ℕ) (row : List ℕ) → length row ≡ 32 → n ≤ 32 → length (map nwk (take n row)) ≡ n
row-relays n row w h = length-map (take n row) nwk ∙ length-take-le n row (omega arith)

-- the way by the number of relays
module _ (limit : ℕ) (x : RouteRecord) where
  pub way-direct : length x.relays ≡ 0 → way_by limit (Some x) ≡ record { route = Some Direct; relays = [] }
  way-direct h = rw (eq-eqb (length x.relays) 0 h)

  pub way-short : (length x.relays ≡ 0 → ⊥) → length x.relays < limit → way_by limit (Some x) ≡ record { route = Some SourceRoute; relays = x.relays }
  way-short n h = rw (ne_eqb (length x.relays) 0 n, lt-ltb (length x.relays) limit h)

  pub way_long : (length x.relays ≡ 0 → ⊥) → limit ≤ length x.relays → way_by limit (Some x) ≡ no_way
  way_long n h = rw (ne_eqb (length x.relays) 0 n, le-ltb (length x.relays) limit h)
