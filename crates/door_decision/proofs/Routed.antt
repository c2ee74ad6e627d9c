-- A source route of given relays, place by place: they are the list's numbers, 0 after them, and the last of them is the hop.
use Prim.Native.Nat.{ℕ, zero, suc, ◌-◌, ◌<◌, ◌≤◌}
use native.Mathlib.Omega.{arith}
use mathlib.Core.List.{List, [], ◌∷◌, map}
use mathlib.Core.Path.{◌≡◌, refl, sym, ap, ◌∙◌}
use lib.ListN.{length, take, get_or, length-map, get_or-map}
use lib.Seq.{get_or-take, length-take-le}
use Rattle.standard.specs.Route.{nwk}
use Rattle.flat_map.specs.Rows.{pad}
use Rattle.flat_map.proofs.Rows.{cons, getD-pad}
use Rattle.relay_store.specs.Store.{number, relay_list}
use Rattle.relay_store.proofs.Cells.{list_count}
use Rattle.next_hop.specs.Decision.{last_relay}
use Rattle.door_records.specs.Records.{given}
use Rattle.door_decision.specs.Decision.{resolve_at, routed_places}

-- addresses padded are numbers padded
pad-numbers : (n : ℕ) (xs : List ℕ) → map number (pad n (nwk 0) (map nwk xs)) ≡ pad n 0 xs
pad-numbers zero xs = refl
pad-numbers (suc n) [] = cons 0 (pad-numbers n [])
pad-numbers (suc n) (x ∷ xs) = cons x (pad-numbers n xs)

module _ (xs : List ℕ) where
  pub given-count : (given xs).count ≡ length xs
  given-count = list_count (map nwk xs) ∙ length-map xs nwk

  given-numbers : map number (given xs).addresses ≡ pad 32 0 xs
  unfolding relay_list
  given-numbers = pad-numbers 32 xs

  given-last : 0 < length xs → length xs ≤ 32 → (last_relay (given xs)).0 ≡ get_or xs (length xs - 1) 0
  given-last some few =
      sym (get_or-map number (given xs).addresses ((given xs).count - 1) (nwk 0))
      ∙ ap (λ (ys : List ℕ). get_or ys ((given xs).count - 1) 0) given-numbers
      ∙ ap (λ (k : ℕ). get_or (pad 32 0 xs) (k - 1) 0) given-count
      ∙ getD-pad 32 (length xs - 1) 0 xs (omega arith) few

-- what is written of a list's first relays
module _ (from : List ℕ) (n : ℕ) (some : 0 < n) (few : n ≤ 32) (long : n ≤ length from) where
  many : length (take n from) ≡ n
  many = length-take-le n from long

  pub routed : (relays : List ℕ) → relays ≡ pad 32 0 (take n from) → resolve_at 0 1 1 (n - 1) n relays 0 (get_or from (n - 1) 0) ≡ routed_places (given (take n from))
  routed relays e = λ z. resolve_at 0 1 1 (count z - 1) (count z) (places z) 0 (hop z) where
    count : n ≡ (given (take n from)).count
    count = sym (given-count (take n from) ∙ many)

    places : relays ≡ map number (given (take n from)).addresses
    places = e ∙ sym (given-numbers (take n from))

    hop : get_or from (n - 1) 0 ≡ (last_relay (given (take n from))).0
    hop =
        sym (given-last (take n from) (omega (arith, many)) (omega (arith, many))
        ∙ ap (λ (k : ℕ). get_or (take n from) (k - 1) 0) many
        ∙ get_or-take n from (n - 1) 0 (omega arith))
