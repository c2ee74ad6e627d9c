-- Numbers that are values of their fields: a header that has them has these numbers again, and what is read of a field is read of its number.
use Prim.Native.Nat.{ℕ, zero, suc, ◌≤◌}
use native.Mathlib.Omega.{arith}
use mathlib.Core.Bool.{◌&&◌, ◌||◌}
use mathlib.Core.Path.{◌≡◌, refl}
use lib.Dec.{eqb, ltb}
use Rattle.types.specs.declared.Nwk.{Nwk}
use Rattle.numbers.specs.Said.{flag_number}
use Rattle.standard.specs.declared.RelayList.{RelayList}
use Rattle.relay_store.proofs.Cells.{number-nwk}
use Rattle.frame.specs.declared.NwkHeader.{NwkHeader}
use Rattle.frame.specs.Header.{is_suppressed}
use Rattle.frame.specs.Numbers.{discovery_number}
use Rattle.next_hop.specs.Decision.{kind_long}
use Rattle.decision_lines.specs.Arguments.{kind_of}
use Rattle.decision_lines.specs.Header.{discovery_of}
use Rattle.door_decision.specs.Header.{HeaderPlaces, Values, header_in, header_places}

bit-back : (n : ℕ) → n ≤ 1 → flag_number (eqb n 1) ≡ n
bit-back zero h = refl
bit-back (suc zero) h = refl
bit-back (suc (suc n)) h = absurd (omega arith)

discovery-back : (n : ℕ) → n ≤ 2 → discovery_number (discovery_of n) ≡ n
discovery-back zero h = refl
discovery-back (suc zero) h = refl
discovery-back (suc (suc zero)) h = refl
discovery-back (suc (suc (suc n))) h = absurd (omega arith)

-- a header that is left as it came leaves its places
pub same-places : (d : Nwk) (p : HeaderPlaces) → Values p → (h : NwkHeader) → header_places (header_in d p h) ≡ p
same-places d p v h = λ z. record {
  discovery = discovery-back p.discovery v.discovery z;
  bit = bit-back p.bit v.bit z;
  has = bit-back p.has v.has z;
  index = p.index;
  count = p.count;
  relays = number-nwk p.relays z;
}

-- the number 0 suppresses discovery
pub shut_by : (n : ℕ) → n ≤ 2 → eqb n 0 ≡ is_suppressed (discovery_of n)
shut_by zero h = refl
shut_by (suc zero) h = refl
shut_by (suc (suc zero)) h = refl
shut_by (suc (suc (suc n))) h = absurd (omega arith)

-- the modes 3 and 5 name the host's relays
pub long-by : (n : ℕ) → n ≤ 5 → (hop : Nwk) (l : RelayList) → kind_long l (kind_of n hop) ≡ ((eqb n 3 || eqb n 5) && ltb 32 l.count)
long-by zero h hop l = refl
long-by (suc zero) h hop l = refl
long-by (suc (suc zero)) h hop l = refl
long-by (suc (suc (suc zero))) h hop l = refl
long-by (suc (suc (suc (suc zero)))) h hop l = refl
long-by (suc (suc (suc (suc (suc zero))))) h hop l = refl
long-by (suc (suc (suc (suc (suc (suc n)))))) h hop l = absurd (omega arith)
