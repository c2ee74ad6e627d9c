-- A discovery goes into a key, a word and an end and comes back, and a key and a word with no bit past their fields go into one and come back:
-- each digit of a number is a field, and the digits of a number below its end are all of it.
use Prim.Native.Nat.{ℕ, ◌+◌, ◌*◌, ◌/◌, ◌%◌, ◌<◌}
use native.Mathlib.Omega.{arith}
use mathlib.Core.List.{List, [], ◌∷◌}
use mathlib.Core.Path.{◌≡◌, refl}
use lib.ListN.{length, get_or}
use Rattle.standard.specs.declared.DiscoveryEntry.{DiscoveryEntry}
use Rattle.standard.specs.Discovery.{discovery_key}
use Rattle.columns.specs.Codec.{Codec}
use Rattle.discovery_table.specs.Codec.{discovery_word, word_end, key_end, discovery_numbers, discovery_in, discovery_of, Clean, InRange}
use Rattle.discovery_table.specs.Table.{blank_discovery}

-- the digits of a key
module _ (s i : ℕ) (sb : s < 65536) (ib : i < 256) where
  k0 : (s * 256 + i) % 256 ≡ i
  k0 = omega arith

  k1 : ((s * 256 + i) / 256) % 65536 ≡ s
  k1 = omega arith

  key-under : s * 256 + i < key_end
  key-under = omega arith

-- the digits of a word
module _ (s d f r : ℕ) (sb : s < 65536) (db : d < 65536) (fb : f < 256) (rb : r < 256) where
  abbrev packed : ℕ
  packed = s + d * 65536 + f * 4294967296 + r * 1099511627776

  d0 : packed % 65536 ≡ s
  d0 = omega arith

  d1 : (packed / 65536) % 65536 ≡ d
  d1 = omega arith

  d2 : (packed / 4294967296) % 256 ≡ f
  d2 = omega arith

  d3 : (packed / 1099511627776) % 256 ≡ r
  d3 = omega arith

  word-under : packed < word_end
  word-under = omega arith

-- a number is its digits
key-is : (k : ℕ) → k < key_end → (k / 256) % 65536 * 256 + k % 256 ≡ k
key-is k h = omega arith

word-is : (w : ℕ) → w < word_end
    → w % 65536 + (w / 65536) % 65536 * 65536 + (w / 4294967296) % 256 * 4294967296 + (w / 1099511627776) % 256 * 1099511627776 ≡ w
word-is w h = sum w _ _ _ _ _ _ _ p0 p1 p2 p3 where
  p0 : w % 65536 + w / 65536 * 65536 ≡ w
  p0 = omega arith

  p1 : (w / 65536) % 65536 + w / 4294967296 * 65536 ≡ w / 65536
  p1 = omega arith

  p2 : (w / 4294967296) % 256 + w / 1099511627776 * 256 ≡ w / 4294967296
  p2 = omega arith

  p3 : (w / 1099511627776) % 256 ≡ w / 1099511627776
  p3 = omega arith

  sum : (w a b c p q r s : ℕ) → p + a * 65536 ≡ w → q + b * 65536 ≡ a → r + c * 256 ≡ b → s ≡ c
      → p + q * 65536 + r * 4294967296 + s * 1099511627776 ≡ w
  sum w a b c p q r s e f g h = omega arith

discovery-back : (d : DiscoveryEntry) → InRange d → discovery_of (discovery_numbers d) ≡ d
unfolding discovery_in discovery_word
discovery-back d r = λ z. record {
  route_request_id = k0 _ _ r.source r.id z;
  source_address = record { 0 = k1 _ _ r.source r.id z };
  sender_address = record { 0 = d0 _ _ _ _ r.sender r.destination r.forward r.residual z };
  forward_cost = d2 _ _ _ _ r.sender r.destination r.forward r.residual z;
  residual_cost = d3 _ _ _ _ r.sender r.destination r.forward r.residual z;
  expiration_time = d.expiration_time;
  destination_address = record { 0 = d1 _ _ _ _ r.sender r.destination r.forward r.residual z };
}

own_key : (v : List ℕ) → Clean v → discovery_key (discovery_of v) ≡ get_or v 0 0
unfolding discovery_in
own_key v c = key-is (get_or v 0 0) c.key

own-word : (v : List ℕ) → Clean v → discovery_word (discovery_of v) ≡ get_or v 1 0
unfolding discovery_in discovery_word
own-word v c = word-is (get_or v 1 0) c.word

numbers-back : (v : List ℕ) → length v ≡ 3 → Clean v → discovery_numbers (discovery_of v) ≡ v
unfolding discovery_in
numbers-back [] l c = absurd (omega arith)
numbers-back (k ∷ []) l c = absurd (omega arith)
numbers-back (k ∷ w ∷ []) l c = absurd (omega arith)
numbers-back (k ∷ w ∷ u ∷ []) l c = λ z. own_key (k ∷ w ∷ u ∷ []) c z ∷ own-word (k ∷ w ∷ u ∷ []) c z ∷ u ∷ []
numbers-back (k ∷ w ∷ u ∷ x ∷ v) l c = absurd (omega arith)

zero-read : discovery_in 0 0 0 ≡ blank_discovery
unfolding discovery_in
zero-read = refl

numbers-clean : (d : DiscoveryEntry) → InRange d → Clean (discovery_numbers d)
unfolding discovery_word
numbers-clean d r = record {
  key = key-under _ _ r.source r.id;
  word = word-under _ _ _ _ r.sender r.destination r.forward r.residual;
}

read-within : (v : List ℕ) → InRange (discovery_of v)
unfolding discovery_in
read-within v = record {
  source = omega arith;
  id = omega arith;
  sender = omega arith;
  destination = omega arith;
  forward = omega arith;
  residual = omega arith;
}

pub codec : Codec 3 discovery_key blank_discovery discovery_of discovery_numbers Clean InRange
codec = record {
  back = discovery-back;
  forth = numbers-back;
  wide = λ d. refl;
  key-first = λ d. refl;
  own_key = own_key;
  zero = zero-read;
  clean = numbers-clean;
  clean-zero = record { key = omega arith; word = omega arith };
  within = λ v c. read-within v;
}
