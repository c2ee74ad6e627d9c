-- A route goes into its numbers and comes back, and numbers without a bit past the fields go into a route and come back:
-- each field is a digit of the word, and a number is the sum of its digits.
use Prim.Native.Nat.{ℕ, zero, suc, ◌+◌, ◌*◌, ◌/◌, ◌%◌, ◌<◌}
use mathlib.Core.Bool.{Bool, true, false}
use mathlib.Core.List.{List, [], ◌∷◌}
use mathlib.Core.Path.{◌≡◌, refl, ap, ◌∙◌}
use native.Mathlib.Omega.{arith}
use lib.Dec.{eqb}
use lib.ListN.{length}
use mir.Val.{bool_byte}
use Rattle.standard.specs.declared.Status.{Status}
use Rattle.standard.specs.declared.Status.TheVariants.{Active, DiscoveryUnderway, DiscoveryFailed, Inactive}
use Rattle.standard.specs.declared.RouteEntry.{RouteEntry}
use Rattle.standard.specs.Numbers.{status_number}
use Rattle.standard.specs.Route.{route_key}
use Rattle.columns.specs.Codec.{Codec}
use Rattle.route_table.specs.Codec.{status_of, route_word, word_end, route_numbers, route_in, route_of, Clean, InRange}
use Rattle.route_table.specs.Table.{blank_route}

bit-back : (b : Bool) → eqb (bool_byte b) 1 ≡ b
bit-back true = refl
bit-back false = refl

bit-small : (b : Bool) → bool_byte b < 2
bit-small true = omega arith
bit-small false = omega arith

bit-digit : (n : ℕ) → n < 2 → bool_byte (eqb n 1) ≡ n
bit-digit zero h = refl
bit-digit (suc zero) h = refl
bit-digit (suc (suc n)) h = absurd (omega arith)

status-back : (s : Status) → status_of (status_number s) ≡ s
status-back Active = refl
status-back DiscoveryUnderway = refl
status-back DiscoveryFailed = refl
status-back Inactive = refl

status-small : (s : Status) → status_number s < 4
status-small Active = omega arith
status-small DiscoveryUnderway = omega arith
status-small DiscoveryFailed = omega arith
status-small Inactive = omega arith

-- the number of a status that is read, below 4
status-digit : (n : ℕ) → n < 4 → status_number (status_of n) ≡ n
status-digit zero h = refl
status-digit (suc zero) h = refl
status-digit (suc (suc zero)) h = refl
status-digit (suc (suc (suc zero))) h = refl
status-digit (suc (suc (suc (suc n)))) h = absurd (omega arith)

-- the digits of a word
module _ (h c r s x y z w : ℕ) (hb : h < 65536) (cb : c < 256) (rb : r < 256) (sb : s < 4) (xb : x < 2) (yb : y < 2) (zb : z < 2) (wb : w < 2) where
  abbrev packed : ℕ
  packed = h + c * 65536 + r * 16777216 + s * 4294967296 + x * 17179869184 + y * 34359738368 + z * 68719476736 + w * 137438953472

  record Digits : Type 0 where
    hop : packed % 65536 ≡ h
    cost : (packed / 65536) % 256 ≡ c
    recent : (packed / 16777216) % 256 ≡ r
    status : (packed / 4294967296) % 4 ≡ s
    first : (packed / 17179869184) % 2 ≡ x
    second : (packed / 34359738368) % 2 ≡ y
    third : (packed / 68719476736) % 2 ≡ z
    fourth : (packed / 137438953472) % 2 ≡ w
    small : packed < word_end

  digits : Digits
  digits = record {
    hop = omega arith;
    cost = omega arith;
    recent = omega arith;
    status = omega arith;
    first = omega arith;
    second = omega arith;
    third = omega arith;
    fourth = omega arith;
    small = omega arith;
  }

-- a word is the sum of its digits: with each digit, what is below the next
module _ (w : ℕ) where
  below-recent : w % 65536 + ((w / 65536) % 256) * 65536 ≡ w % 16777216
  below-recent = omega arith

  below-status : w % 16777216 + ((w / 16777216) % 256) * 16777216 ≡ w % 4294967296
  below-status = omega arith

  below-first : w % 4294967296 + ((w / 4294967296) % 4) * 4294967296 ≡ w % 17179869184
  below-first = omega arith

  below-second : w % 17179869184 + ((w / 17179869184) % 2) * 17179869184 ≡ w % 34359738368
  below-second = omega arith

  below-third : w % 34359738368 + ((w / 34359738368) % 2) * 34359738368 ≡ w % 68719476736
  below-third = omega arith

  below-fourth : w % 68719476736 + ((w / 68719476736) % 2) * 68719476736 ≡ w % 137438953472
  below-fourth = omega arith

  whole : w < word_end → w % 137438953472 + ((w / 137438953472) % 2) * 137438953472 ≡ w
  whole h = omega arith

module _ (e : RouteEntry) (r : InRange e) where
  in-word : Digits _ _ _ _ _ _ _ _ r.hop r.cost r.recent (status-small e.status) (bit-small e.no_route_cache) (bit-small e.many_to_one) (bit-small e.route_record_required) (bit-small e.expired)
  in-word = digits _ _ _ _ _ _ _ _ r.hop r.cost r.recent (status-small e.status) (bit-small e.no_route_cache) (bit-small e.many_to_one) (bit-small e.route_record_required) (bit-small e.expired)

  pub route-back : route_in (route_key e) (route_word e) e.total_usage_count ≡ e
  unfolding route_in route_word
  route-back = λ z. record {
    destination = e.destination;
    status = (ap status_of in-word.status ∙ status-back e.status) z;
    no_route_cache = (ap (λ (n : ℕ). eqb n 1) in-word.first ∙ bit-back e.no_route_cache) z;
    many_to_one = (ap (λ (n : ℕ). eqb n 1) in-word.second ∙ bit-back e.many_to_one) z;
    route_record_required = (ap (λ (n : ℕ). eqb n 1) in-word.third ∙ bit-back e.route_record_required) z;
    expired = (ap (λ (n : ℕ). eqb n 1) in-word.fourth ∙ bit-back e.expired) z;
    next_hop_address = record { 0 = in-word.hop z };
    path_cost = in-word.cost z;
    total_usage_count = e.total_usage_count;
    recent_activity = in-word.recent z;
  }

  pub word_small : route_word e < word_end
  unfolding route_word
  word_small = in-word.small

pub word_back : (k w u : ℕ) → w < word_end → route_word (route_in k w u) ≡ w
unfolding route_in route_word
word_back k w u h =
    let recent = (λ z. below-recent w z + ((w / 16777216) % 256) * 16777216) ∙ below-status w in
    let status = (λ z. recent z + status-digit ((w / 4294967296) % 4) (omega arith) z * 4294967296) ∙ below-first w in
    let first = (λ z. status z + bit-digit ((w / 17179869184) % 2) (omega arith) z * 17179869184) ∙ below-second w in
    let second = (λ z. first z + bit-digit ((w / 34359738368) % 2) (omega arith) z * 34359738368) ∙ below-third w in
    let third = (λ z. second z + bit-digit ((w / 68719476736) % 2) (omega arith) z * 68719476736) ∙ below-fourth w in
    (λ z. third z + bit-digit ((w / 137438953472) % 2) (omega arith) z * 137438953472) ∙ whole w h

pub key-read : (k w u : ℕ) → route_key (route_in k w u) ≡ k
unfolding route_in
key-read k w u = refl

pub usage-read : (k w u : ℕ) → (route_in k w u).total_usage_count ≡ u
unfolding route_in
usage-read k w u = refl

pub zero-read : route_in 0 0 0 ≡ blank_route
unfolding route_in
zero-read = refl

pub read-in-range : (k w u : ℕ) → InRange (route_in k w u)
unfolding route_in
read-in-range k w u = record { hop = omega arith; cost = omega arith; recent = omega arith }

numbers-back : (v : List ℕ) → length v ≡ 3 → Clean v → route_numbers (route_of v) ≡ v
numbers-back [] l c = absurd (omega arith)
numbers-back (k ∷ []) l c = absurd (omega arith)
numbers-back (k ∷ w ∷ []) l c = absurd (omega arith)
numbers-back (k ∷ w ∷ u ∷ []) l c = λ z. key-read k w u z ∷ word_back k w u c z ∷ usage-read k w u z ∷ []
numbers-back (k ∷ w ∷ u ∷ x ∷ v) l c = absurd (omega arith)

pub codec : Codec 3 route_key blank_route route_of route_numbers Clean InRange
codec = record {
  back = route-back;
  forth = numbers-back;
  wide = λ e. refl;
  key-first = λ e. refl;
  own_key = λ v c. key-read _ _ _;
  zero = zero-read;
  clean = word_small;
  clean-zero = omega arith;
  within = λ v c. read-in-range _ _ _;
}
