-- A neighbour goes into its ten numbers and comes back, and numbers with a clean link word go into a neighbour and come back:
-- each field is a digit of its word, and a word is the sum of its digits. Both words by their parts first.
use Prim.Native.Nat.{ℕ, zero, suc, ◌+◌, ◌*◌, ◌/◌, ◌%◌, ◌<◌}
use native.Mathlib.Omega.{arith}
use mathlib.Core.Bool.{Bool, true, false}
use mathlib.Core.List.{List, [], ◌∷◌}
use mathlib.Core.Path.{◌≡◌, refl, ap, ◌∙◌}
use lib.Dec.{eqb}
use lib.ListN.{length}
use mir.Val.{bool_byte}
use Rattle.columns.specs.Codec.{Codec}
use Rattle.ring_buffer.specs.Word as ring
use Rattle.ring_buffer.proofs.Word as ring-word
use Rattle.neighbor_table.specs.declared.NwkDeviceType.{NwkDeviceType}
use Rattle.neighbor_table.specs.declared.NwkDeviceType.TheVariants.{Coordinator, Router, EndDevice}
use Rattle.neighbor_table.specs.declared.Relationship.{Relationship}
use Rattle.neighbor_table.specs.declared.Relationship.TheVariants.{Parent, Child, Sibling, NoneOfTheAbove, PreviousChild, UnauthenticatedChild, UnauthorizedChildWithRelayAllowed, LostChild, AddressConflictChild, BackboneMeshSibling}
use Rattle.neighbor_columns.specs.declared.LinkPart.{LinkPart}
use Rattle.neighbor_columns.specs.declared.CountsPart.{CountsPart}
use Rattle.neighbor_table.specs.declared.NeighborEntry.{NeighborEntry}
use Rattle.neighbor_columns.specs.Kinds.{device_type_of, relationship_of}
use Rattle.neighbor_table.specs.Entry.{device_type_number, relationship_number, neighbor_key, blank_neighbor}
use Rattle.neighbor_columns.specs.Codec.{link_of, link_word, counts_of, counts_word, low_half, high_half, pair_word, link_part, counts_part, neighbor_numbers, neighbor_from, neighbor_in, neighbor_of, CleanLink, Clean, LinkRange, CountsRange, InRange}

bit-back : (b : Bool) → eqb (bool_byte b) 1 ≡ b
bit-back true = refl
bit-back false = refl

bit-small : (b : Bool) → bool_byte b < 2
bit-small true = omega arith
bit-small false = omega arith

bit-digit : (n : ℕ) → n < 2 → bool_byte (eqb n 1) ≡ n
bit-digit zero h = refl
bit-digit (suc zero) h = refl
bit-digit (suc (suc n)) h = absurd (omega arith)

device-back : (x : NwkDeviceType) → device_type_of (device_type_number x) ≡ x
device-back Coordinator = refl
device-back Router = refl
device-back EndDevice = refl

pub device-small : (x : NwkDeviceType) → device_type_number x < 3
device-small Coordinator = omega arith
device-small Router = omega arith
device-small EndDevice = omega arith

device-digit : (n : ℕ) → n < 3 → device_type_number (device_type_of n) ≡ n
device-digit zero h = refl
device-digit (suc zero) h = refl
device-digit (suc (suc zero)) h = refl
device-digit (suc (suc (suc n))) h = absurd (omega arith)

relation-back : (x : Relationship) → relationship_of (relationship_number x) ≡ x
relation-back Parent = refl
relation-back Child = refl
relation-back Sibling = refl
relation-back NoneOfTheAbove = refl
relation-back PreviousChild = refl
relation-back UnauthenticatedChild = refl
relation-back UnauthorizedChildWithRelayAllowed = refl
relation-back LostChild = refl
relation-back AddressConflictChild = refl
relation-back BackboneMeshSibling = refl

pub relation-small : (x : Relationship) → relationship_number x < 10
relation-small Parent = omega arith
relation-small Child = omega arith
relation-small Sibling = omega arith
relation-small NoneOfTheAbove = omega arith
relation-small PreviousChild = omega arith
relation-small UnauthenticatedChild = omega arith
relation-small UnauthorizedChildWithRelayAllowed = omega arith
relation-small LostChild = omega arith
relation-small AddressConflictChild = omega arith
relation-small BackboneMeshSibling = omega arith

relation-digit : (n : ℕ) → n < 10 → relationship_number (relationship_of n) ≡ n
relation-digit zero h = refl
relation-digit (suc zero) h = refl
relation-digit (suc (suc zero)) h = refl
relation-digit (suc (suc (suc zero))) h = refl
relation-digit (suc (suc (suc (suc zero)))) h = refl
relation-digit (suc (suc (suc (suc (suc zero))))) h = refl
relation-digit (suc (suc (suc (suc (suc (suc zero)))))) h = refl
relation-digit (suc (suc (suc (suc (suc (suc (suc zero))))))) h = refl
relation-digit (suc (suc (suc (suc (suc (suc (suc (suc zero)))))))) h = refl
relation-digit (suc (suc (suc (suc (suc (suc (suc (suc (suc zero))))))))) h = refl
relation-digit (suc (suc (suc (suc (suc (suc (suc (suc (suc (suc n)))))))))) h = absurd (omega arith)

-- the digits of a link word
module _ (r c x k d s : ℕ) (rb : r < 1099511627776) (cb : c < 256) (xb : x < 2) (kb : k < 2) (db : d < 3) (sb : s < 10) where
  abbrev link-packed : ℕ
  link-packed = r + c * 1099511627776 + x * 281474976710656 + k * 562949953421312 + d * 1125899906842624 + s * 4503599627370496

  record LinkDigits : Type 0 where
    above : link-packed ≡ r + (c + x * 256 + k * 512 + d * 1024 + s * 4096) * ring.word_end
    cost : (link-packed / 1099511627776) % 256 ≡ c
    receiver : (link-packed / 281474976710656) % 2 ≡ x
    keepalive : (link-packed / 562949953421312) % 2 ≡ k
    device : (link-packed / 1125899906842624) % 4 ≡ d
    relation : link-packed / 4503599627370496 ≡ s

  link-digits : LinkDigits
  link-digits = record {
    above = omega arith;
    cost = omega arith;
    receiver = omega arith;
    keepalive = omega arith;
    device = omega arith;
    relation = omega arith;
  }

module _ (p : LinkPart) (q : LinkRange p) where
  in-link : LinkDigits _ _ _ _ _ _ (ring-word.word_small p.lqas q.samples) q.cost (bit-small p.rx_on_when_idle) (bit-small p.keepalive_received) (device-small p.device_type) (relation-small p.relationship)
  in-link = link-digits _ _ _ _ _ _ (ring-word.word_small p.lqas q.samples) q.cost (bit-small p.rx_on_when_idle) (bit-small p.keepalive_received) (device-small p.device_type) (relation-small p.relationship)

  -- a part goes into its word and comes back
  pub link-back : link_of (link_word p) ≡ p
  unfolding link_of link_word
  link-back = λ z. record {
    lqas = (ap ring.ring_of in-link.above ∙ ring-word.ring-below p.lqas q.samples _) z;
    outgoing_cost = in-link.cost z;
    device_type = (ap device_type_of in-link.device ∙ device-back p.device_type) z;
    relationship = (ap relationship_of in-link.relation ∙ relation-back p.relationship) z;
    rx_on_when_idle = (ap (λ (n : ℕ). eqb n 1) in-link.receiver ∙ bit-back p.rx_on_when_idle) z;
    keepalive_received = (ap (λ (n : ℕ). eqb n 1) in-link.keepalive ∙ bit-back p.keepalive_received) z;
  }

  pub link-clean : CleanLink (link_word p)
  unfolding link_word
  link-clean = record { device = omega (arith, in-link.device, device-small p.device_type); relation = omega (arith, in-link.relation, relation-small p.relationship) }

-- a link word is the sum of its digits: with each digit, what is below the next
module _ (w : ℕ) where
  below-receiver : w % 1099511627776 + ((w / 1099511627776) % 256) * 1099511627776 ≡ w % 281474976710656
  below-receiver = omega arith

  below-keepalive : w % 281474976710656 + ((w / 281474976710656) % 2) * 281474976710656 ≡ w % 562949953421312
  below-keepalive = omega arith

  below-device : w % 562949953421312 + ((w / 562949953421312) % 2) * 562949953421312 ≡ w % 1125899906842624
  below-device = omega arith

  below-relation : w % 1125899906842624 + ((w / 1125899906842624) % 4) * 1125899906842624 ≡ w % 4503599627370496
  below-relation = omega arith

  link-whole : w % 4503599627370496 + (w / 4503599627370496) * 4503599627370496 ≡ w
  link-whole = omega arith

-- a clean word goes into its part and comes back
pub link-forth : (w : ℕ) → CleanLink w → link_word (link_of w) ≡ w
unfolding link_of link_word
link-forth w c =
    let cost = (λ z. ring-word.ring-part w z + ((w / 1099511627776) % 256) * 1099511627776) ∙ below-receiver w in
    let receiver = (λ z. cost z + bit-digit ((w / 281474976710656) % 2) (omega arith) z * 281474976710656) ∙ below-keepalive w in
    let keepalive = (λ z. receiver z + bit-digit ((w / 562949953421312) % 2) (omega arith) z * 562949953421312) ∙ below-device w in
    let device = (λ z. keepalive z + device-digit ((w / 1125899906842624) % 4) c.device z * 1125899906842624) ∙ below-relation w in
    (λ z. device z + relation-digit (w / 4503599627370496) c.relation z * 4503599627370496) ∙ link-whole w

pub link-read : (w : ℕ) → LinkRange (link_of w)
unfolding link_of
link-read w = record { samples = ring-word.read-in-range w; cost = omega arith }

-- the digits of a counts word
module _ (f c d o i s n : ℕ) (fb : f < 256) (cb : c < 256) (db : d < 256) (ob : o < 256) (ib : i < 256) (sb : s < 256) where
  abbrev counts-packed : ℕ
  counts-packed = f + c * 256 + d * 65536 + o * 16777216 + i * 4294967296 + s * 1099511627776 + n * 281474976710656

  record CountsDigits : Type 0 where
    failures : counts-packed % 256 ≡ f
    connectivity : (counts-packed / 256) % 256 ≡ c
    diversity : (counts-packed / 65536) % 256 ≡ d
    outbound : (counts-packed / 16777216) % 256 ≡ o
    inbound : (counts-packed / 4294967296) % 256 ≡ i
    security : (counts-packed / 1099511627776) % 256 ≡ s
    configuration : counts-packed / 281474976710656 ≡ n

  counts-digits : CountsDigits
  counts-digits = record {
    failures = omega arith;
    connectivity = omega arith;
    diversity = omega arith;
    outbound = omega arith;
    inbound = omega arith;
    security = omega arith;
    configuration = omega arith;
  }

module _ (p : CountsPart) (q : CountsRange p) where
  in-counts : CountsDigits _ _ _ _ _ _ p.end_device_configuration q.failures q.connectivity q.diversity q.outbound q.inbound q.security
  in-counts = counts-digits _ _ _ _ _ _ p.end_device_configuration q.failures q.connectivity q.diversity q.outbound q.inbound q.security

  pub counts-back : counts_of (counts_word p) ≡ p
  unfolding counts_of counts_word
  counts-back = λ z. record {
    transmit_failure = in-counts.failures z;
    router_connectivity = in-counts.connectivity z;
    router_neighbor_set_diversity = in-counts.diversity z;
    router_outbound_activity = in-counts.outbound z;
    router_inbound_activity = in-counts.inbound z;
    security_timer = in-counts.security z;
    end_device_configuration = in-counts.configuration z;
  }

module _ (w : ℕ) where
  below-diversity : w % 256 + ((w / 256) % 256) * 256 ≡ w % 65536
  below-diversity = omega arith

  below-outbound : w % 65536 + ((w / 65536) % 256) * 65536 ≡ w % 16777216
  below-outbound = omega arith

  below-inbound : w % 16777216 + ((w / 16777216) % 256) * 16777216 ≡ w % 4294967296
  below-inbound = omega arith

  below-security : w % 4294967296 + ((w / 4294967296) % 256) * 4294967296 ≡ w % 1099511627776
  below-security = omega arith

  below-configuration : w % 1099511627776 + ((w / 1099511627776) % 256) * 1099511627776 ≡ w % 281474976710656
  below-configuration = omega arith

  counts_whole : w % 281474976710656 + (w / 281474976710656) * 281474976710656 ≡ w
  counts_whole = omega arith

pub counts-forth : (w : ℕ) → counts_word (counts_of w) ≡ w
unfolding counts_of counts_word
counts-forth w =
    let diversity = (λ z. below-diversity w z + ((w / 65536) % 256) * 65536) ∙ below-outbound w in
    let outbound = (λ z. diversity z + ((w / 16777216) % 256) * 16777216) ∙ below-inbound w in
    let inbound = (λ z. outbound z + ((w / 4294967296) % 256) * 4294967296) ∙ below-security w in
    let security = (λ z. inbound z + ((w / 1099511627776) % 256) * 1099511627776) ∙ below-configuration w in
    (λ z. security z + (w / 281474976710656) * 281474976710656) ∙ counts_whole w

pub counts-read : (w : ℕ) → CountsRange (counts_of w)
unfolding counts_of
counts-read w = record { failures = omega arith; connectivity = omega arith; diversity = omega arith; outbound = omega arith; inbound = omega arith; security = omega arith }

-- the halves of a word
pub low-back : (a b : ℕ) → a < 4294967296 → low_half (pair_word a b) ≡ a
unfolding low_half pair_word
low-back a b h = omega arith

pub high-back : (a b : ℕ) → a < 4294967296 → high_half (pair_word a b) ≡ b
unfolding high_half pair_word
high-back a b h = omega arith

pub pair-forth : (w : ℕ) → pair_word (low_half w) (high_half w) ≡ w
unfolding low_half high_half pair_word
pair-forth w = omega arith

low_small : (w : ℕ) → low_half w < 4294967296
unfolding low_half
low_small w = omega arith

-- a neighbour is made of its parts and numbers
pub neighbor-back : (e : NeighborEntry) → InRange e → neighbor_of (neighbor_numbers e) ≡ e
unfolding neighbor_from
neighbor-back e r =
    let l = link-back (link_part e) r.link in
    let c = counts-back (counts_part e) r.counts in λ z. record {
      extended_address = e.extended_address;
      network_address = e.network_address;
      device_type = (l z).device_type;
      rx_on_when_idle = (l z).rx_on_when_idle;
      end_device_configuration = (c z).end_device_configuration;
      timeout_at = e.timeout_at;
      device_timeout = e.device_timeout;
      relationship = (l z).relationship;
      transmit_failure = (c z).transmit_failure;
      lqas = (l z).lqas;
      outgoing_cost = (l z).outgoing_cost;
      last_link_status_timestamp = e.last_link_status_timestamp;
      incoming_beacon_timestamp = low-back e.incoming_beacon_timestamp e.beacon_transmission_time_offset r.beacon z;
      beacon_transmission_time_offset = high-back e.incoming_beacon_timestamp e.beacon_transmission_time_offset r.beacon z;
      keepalive_received = (l z).keepalive_received;
      mac_unicast_bytes_transmitted = low-back e.mac_unicast_bytes_transmitted e.mac_unicast_bytes_received r.transmitted z;
      mac_unicast_bytes_received = high-back e.mac_unicast_bytes_transmitted e.mac_unicast_bytes_received r.transmitted z;
      router_added_timestamp = e.router_added_timestamp;
      router_connectivity = (c z).router_connectivity;
      router_neighbor_set_diversity = (c z).router_neighbor_set_diversity;
      router_outbound_activity = (c z).router_outbound_activity;
      router_inbound_activity = (c z).router_inbound_activity;
      security_timer = (c z).security_timer;
    }

module _ (key nwk link counts deadline period heard added beacon bytes : ℕ) where
  abbrev read : NeighborEntry
  read = neighbor_in key nwk link counts deadline period heard added beacon bytes

  pub key-read : neighbor_key read ≡ key
  unfolding neighbor_from
  key-read = refl

  pub read-in-range : InRange read
  unfolding neighbor_from
  read-in-range = record { link = link-read link; counts = counts-read counts; beacon = low_small beacon; transmitted = low_small bytes }

  pub numbers-read : CleanLink link → neighbor_numbers read ≡ (key ∷ nwk ∷ link ∷ counts ∷ deadline ∷ period ∷ heard ∷ added ∷ beacon ∷ bytes ∷ [])
  unfolding neighbor_from
  numbers-read c = λ z. key ∷ nwk ∷ link-forth link c z ∷ counts-forth counts z ∷ deadline ∷ period ∷ heard ∷ added ∷ pair-forth beacon z ∷ pair-forth bytes z ∷ []

pub zero-read : neighbor_in 0 0 0 0 0 0 0 0 0 0 ≡ blank_neighbor
unfolding neighbor_from link_of counts_of low_half high_half ring.ring_of
zero-read = refl

numbers-back : (v : List ℕ) → length v ≡ 10 → Clean v → neighbor_numbers (neighbor_of v) ≡ v
numbers-back (a ∷ b ∷ w ∷ d ∷ e ∷ f ∷ g ∷ h ∷ i ∷ j ∷ []) l c = numbers-read a b w d e f g h i j c
numbers-back [] l c = absurd (omega arith)
numbers-back (a ∷ []) l c = absurd (omega arith)
numbers-back (a ∷ b ∷ []) l c = absurd (omega arith)
numbers-back (a ∷ b ∷ w ∷ []) l c = absurd (omega arith)
numbers-back (a ∷ b ∷ w ∷ d ∷ []) l c = absurd (omega arith)
numbers-back (a ∷ b ∷ w ∷ d ∷ e ∷ []) l c = absurd (omega arith)
numbers-back (a ∷ b ∷ w ∷ d ∷ e ∷ f ∷ []) l c = absurd (omega arith)
numbers-back (a ∷ b ∷ w ∷ d ∷ e ∷ f ∷ g ∷ []) l c = absurd (omega arith)
numbers-back (a ∷ b ∷ w ∷ d ∷ e ∷ f ∷ g ∷ h ∷ []) l c = absurd (omega arith)
numbers-back (a ∷ b ∷ w ∷ d ∷ e ∷ f ∷ g ∷ h ∷ i ∷ []) l c = absurd (omega arith)
numbers-back (a ∷ b ∷ w ∷ d ∷ e ∷ f ∷ g ∷ h ∷ i ∷ j ∷ x ∷ v) l c = absurd (omega arith)

pub zero-clean : CleanLink 0
zero-clean = record { device = omega arith; relation = omega arith }

pub codec : Codec 10 neighbor_key blank_neighbor neighbor_of neighbor_numbers Clean InRange
codec = record {
  back = neighbor-back;
  forth = numbers-back;
  wide = λ e. refl;
  key-first = λ e. refl;
  own_key = λ v c. key-read _ _ _ _ _ _ _ _ _ _;
  zero = zero-read;
  clean = λ e r. link-clean (link_part e) r.link;
  clean-zero = zero-clean;
  within = λ v c. read-in-range _ _ _ _ _ _ _ _ _ _;
}
