-- A loop that forgets every failure: a counts word without its lowest eight bits says the same but for no failures.
use Prim.Native.Nat.{ℕ, ◌+◌, ◌-◌, ◌/◌, ◌%◌, ◌<◌, ◌≤◌}
use native.Mathlib.Omega.{arith}
use mathlib.Core.Bool.{true}
use mathlib.Core.List.{List, map}
use mathlib.Core.Path.{◌≡◌, refl, ◌∙◌}
use lib.ListN.{get_or, set}
use Rattle.flat_map.proofs.Every.{every_map}
use Rattle.neighbor_table.specs.declared.NeighborEntry.{NeighborEntry}
use Rattle.neighbor_table.specs.Entry.{neighbor_key, is_sound}
use Rattle.neighbor_changes.specs.Change.{forgiven}
use Rattle.neighbor_columns.specs.declared.LinkPart.{LinkPart}
use Rattle.neighbor_columns.specs.declared.CountsPart.{CountsPart}
use Rattle.neighbor_columns.specs.Codec.{link_of, counts_of, neighbor_from}
use Rattle.neighbor_columns.specs.Table.{NeighborTable, rows_of, WellFormed}
use Rattle.neighbor_columns.specs.Lent.{with_counts, with_count, Changed}
use Rattle.neighbor_columns.proofs.Rows.{keeps-holds}
use Rattle.neighbor_columns.proofs.Sweeps.{Mapping, map-begins, map-counts, map-ends}
use Rattle.neighbor_changes_lent.specs.Counts.{with_failures}

-- the digits of a word without the lowest
module _ (w : ℕ) where
  record Cleared : Type 0 where
    failures : (w - w % 256) % 256 ≡ 0
    connectivity : (w - w % 256) / 256 ≡ w / 256
    diversity : (w - w % 256) / 65536 ≡ w / 65536
    outbound : (w - w % 256) / 16777216 ≡ w / 16777216
    inbound : (w - w % 256) / 4294967296 ≡ w / 4294967296
    security : (w - w % 256) / 1099511627776 ≡ w / 1099511627776
    configuration : (w - w % 256) / 281474976710656 ≡ w / 281474976710656

  cleared : Cleared
  cleared = record {
    failures = omega arith;
    connectivity = omega arith;
    diversity = omega arith;
    outbound = omega arith;
    inbound = omega arith;
    security = omega arith;
    configuration = omega arith;
  }

  counts-cleared : counts_of (w - w % 256) ≡ with_failures 0 (counts_of w)
  unfolding counts_of
  counts-cleared = λ z. record {
    transmit_failure = cleared.failures z;
    router_connectivity = cleared.connectivity z % 256;
    router_neighbor_set_diversity = cleared.diversity z % 256;
    router_outbound_activity = cleared.outbound z % 256;
    router_inbound_activity = cleared.inbound z % 256;
    security_timer = cleared.security z % 256;
    end_device_configuration = cleared.configuration z;
  }

row-forgiven : (key nwk : ℕ) (l : LinkPart) (p : CountsPart) (deadline period heard added beacon bytes : ℕ)
    → neighbor_from key nwk l (with_failures 0 p) deadline period heard added beacon bytes ≡ forgiven (neighbor_from key nwk l p deadline period heard added beacon bytes)
unfolding neighbor_from
row-forgiven key nwk l p deadline period heard added beacon bytes = refl

same_key : (x : NeighborEntry) → neighbor_key (forgiven x) ≡ neighbor_key x
same_key x = refl

as-sound : (x : NeighborEntry) → is_sound x ≡ true → is_sound (forgiven x) ≡ true
unfolding is_sound
as-sound x h = h

-- in every table that has the column c₀, the failures in the first i places of c are forgotten and the others are as they were
abbrev pub Forgiving : List ℕ → ℕ → List ℕ → ℕ → Type 0
Forgiving c₀ n c i = (t : NeighborTable) → WellFormed (with_counts c₀ (with_count n t)) → Mapping forgiven (with_counts c₀ (with_count n t)) (with_counts c (with_count n t)) i

module _ (c₀ : List ℕ) (n : ℕ) where
  pub forgiving-begins : Forgiving c₀ n c₀ 0
  forgiving-begins t w = map-begins forgiven same_key (with_counts c₀ (with_count n t)) w.formed

  pub forgiving-turns : (c : List ℕ) (i : ℕ) → i < n → Forgiving c₀ n c i → Forgiving c₀ n (set c i (get_or c i 0 - get_or c i 0 % 256)) (i + 1)
  forgiving-turns c i l m t w =
      map-counts forgiven same_key (with_counts c₀ (with_count n t)) w.formed (with_counts c (with_count n t)) i (m t w) l (get_or c i 0 - get_or c i 0 % 256)
      ((λ z. neighbor_from (get_or t.keys i 0) (get_or t.nwks i 0) (link_of (get_or t.links i 0)) (counts-cleared (get_or c i 0) z) (get_or t.deadlines i 0) (get_or t.periods i 0) (get_or t.heard i 0) (get_or t.added i 0) (get_or t.beacons i 0) (get_or t.bytes i 0))
      ∙ row-forgiven _ _ _ _ _ _ _ _ _ _)

  pub forgiving-ends : (c : List ℕ) (i : ℕ) → n ≤ i → Forgiving c₀ n c i → Changed (λ t. with_counts c₀ (with_count n t)) (λ t. with_counts c (with_count n t)) (map forgiven)
  forgiving-ends c i h m t w =
      keeps-holds (with_counts c (with_count n t)) _ (map-ends forgiven same_key (with_counts c₀ (with_count n t)) w.formed (with_counts c (with_count n t)) i (m t w) h)
      (every_map is_sound forgiven as-sound (rows_of (with_counts c₀ (with_count n t))) w.sound)
