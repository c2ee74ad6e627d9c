-- A link word with another ring in its lowest 40 bits says the same but for its samples, and stored it is the row with one more sample.
-- Samples that wait: with room made, the sender's samples and one more are stored under its address.
use Rattle.std.specs.Prelude.{Option, Some, None}
use Prim.Native.Nat.{ℕ, ◌+◌, ◌*◌, ◌/◌, ◌%◌, ◌<◌, ◌≤◌}
use native.Mathlib.Omega.{arith}
use mathlib.Core.List.{List}
use mathlib.Core.Path.{◌≡◌, refl, sym, ap, ◌∙◌, subst}
use lib.Dec.{eqb}
use lib.ListN.{get_or, set}
use Rattle.types.specs.declared.Nwk.{Nwk}
use Rattle.standard.specs.Ordered.{lookup, put, count_with}
use Rattle.standard.specs.Rows.{put_back}
use Rattle.ring_buffer.specs.declared.RingBuffer.{RingBuffer}
use Rattle.ring_buffer.specs.Ring.{after_push}
use Rattle.ring_buffer.specs.Word.{ring_of, ring_word, word_end}
use Rattle.ring_buffer.specs.Word as ring
use Rattle.ring_buffer.proofs.Word.{ring-below}
use Rattle.neighbor_table.specs.declared.NeighborEntry.{NeighborEntry}
use Rattle.neighbor_table.specs.Entry.{neighbor_key, is_sound}
use Rattle.neighbor_columns.specs.declared.LinkPart.{LinkPart}
use Rattle.neighbor_columns.specs.declared.CountsPart.{CountsPart}
use Rattle.neighbor_columns.specs.Kinds.{device_type_of, relationship_of}
use Rattle.neighbor_columns.specs.Codec.{link_of, counts_of, neighbor_from, CleanLink}
use Rattle.neighbor_columns.specs.Lent.{with_links}
use Rattle.neighbor_columns.specs.Table.{NeighborTable, rows_of, row_at, WellFormed, Holds}
use Rattle.neighbor_columns.proofs.Rows.{sound-row, changed-holds}
use Rattle.neighbor_columns.proofs.Stored.{link-word-stored}
use Rattle.neighbor_changes.specs.declared.Change.TheVariants.{Sample}
use Rattle.neighbor_changes.specs.Change.{applied}
use Rattle.neighbor_changes.proofs.Kept.{still-sound}
use Rattle.waiting_table.specs.declared.WaitingEntry.{WaitingEntry}
use Rattle.waiting_table.specs.Entry.{waiting_key, ring_in}
use Rattle.waiting_columns.specs.Table as waits
use Rattle.waiting_columns.proofs.Rows as waiting-rows
use Rattle.link_quality.specs.Rules.{room_for, waiting_after, sampled_link}
use Rattle.link_quality.proofs.Rows as samples

-- what is read above the ring
module _ (v w : ℕ) (b : v < word_end) where
  abbrev over : ℕ
  over = v + (w / 1099511627776) * 1099511627776

  record Above : Type 0 where
    cost : over / 1099511627776 ≡ w / 1099511627776
    receiver : over / 281474976710656 ≡ w / 281474976710656
    keepalive : over / 562949953421312 ≡ w / 562949953421312
    device : over / 1125899906842624 ≡ w / 1125899906842624
    relation : over / 4503599627370496 ≡ w / 4503599627370496

  above : Above
  above = record {
    cost = omega arith;
    receiver = omega arith;
    keepalive = omega arith;
    device = omega arith;
    relation = omega arith;
  }

  pub still-clean : CleanLink w → CleanLink over
  still-clean c = record { device = omega (arith, above.device, c.device); relation = omega (arith, above.relation, c.relation) }

module _ (r : RingBuffer) (q : ring.InRange r) (w : ℕ) (b : ring_word r < word_end) where
  ring-over : link_of (ring_word r + (w / 1099511627776) * 1099511627776) ≡ record {
    lqas = r;
    outgoing_cost = (link_of w).outgoing_cost;
    device_type = (link_of w).device_type;
    relationship = (link_of w).relationship;
    rx_on_when_idle = (link_of w).rx_on_when_idle;
    keepalive_received = (link_of w).keepalive_received;
  }
  unfolding link_of
  ring-over =
      let a = above (ring_word r) w b in
      λ z. record {
        lqas = ring-below r q (w / 1099511627776) z;
        outgoing_cost = a.cost z % 256;
        device_type = device_type_of (a.device z % 4);
        relationship = relationship_of (a.relation z);
        rx_on_when_idle = eqb (a.receiver z % 2) 1;
        keepalive_received = eqb (a.keepalive z % 2) 1;
      }

-- the word that is stored
pub link-sampled : (w lqi : ℕ) (r : RingBuffer) → r ≡ after_push (ring_of w) lqi → ring.InRange r → (v : ℕ) → v ≡ ring_word r → v < word_end
    → (link_of (v + (w / 1099511627776) * 1099511627776) ≡ sampled_link lqi (link_of w)) × (CleanLink w → CleanLink (v + (w / 1099511627776) * 1099511627776))
unfolding link_of
link-sampled w lqi r e q v f b = (
  ap (λ (x : ℕ). link_of (x + (w / 1099511627776) * 1099511627776)) f
      ∙ ring-over r q w (subst (λ (x : ℕ). x < word_end) f b)
      ∙ (λ z. record {
        lqas = e z;
        outgoing_cost = (link_of w).outgoing_cost;
        device_type = (link_of w).device_type;
        relationship = (link_of w).relationship;
        rx_on_when_idle = (link_of w).rx_on_when_idle;
        keepalive_received = (link_of w).keepalive_received;
      }),
  still-clean v w b,
)

row-sampled : (lqi key nwk : ℕ) (l : LinkPart) (p : CountsPart) (deadline period heard added beacon bytes : ℕ)
    → neighbor_from key nwk (sampled_link lqi l) p deadline period heard added beacon bytes ≡ applied (Sample lqi) (neighbor_from key nwk l p deadline period heard added beacon bytes)
unfolding neighbor_from applied
row-sampled lqi key nwk l p deadline period heard added beacon bytes = refl

-- stored in the row that was found
pub sample-held : (t : NeighborTable) → WellFormed t → (o : Option NeighborEntry) (i : ℕ) → i < t.count → o ≡ Some (row_at t i) → (lqi v : ℕ)
    → link_of v ≡ sampled_link lqi (link_of (get_or t.links i 0)) → (CleanLink (get_or t.links i 0) → CleanLink v)
    → Holds (with_links (set t.links i v) t) (put_back neighbor_key (applied (Sample lqi)) o (rows_of t))
sample-held t w o i h q lqi v e c =
    changed-holds t w (applied (Sample lqi)) o (with_links (set t.links i v) t) i _ q is
    (ap is_sound is ∙ still-sound (Sample lqi) (row_at t i) (sound-row t w.formed w.sound i h)) (link-word-stored t w.formed i h v (c (w.formed.clean i))) where
      is : neighbor_from (get_or t.keys i 0) (get_or t.nwks i 0) (link_of v) (counts_of (get_or t.counts i 0)) (get_or t.deadlines i 0) (get_or t.periods i 0) (get_or t.heard i 0) (get_or t.added i 0) (get_or t.beacons i 0) (get_or t.bytes i 0)
          ≡ applied (Sample lqi) (row_at t i)
      is =
          (λ z. neighbor_from (get_or t.keys i 0) (get_or t.nwks i 0) (e z) (counts_of (get_or t.counts i 0)) (get_or t.deadlines i 0) (get_or t.periods i 0) (get_or t.heard i 0) (get_or t.added i 0) (get_or t.beacons i 0) (get_or t.bytes i 0))
          ∙ row-sampled lqi _ _ _ _ _ _ _ _ _ _

-- the sender's samples and one more, by what the look-up found
module _ (t : waits.WaitingTable) (w : waits.WellFormed t) (nwk : Nwk) (lqi : ℕ) (u : waits.WaitingTable) (k : waits.Keeps u (room_for nwk (waits.rows_of t))) where
  pub has_room : count_with waiting_key nwk.0 (waits.rows_of u) ≤ 64
  has_room =
      subst (λ (xs : List WaitingEntry). count_with waiting_key nwk.0 xs ≤ 64) (sym k.rows)
      (samples.room-made nwk (waits.rows_of t) (omega (arith, waiting-rows.many t w.formed, w.formed.ordered.small)))

  pub sample-waits : (l : Option WaitingEntry) → l ≡ lookup waiting_key nwk.0 (waits.rows_of u) → (r : RingBuffer) → r ≡ after_push (ring_in l) lqi
      → (x : waits.WaitingTable) → waits.Keeps x (put waiting_key (record { network_address = nwk; lqas = r }) (waits.rows_of u))
      → waits.Holds x (waiting_after nwk lqi (waits.rows_of t))
  sample-waits l e r f x h =
      waiting-rows.keeps-holds x _ (record { formed = h.formed; rows = h.rows ∙ go (lookup waiting_key nwk.0 (waits.rows_of u)) refl }) (samples.after-sound nwk (waits.rows_of t) lqi w.sound) where
        rings : (o : Option WaitingEntry) → lookup waiting_key nwk.0 (waits.rows_of u) ≡ o → put waiting_key (record { network_address = nwk; lqas = r }) (waits.rows_of u)
            ≡ put waiting_key (record { network_address = nwk; lqas = after_push (ring_in o) lqi }) (room_for nwk (waits.rows_of t))
        rings o q = λ z. put waiting_key (record { network_address = nwk; lqas = (f ∙ ap (λ (y : Option WaitingEntry). after_push (ring_in y) lqi) (e ∙ q)) z }) (k.rows z)

        there : (o : Option WaitingEntry) → lookup waiting_key nwk.0 (waits.rows_of u) ≡ o → lookup waiting_key nwk.0 (room_for nwk (waits.rows_of t)) ≡ o
        there o q = sym (ap (lookup waiting_key nwk.0) k.rows) ∙ q

        go : (o : Option WaitingEntry) → lookup waiting_key nwk.0 (waits.rows_of u) ≡ o → put waiting_key (record { network_address = nwk; lqas = r }) (waits.rows_of u) ≡ waiting_after nwk lqi (waits.rows_of t)
        go None q = rings None q ∙ sym (samples.first-sample nwk (waits.rows_of t) lqi (there None q))
        go (Some y) q = rings (Some y) q ∙ sym (samples.next-sample nwk (waits.rows_of t) lqi y (there (Some y) q))
