-- The command on the columns, as steps on the rows: a neighbour's number by its words, a row's tally stored in three columns, and what each
-- verdict makes of the rule.
use Rattle.std.specs.Prelude.{Option, Some, None, Result, Ok, Err}
use Prim.Native.Nat.{ℕ, ◌+◌, ◌*◌, ◌<◌, ◌≤◌}
use mathlib.Core.Bool.{Bool, true, false, cond, not, ◌&&◌, true≢false}
use mathlib.Core.List.{List, map}
use mathlib.Core.Path.{◌≡◌, refl, sym, ap, ◌∙◌, subst}
use borrow.Author.Tests.{leb-true, le-leb, lt-ltb, le-ltb}
use lib.Dec.{eqb, leb, ltb}
use lib.ListN.{take, get_or, set}
use Rattle.types.specs.declared.Nwk.{Nwk}
use Rattle.types.specs.declared.Eui64.{Eui64}
use Rattle.types.specs.declared.Refusal.{Refusal}
use Rattle.types.specs.declared.Refusal.TheVariants.{ListTooLong, LinkCostTooHigh, TimePastEnd, NeighborTableFull}
use Rattle.types.specs.Clock.{time_sum, last_time}
use Rattle.standard.specs.Ordered.{lookup, put, remove, count_with}
use Rattle.ring_buffer.specs.declared.RingBuffer.{RingBuffer}
use Rattle.flat_map.specs.Seek.{place_of}
use Rattle.flat_map.specs.Table.{every}
use Rattle.flat_map.proofs.Every.{every-remove}
use Rattle.columns.proofs.Rows as rows
use Rattle.neighbor_table.specs.declared.NeighborEntry.{NeighborEntry}
use Rattle.neighbor_table.specs.Entry.{neighbor_key, is_sound}
use Rattle.neighbor_columns.specs.declared.LinkPart.{LinkPart}
use Rattle.neighbor_columns.specs.declared.CountsPart.{CountsPart}
use Rattle.neighbor_columns.specs.Codec.{link_of, link_word, counts_of, counts_word, neighbor_from, neighbor_in, LinkRange, CountsRange}
use Rattle.neighbor_columns.specs.Lent.{lent_keys}
use Rattle.neighbor_columns.specs.Table.{NeighborTable, in_columns, rows_of, row_at, Formed64, WellFormed, Keeps, Holds}
use Rattle.neighbor_columns.proofs.Codec.{link-back, link-clean, counts-back}
use Rattle.neighbor_columns.proofs.Rows.{sound-row, put_holds, found-row, missing-row, room-told}
use Rattle.neighbor_columns.proofs.Stored.{stored_at}
use Rattle.waiting_table.specs.declared.WaitingEntry.{WaitingEntry}
use Rattle.waiting_table.specs.Entry as waits-entry
use Rattle.waiting_table.specs.Entry.{waiting_key}
use Rattle.waiting_columns.specs.Table as waiting
use Rattle.waiting_columns.proofs.Rows as waiting-rows
use Rattle.neighbor_queries.proofs.Checked.{picks_first, picks_second}
use Rattle.link_status.specs.declared.LinkStatusCommand.{LinkStatusCommand}
use Rattle.link_status.specs.declared.Tally.{Tally}
use Rattle.link_status.specs.Statuses.{among, costs_fit, is_live_at, live_number, statuses_of, tallied}
use Rattle.link_status.specs.Digest.{admitted_rows, begun, finished, forever, heard_rows, lost, new_router, samples_of, tally_by}
use Rattle.link_status.proofs.Live.{among-live}
use Rattle.link_status.proofs.Kept.{tallied-small, begun-small, finished-sound, finished-key, new-key, cost-of, new-sound}
use Rattle.link_status_lent.specs.declared.Verdict.TheVariants.{Known, New, Turned}
use Rattle.link_status_lent.specs.Columns.{RowsLeft, refused_rows, left_rows, on_link_status_rows, Leaves, Fair, Decides, number_in, begun_in, finished_link, finished_counts, lent_status}

-- a row's number by its words
pub number_read : (key nwk link counts deadline period heard added beacon bytes : ℕ)
    → live_number (neighbor_in key nwk link counts deadline period heard added beacon bytes) ≡ number_in nwk link
unfolding neighbor_from link_of
number_read key nwk link counts deadline period heard added beacon bytes = refl

-- a tally by the numbers of the rows is one by their live links
pub counted-live : (own : Nwk) (command : LinkStatusCommand) (start : Tally) (xs : List NeighborEntry) (numbers : List ℕ) (n : ℕ) → take n numbers ≡ map live_number xs
    → tallied own (λ a. among (a.0 * 2 + 1) (take n numbers)) (statuses_of command) start ≡ tallied own (is_live_at xs) (statuses_of command) start
counted-live own command start xs numbers n e =
    ap (λ (f : Nwk → Bool). tallied own f (statuses_of command) start) (λ z. λ (a : Nwk). (ap (among (a.0 * 2 + 1)) e ∙ among-live a xs) z)

-- a row's sums and cost, and what is left of it, by its parts
module _ (key nwk : ℕ) (l : LinkPart) (c : CountsPart) (deadline period heard added beacon bytes : ℕ) where
  pub begun-parts : (first : Bool) → begun_in first l c ≡ begun first (neighbor_from key nwk l c deadline period heard added beacon bytes)
  unfolding neighbor_from
  begun-parts first = refl

  pub finished-parts : (now : ℕ) (x : Tally)
      → finished now x (neighbor_from key nwk l c deadline period heard added beacon bytes) ≡ neighbor_from key nwk (finished_link x l) (finished_counts x c) deadline period now added beacon bytes
  unfolding neighbor_from finished
  finished-parts now x = refl

-- the row in a place in use with the tally x, stored by the words of its parts
module _ (t : NeighborTable) (w : WellFormed t) (i : ℕ) (h : i < t.count) (now : ℕ) (x : Tally) (small : x.cost ≤ 7) where
  abbrev row : NeighborEntry
  row = row_at t i

  abbrev l : LinkPart
  l = finished_link x (link_of (get_or t.links i 0))

  abbrev q : CountsPart
  q = finished_counts x (counts_of (get_or t.counts i 0))

  keeps : LinkRange l → CountsRange q
      → Keeps (lent_status (set t.links i (link_word l)) (set t.counts i (counts_word q)) (set t.heard i now) t.count t) (put neighbor_key (finished now x row) (rows_of t))
  keeps r s =
      subst (λ (e : NeighborEntry). Keeps after (put neighbor_key e (rows_of t))) same
      (subst (λ (u : NeighborTable). Keeps u (put neighbor_key word (rows_of t)))
      (λ z. in_columns t.keys (rows.set_same t.nwks i z) (set t.links i (link_word l)) (set t.counts i (counts_word q)) (rows.set_same t.deadlines i z) (rows.set_same t.periods i z) (set t.heard i now) (rows.set_same t.added i z) (rows.set_same t.beacons i z) (rows.set_same t.bytes i z) t.count)
      (stored_at t w.formed i h _ (link_word l) (counts_word q) _ _ now _ _ _ (link-clean l r))) where
        after : NeighborTable
        after = lent_status (set t.links i (link_word l)) (set t.counts i (counts_word q)) (set t.heard i now) t.count t

        word : NeighborEntry
        word = neighbor_in (get_or t.keys i 0) (get_or t.nwks i 0) (link_word l) (counts_word q) (get_or t.deadlines i 0) (get_or t.periods i 0) now (get_or t.added i 0) (get_or t.beacons i 0) (get_or t.bytes i 0)

        same : word ≡ finished now x row
        same =
            (λ z. neighbor_from (get_or t.keys i 0) (get_or t.nwks i 0) (link-back l r z) (counts-back q s z) (get_or t.deadlines i 0) (get_or t.periods i 0) now (get_or t.added i 0) (get_or t.beacons i 0) (get_or t.bytes i 0))
            ∙ sym (finished-parts (get_or t.keys i 0) (get_or t.nwks i 0) (link_of (get_or t.links i 0)) (counts_of (get_or t.counts i 0)) (get_or t.deadlines i 0) (get_or t.periods i 0) (get_or t.heard i 0) (get_or t.added i 0) (get_or t.beacons i 0) (get_or t.bytes i 0) now x)

  pub tally-stored : LinkRange l → CountsRange q
      → Holds (lent_status (set t.links i (link_word l)) (set t.counts i (counts_word q)) (set t.heard i now) t.count t) (put neighbor_key (finished now x row) (rows_of t))
  tally-stored r s = put_holds t _ (finished now x row) w (finished-sound now x row small (sound-row t w.formed w.sound i h)) (keeps r s)

-- the words as they were made, and columns that hold the rows left
module _ (t : NeighborTable) (w : WellFormed t) (i : ℕ) (h : i < t.count) (now : ℕ) (x : Tally) (small : x.cost ≤ 7) where
  pub stored-by : (old part : LinkPart) (before after : CountsPart) (link count : ℕ)
      → old ≡ link_of (get_or t.links i 0) → part ≡ finished_link x old → (link ≡ link_word part) × LinkRange part
      → before ≡ counts_of (get_or t.counts i 0) → after ≡ finished_counts x before → (count ≡ counts_word after) × CountsRange after
      → Holds (lent_status (set t.links i link) (set t.counts i count) (set t.heard i now) t.count t) (put neighbor_key (finished now x (row_at t i)) (rows_of t))
  stored-by old part before after link count a b c d e f =
      let p = b ∙ ap (finished_link x) a in
      let q = e ∙ ap (finished_counts x) d in
      let v = sym (c.0 ∙ ap link_word p) in
      let u = sym (f.0 ∙ ap counts_word q) in
      subst (λ (s : NeighborTable). Holds s (put neighbor_key (finished now x (row_at t i)) (rows_of t)))
      (λ z. lent_status (set t.links i (v z)) (set t.counts i (u z)) (set t.heard i now) t.count t)
      (tally-stored t w i h now x small (subst LinkRange p c.1) (subst CountsRange q f.1))

-- the cost after a fair command is one that a link can have
pub tally-small : (xs : List NeighborEntry) (own : Nwk) (command : LinkStatusCommand) (e : NeighborEntry) → Fair command → is_sound e ≡ true → (tally_by xs own command e).cost ≤ 7
tally-small xs own command e g s = tallied-small own (is_live_at xs) (statuses_of command) (begun command.is_first_frame e) g.cheap (begun-small command.is_first_frame e (cost-of e s))

-- the answer by the parts of the row
lost-parts : (key nwk : ℕ) (l : LinkPart) (c : CountsPart) (deadline period heard added beacon bytes : ℕ) (x : Tally)
    → cond (ltb 0 l.outgoing_cost && eqb x.cost 0) (Ok (Some (record { 0 = nwk }))) (Ok None) ≡ lost (neighbor_from key nwk l c deadline period heard added beacon bytes) x
unfolding neighbor_from
lost-parts key nwk l c deadline period heard added beacon bytes x = refl

-- the command digested into a row of the table, by the parts of the row
pub digested-by : (t : NeighborTable) → WellFormed t → (i : ℕ) → i < t.count → (own : Nwk) (command : LinkStatusCommand) (now : ℕ) → Fair command
    → (l : LinkPart) (c : CountsPart) (start x : Tally) (r : Result (Option Nwk) Refusal) (u : NeighborTable)
    → l ≡ link_of (get_or t.links i 0) → c ≡ counts_of (get_or t.counts i 0) → start ≡ begun_in command.is_first_frame l c
    → x ≡ tallied own (is_live_at (rows_of t)) (statuses_of command) start
    → (x.cost ≤ 7 → Holds u (put neighbor_key (finished now x (row_at t i)) (rows_of t)))
    → r ≡ cond (ltb 0 l.outgoing_cost && eqb x.cost 0) (Ok (Some (record { 0 = get_or t.nwks i 0 }))) (Ok None)
    → (r ≡ lost (row_at t i) (tally_by (rows_of t) own command (row_at t i))) × Holds u (put neighbor_key (finished now (tally_by (rows_of t) own command (row_at t i)) (row_at t i)) (rows_of t))
digested-by t w i h own command now g l c start x r u a b d e f k =
    (k ∙ (λ z. cond (ltb 0 (a z).outgoing_cost && eqb (q z).cost 0) (Ok (Some (record { 0 = get_or t.nwks i 0 }))) (Ok None)) ∙ lost-parts (get_or t.keys i 0) (get_or t.nwks i 0) (link_of (get_or t.links i 0)) (counts_of (get_or t.counts i 0)) (get_or t.deadlines i 0) (get_or t.periods i 0) (get_or t.heard i 0) (get_or t.added i 0) (get_or t.beacons i 0) (get_or t.bytes i 0) (tally_by (rows_of t) own command (row_at t i)), subst (λ (y : Tally). Holds u (put neighbor_key (finished now y row) (rows_of t))) q (f (subst (λ (y : Tally). y.cost ≤ 7) (sym q) small))) where
      row : NeighborEntry
      row = row_at t i

      small : (tally_by (rows_of t) own command (row_at t i)).cost ≤ 7
      small = tally-small (rows_of t) own command (row_at t i) g (sound-row t w.formed w.sound i h)

      q : x ≡ tally_by (rows_of t) own command (row_at t i)
      q =
          e
          ∙ ap (tallied own (is_live_at (rows_of t)) (statuses_of command))
          (d
          ∙ (λ z. begun_in command.is_first_frame (a z) (b z))
          ∙ begun-parts (get_or t.keys i 0) (get_or t.nwks i 0) (link_of (get_or t.links i 0)) (counts_of (get_or t.counts i 0)) (get_or t.deadlines i 0) (get_or t.periods i 0) (get_or t.heard i 0) (get_or t.added i 0) (get_or t.beacons i 0) (get_or t.bytes i 0) command.is_first_frame)

-- a sum that the clock has
pub has-time : (now at : ℕ) → Some at ≡ time_sum now forever → now + forever ≤ last_time
has-time now at e = go (leb (now + forever) last_time) refl e where
  is_at : Option ℕ → Bool
  is_at (Some n) = true
  is_at None = false

  go : (b : Bool) → leb (now + forever) last_time ≡ b → Some at ≡ cond b (Some (now + forever)) None → now + forever ≤ last_time
  go true q p = leb-true _ _ q
  go false q p = absurd (true≢false (ap is_at p))

-- no link of a new router is lost
none-lost : (name : Eui64) (nwk : Nwk) (at now : ℕ) (samples : RingBuffer) (x : Tally) → lost (new_router name nwk at now samples) x ≡ Ok None
unfolding new_router
none-lost name nwk at now samples x = refl

-- what a verdict rests on
module _ (keys : List ℕ) (count : ℕ) (name : Eui64) (command : LinkStatusCommand) (now : ℕ) where
  pub too_long : 31 < command.count → Decides keys count name command now (Turned ListTooLong)
  too_long h t f ws own nwk lqi = picks_first _ _ (lt-ltb 31 _ h)

  pub too-high : command.count ≤ 31 → every costs_fit (statuses_of command) ≡ false → Decides keys count name command now (Turned LinkCostTooHigh)
  too-high h e t f ws own nwk lqi = picks_second _ _ (le-ltb 31 _ h) ∙ picks_first _ _ (ap not e)

  fair-heard : Fair command → (xs : List NeighborEntry) (ws : List WaitingEntry) (own nwk : Nwk) (lqi : ℕ)
      → on_link_status_rows xs ws own name nwk lqi command now ≡ heard_rows (refused_rows xs ws) left_rows xs ws own name nwk lqi command now (lookup neighbor_key name.0 xs)
  fair-heard g xs ws own nwk lqi = picks_second _ _ (le-ltb 31 _ g.short) ∙ picks_second _ _ (ap not g.cheap)

  module _ (t : NeighborTable) (f : Formed64 (lent_keys keys count t)) (ws : List WaitingEntry) (own nwk : Nwk) (lqi : ℕ) (g : Fair command) (i : ℕ) where
    abbrev xs : List NeighborEntry
    xs = rows_of (lent_keys keys count t)

    abbrev met : NeighborEntry
    met = row_at (lent_keys keys count t) i

    abbrev newcomer : NeighborEntry
    newcomer = new_router name nwk (now + forever) now (samples_of nwk lqi ws)

    pub known-rule : Ok i ≡ place_of (take count keys) name.0
        → on_link_status_rows xs ws own name nwk lqi command now ≡ left_rows (lost met (tally_by xs own command met)) (put neighbor_key (finished now (tally_by xs own command met) met) xs) (remove waiting_key nwk.0 ws)
    known-rule p =
        fair-heard g xs ws own nwk lqi
        ∙ ap (heard_rows (refused_rows xs ws) left_rows xs ws own name nwk lqi command now) (found-row (lent_keys keys count t) f name.0 i p)

    missed-rule : Err i ≡ place_of (take count keys) name.0
        → on_link_status_rows xs ws own name nwk lqi command now ≡ admitted_rows (refused_rows xs ws) left_rows xs ws own name nwk lqi command now (time_sum now forever)
    missed-rule p =
        fair-heard g xs ws own nwk lqi
        ∙ ap (heard_rows (refused_rows xs ws) left_rows xs ws own name nwk lqi command now) (missing-row (lent_keys keys count t) f name.0 i p)

    past-rule : Err i ≡ place_of (take count keys) name.0 → None ≡ time_sum now forever → on_link_status_rows xs ws own name nwk lqi command now ≡ refused_rows xs ws TimePastEnd
    past-rule p q = missed-rule p ∙ ap (admitted_rows (refused_rows xs ws) left_rows xs ws own name nwk lqi command now) (sym q)

    room : (p : Err i ≡ place_of (take count keys) name.0) → leb (count_with neighbor_key name.0 xs) 64 ≡ ltb count 64
    room p = room-told (lent_keys keys count t) f name.0 (Err i) p

    full-rule : Err i ≡ place_of (take count keys) name.0 → now + forever ≤ last_time → 64 ≤ count → on_link_status_rows xs ws own name nwk lqi command now ≡ refused_rows xs ws NeighborTableFull
    full-rule p h l =
        missed-rule p
        ∙ ap (admitted_rows (refused_rows xs ws) left_rows xs ws own name nwk lqi command now) (picks_first _ _ (le-leb _ _ h))
        ∙ picks_second _ _ (room p ∙ le-ltb count 64 l)

    pub new-rule : Err i ≡ place_of (take count keys) name.0 → now + forever ≤ last_time → count < 64
        → on_link_status_rows xs ws own name nwk lqi command now ≡ left_rows (Ok None) (put neighbor_key (finished now (tally_by xs own command newcomer) newcomer) xs) (remove waiting_key nwk.0 ws)
    new-rule p h l =
        missed-rule p
        ∙ ap (admitted_rows (refused_rows xs ws) left_rows xs ws own name nwk lqi command now) (picks_first _ _ (le-leb _ _ h))
        ∙ picks_first _ _ (room p ∙ lt-ltb count 64 l)
        ∙ ap (λ (o : Result (Option Nwk) Refusal). left_rows o (put neighbor_key (finished now (tally_by xs own command newcomer) newcomer) xs) (remove waiting_key nwk.0 ws)) (none-lost name nwk (now + forever) now (samples_of nwk lqi ws) (tally_by xs own command newcomer))

  pub past : Fair command → (i : ℕ) → Err i ≡ place_of (take count keys) name.0 → None ≡ time_sum now forever → Decides keys count name command now (Turned TimePastEnd)
  past g i p q t f ws own nwk lqi = past-rule t f ws own nwk lqi g i p q

  pub full : Fair command → (i : ℕ) → Err i ≡ place_of (take count keys) name.0 → now + forever ≤ last_time → 64 ≤ count → Decides keys count name command now (Turned NeighborTableFull)
  full g i p h l t f ws own nwk lqi = full-rule t f ws own nwk lqi g i p h l

-- what the call leaves in the columns
module _ (t : NeighborTable) (w : WellFormed t) (s : waiting.WaitingTable) (y : waiting.WellFormed s) (own : Nwk) (name : Eui64) (nwk : Nwk) (lqi : ℕ) (command : LinkStatusCommand) (now : ℕ) where
  abbrev rule : RowsLeft
  rule = on_link_status_rows (rows_of t) (waiting.rows_of s) own name nwk lqi command now

  left-waiting : (v : waiting.WaitingTable) → waiting.Keeps v (remove waiting_key nwk.0 (waiting.rows_of s)) → waiting.Holds v (remove waiting_key nwk.0 (waiting.rows_of s))
  left-waiting v k = waiting-rows.keeps-holds v _ k (every-remove waits-entry.is_sound waiting_key nwk.0 (waiting.rows_of s) y.sound)

  pub turned-leaves : (r : Refusal) → Decides t.keys t.count name command now (Turned r) → Leaves rule (Err r) t s
  turned-leaves r d =
      subst (λ (o : RowsLeft). Leaves o (Err r) t s) (sym (d t w.formed (waiting.rows_of s) own nwk lqi))
      (record { said = refl; neighbors = record { formed = w; rows = refl }; waiting = record { formed = y; rows = refl } })

  pub known-leaves : (i : ℕ) → Decides t.keys t.count name command now (Known i) → (r : Result (Option Nwk) Refusal) (u : NeighborTable) (v : waiting.WaitingTable)
      → (r ≡ lost (row_at t i) (tally_by (rows_of t) own command (row_at t i))) × Holds u (put neighbor_key (finished now (tally_by (rows_of t) own command (row_at t i)) (row_at t i)) (rows_of t))
      → waiting.Keeps v (remove waiting_key nwk.0 (waiting.rows_of s)) → Leaves rule r u v
  known-leaves i d r u v h k =
      subst (λ (o : RowsLeft). Leaves o r u v) (sym (known-rule t.keys t.count name command now t w.formed (waiting.rows_of s) own nwk lqi d.0 i d.1))
      (record { said = h.0; neighbors = h.1; waiting = left-waiting v k })

  abbrev made : NeighborEntry
  made = new_router name nwk (now + forever) now (samples_of nwk lqi (waiting.rows_of s))

  pub made-key : (e : NeighborEntry) → e ≡ finished now (tally_by (rows_of t) own command made) made → neighbor_key e ≡ name.0
  made-key e q = ap neighbor_key q ∙ finished-key now (tally_by (rows_of t) own command made) made ∙ new-key name nwk (now + forever) now (samples_of nwk lqi (waiting.rows_of s))

  pub new-leaves : (i : ℕ) → Decides t.keys t.count name command now (New i) → (e : NeighborEntry) → e ≡ finished now (tally_by (rows_of t) own command made) made
      → (u : NeighborTable) (v : waiting.WaitingTable) → Keeps u (put neighbor_key e (rows_of t)) → waiting.Keeps v (remove waiting_key nwk.0 (waiting.rows_of s)) → Leaves rule (Ok None) u v
  new-leaves i d e q u v h k =
      subst (λ (o : RowsLeft). Leaves o (Ok None) u v) (sym (new-rule t.keys t.count name command now t w.formed (waiting.rows_of s) own nwk lqi d.0 i d.1 d.3 d.2))
      (record {
        said = refl;
        neighbors = subst (λ (x : NeighborEntry). Holds u (put neighbor_key x (rows_of t))) q (put_holds t u e w (ap is_sound q ∙ sound) h);
        waiting = left-waiting v k;
      }) where
        fresh : is_sound made ≡ true
        fresh = new-sound name nwk (now + forever) now lqi (waiting.rows_of s) y.sound

        sound : is_sound (finished now (tally_by (rows_of t) own command made) made) ≡ true
        sound = finished-sound now (tally_by (rows_of t) own command made) made (tally-small (rows_of t) own command made d.0 fresh) fresh

-- and in the answer that names the counts
pub as-answered : {x : RowsLeft} {c0 c1 c2 c3 c4 c5 c6 c7 c8 c9 d0 d1 : List ℕ} {answer said : (Result (Option Nwk) Refusal)} {n many m left : ℕ} → (said ≡ answer) × (many ≡ n) × (left ≡ m)
    → Leaves x answer (in_columns c0 c1 c2 c3 c4 c5 c6 c7 c8 c9 n) (waiting.in_columns d0 d1 m) → Leaves x said (in_columns c0 c1 c2 c3 c4 c5 c6 c7 c8 c9 many) (waiting.in_columns d0 d1 left)
as-answered e l = rw (e.0, e.1, e.2) l
