-- A link status command on the columns of both tables: what it is lent, what it decides before it writes, and what it leaves.
-- Document 01, "Decision (001) and neighbours (003)", third paragraph; "Refusal numbers": 8, 11, 5, 4. 05-3474, section 3.6.4.4.2.
-- Assumes nothing.
use Rattle.std.specs.Prelude.{ℕ, ◌+◌, ◌*◌, ◌/◌, ◌%◌, ◌<◌, ◌≤◌, Bool, true, cond, ◌||◌, List, ◌≡◌, ltb, take, Option, Result, Ok, Err}
use Rattle.types.specs.declared.Nwk.{Nwk}
use Rattle.types.specs.declared.Eui64.{Eui64}
use Rattle.types.specs.declared.Refusal.{Refusal}
use Rattle.types.specs.Clock.{last_time}
use Rattle.standard.specs.Ordered.{put}
use Rattle.flat_map.specs.Seek.{place_of}
use Rattle.flat_map.specs.Table.{every}
use Rattle.neighbor_table.specs.declared.NeighborEntry.{NeighborEntry}
use Rattle.neighbor_table.specs.Entry.{neighbor_key, is_end_device}
use Rattle.neighbor_columns.specs.declared.LinkPart.{LinkPart}
use Rattle.neighbor_columns.specs.declared.CountsPart.{CountsPart}
use Rattle.neighbor_columns.specs.Lent.{with_nwks, with_links, with_counts, with_heard, with_count, lent_keys, Asked}
use Rattle.neighbor_columns.specs.Table.{NeighborTable, rows_of, row_at, WellFormed, Holds}
use Rattle.waiting_table.specs.declared.WaitingEntry.{WaitingEntry}
use Rattle.waiting_columns.specs.Table as waiting
use Rattle.link_status.specs.declared.LinkStatusCommand.{LinkStatusCommand}
use Rattle.link_status.specs.declared.Tally.{Tally}
use Rattle.link_status.specs.Statuses.{costs_fit, statuses_of}
use Rattle.link_status.specs.Digest.{as_router, finished, forever, lost, on_rows, tally_by}
use Rattle.link_status_lent.specs.declared.Verdict.{Verdict}
use Rattle.link_status_lent.specs.declared.Verdict.TheVariants.{Known, New, Turned}

-- an answer, and the rows of both tables after it
pub record RowsLeft : Type 0 where
  pub answer : Result (Option Nwk) Refusal
  pub neighbors : List NeighborEntry
  pub waiting : List WaitingEntry

abbrev pub refused_rows : List NeighborEntry → List WaitingEntry → Refusal → RowsLeft
refused_rows xs ws r = record { answer = Err r; neighbors = xs; waiting = ws }

abbrev pub left_rows : Result (Option Nwk) Refusal → List NeighborEntry → List WaitingEntry → RowsLeft
left_rows a xs ws = record { answer = a; neighbors = xs; waiting = ws }

-- the link status command on the rows of both tables: `on_rows` of link_status
abbrev pub on_link_status_rows : List NeighborEntry → List WaitingEntry → Nwk → Eui64 → Nwk → ℕ → LinkStatusCommand → ℕ → RowsLeft
on_link_status_rows xs ws own name nwk lqi command now = on_rows (refused_rows xs ws) left_rows xs ws own name nwk lqi command now

-- an answer as it was to be, and columns that hold the rows left, well formed
pub record Leaves (x : RowsLeft) (answer : Result (Option Nwk) Refusal) (t : NeighborTable) (w : waiting.WaitingTable) : Type 0 where
  pub said : answer ≡ x.answer
  pub neighbors : Holds t x.neighbors
  pub waiting : waiting.Holds w x.waiting

-- the columns that the tally reads, and those that change with a known sender
abbrev pub lent_live : List ℕ → List ℕ → ℕ → NeighborTable → NeighborTable
lent_live nwks links n t = with_nwks nwks (with_links links (with_count n t))

abbrev pub lent_status : List ℕ → List ℕ → List ℕ → ℕ → NeighborTable → NeighborTable
lent_status links counts heard n t = with_links links (with_counts counts (with_heard heard (with_count n t)))

-- a neighbour's address doubled, and one more where the link to it is live, of its numbers
abbrev pub number_in : ℕ → ℕ → ℕ
number_in nwk link = cond (ltb 0 ((link / 1099511627776) % 256)) (nwk * 2 + 1) (nwk * 2)

-- `begun` and `finished` on the parts of an entry
abbrev pub begun_in : Bool → LinkPart → CountsPart → Tally
begun_in first l c = record {
  connectivity = cond first 0 c.router_connectivity;
  diversity = cond first 0 c.router_neighbor_set_diversity;
  cost = cond first 0 l.outgoing_cost;
}

abbrev pub finished_link : Tally → LinkPart → LinkPart
finished_link x l = record {
  lqas = l.lqas;
  outgoing_cost = x.cost;
  device_type = as_router l.device_type;
  relationship = l.relationship;
  rx_on_when_idle = l.rx_on_when_idle || is_end_device l.device_type;
  keepalive_received = l.keepalive_received;
}

abbrev pub finished_counts : Tally → CountsPart → CountsPart
finished_counts x c = record {
  transmit_failure = c.transmit_failure;
  router_connectivity = x.connectivity;
  router_neighbor_set_diversity = x.diversity;
  router_outbound_activity = c.router_outbound_activity;
  router_inbound_activity = c.router_inbound_activity;
  security_timer = c.security_timer;
  end_device_configuration = c.end_device_configuration;
}

-- a command that no refusal meets
pub record Fair (command : LinkStatusCommand) : Type 0 where
  pub short : command.count ≤ 31
  pub cheap : every costs_fit (statuses_of command) ≡ true

-- the row in place i with the tally x, stored; the columns of every table that has them before are well formed after
abbrev pub Stores : (NeighborTable → NeighborTable) → (NeighborTable → NeighborTable) → ℕ → ℕ → Tally → Type 0
Stores before after i now x =
    (t : NeighborTable) → WellFormed (before t) → i < (before t).count → x.cost ≤ 7
    → Holds (after t) (put neighbor_key (finished now x (row_at (before t) i)) (rows_of (before t)))

-- the command digested into the row in place i, and its answer
abbrev pub Digests : (NeighborTable → NeighborTable) → (NeighborTable → NeighborTable) → ℕ → Nwk → LinkStatusCommand → ℕ → Result (Option Nwk) Refusal → Type 0
Digests before after i own command now answer =
    (t : NeighborTable) → WellFormed (before t)
    → (answer ≡ lost (row_at (before t) i) (tally_by (rows_of (before t)) own command (row_at (before t) i)))
    × Holds (after t) (put neighbor_key (finished now (tally_by (rows_of (before t)) own command (row_at (before t) i)) (row_at (before t) i)) (rows_of (before t)))

-- what is decided before anything is written: the sender's place, known or new, or a refusal
abbrev pub Decides : List ℕ → ℕ → Eui64 → LinkStatusCommand → ℕ → Verdict → Type 0
Decides keys count name command now (Known i) = Fair command × (Ok i ≡ place_of (take count keys) name.0)
Decides keys count name command now (New i) = Fair command × (Err i ≡ place_of (take count keys) name.0) × (count < 64) × (now + forever ≤ last_time)
Decides keys count name command now (Turned r) =
    Asked (lent_keys keys count) (λ xs. (ws : List WaitingEntry) (own nwk : Nwk) (lqi : ℕ) → on_link_status_rows xs ws own name nwk lqi command now ≡ refused_rows xs ws r)
