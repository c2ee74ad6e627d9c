-- Which replies of a stream are taken, and which one is left as the responder's route. Demand 3:
--   "In a stream for another node's search, a reply is relayed exactly if its cost is below the starting residual and every earlier cost
--   of that stream; the last one relayed is the responder's route. Our own search establishes by the same rule, but if its responder's
--   route is not Active at the start, the first reply always establishes and the rule counts from its cost."
-- Assumes nothing.
use Rattle.std.specs.Prelude.{ℕ, ◌<◌, ◌≡◌, ◌↔◌, Bool, true, false, List, length, get_or, None}
use Rattle.std.proofs.Math.Nat.{lt-suc_self, zero-lt-suc}
use Rattle.standard.specs.declared.RouteEntry.{RouteEntry}
use Rattle.standard.specs.declared.DiscoveryEntry.{DiscoveryEntry}
use Rattle.standard.specs.declared.RouteReplyDisposition.{RouteReplyDisposition}
use Rattle.standard.specs.declared.RouteReplyDisposition.TheVariants.{Drop, Established, Relay}
use Rattle.standard.specs.Route.{unknown_hop, is_active, via}
use Rattle.standard.specs.Tables.{Tables}
use Rattle.two_searches.specs.Streams.{Search, Heard, Answer}
use Rattle.two_searches.specs.Conditions.{RouteTo}

-- the reply at place i of a stream, counted from 0
abbrev pub reply_at : List Heard → ℕ → Heard
reply_at xs i = get_or xs i (record { sender = unknown_hop; cost = 0; short = lt-suc_self 65535; byte = zero-lt-suc 255 })

-- an answer that does and reports nothing
abbrev pub drop_answer : Answer
drop_answer = record { disposition = Drop; update = None }

-- the answer at place i
abbrev pub answer_at : List Answer → ℕ → Answer
answer_at rs i = get_or rs i drop_answer

-- "its cost is below the starting residual and every earlier cost of that stream"
pub record Beats (residual : ℕ) (xs : List Heard) (i : ℕ) : Type 0 where
  pub start : (reply_at xs i).cost < residual
  pub earlier : (j : ℕ) → j < i → (reply_at xs i).cost < (reply_at xs j).cost

abbrev pub is_relay : RouteReplyDisposition → Bool
is_relay Drop = false
is_relay Established = false
is_relay (Relay hop cost) = true

abbrev pub is_established : RouteReplyDisposition → Bool
is_established Drop = false
is_established Established = true
is_established (Relay hop cost) = false

abbrev pub Relayed : Answer → Type 0
Relayed r = is_relay r.disposition ≡ true

abbrev pub Establishes : Answer → Type 0
Establishes r = is_established r.disposition ≡ true

-- place i has the mark P, and no later place has
pub record Last (P : Answer → Type 0) (rs : List Answer) (i : ℕ) : Type 0 where
  pub here : P (answer_at rs i)
  pub none-later : (j : ℕ) → i < j → j < length rs → P (answer_at rs j) → ⊥

-- no place has it
abbrev pub Nowhere : (Answer → Type 0) → List Answer → Type 0
Nowhere P rs = (i : ℕ) → i < length rs → P (answer_at rs i) → ⊥

-- What is promised of another node's search: s is held as d at the start and its responder's route is r; its stream xs is answered rs,
-- alone or out of a merge, and the tables end as u.
pub record RelayedExactly (s : Search) (d : DiscoveryEntry) (r : RouteEntry) (xs : List Heard) (rs : List Answer) (u : Tables) : Type 0 where
  -- "a reply is relayed exactly if its cost is below the starting residual and every earlier cost of that stream"
  pub exactly : (i : ℕ) → i < length xs → Relayed (answer_at rs i) ↔ Beats d.residual_cost xs i
  -- it is relayed to the discovery's sender at its own cost; any other reply is dropped, and nothing is reported
  pub relayed-to : (i : ℕ) → i < length xs → Relayed (answer_at rs i) → (answer_at rs i).disposition ≡ Relay d.sender_address (reply_at xs i).cost
  pub else-dropped : (i : ℕ) → i < length xs → (Relayed (answer_at rs i) → ⊥) → answer_at rs i ≡ drop_answer
  -- "the last one relayed is the responder's route": Active, by its sender, at its cost
  pub last : (i : ℕ) → Last Relayed rs i → RouteTo s.responder (via (reply_at xs i).sender (reply_at xs i).cost r) u
  -- and if none is relayed the route is as it was
  pub none : Nowhere Relayed rs → RouteTo s.responder r u

-- The same of our own search.
pub record EstablishedExactly (s : Search) (d : DiscoveryEntry) (r : RouteEntry) (xs : List Heard) (rs : List Answer) (u : Tables) : Type 0 where
  -- "establishes by the same rule"
  pub exactly : is_active r.status ≡ true → (i : ℕ) → i < length xs → Establishes (answer_at rs i) ↔ Beats d.residual_cost xs i
  -- "but if its responder's route is not Active at the start, the first reply always establishes"
  pub first-always : is_active r.status ≡ false → 0 < length xs → Establishes (answer_at rs 0)
  -- "and the rule counts from its cost"
  pub from_first : is_active r.status ≡ false → (i : ℕ) → 0 < i → i < length xs → Establishes (answer_at rs i) ↔ Beats (reply_at xs 0).cost xs i
  pub else-dropped : (i : ℕ) → i < length xs → (Establishes (answer_at rs i) → ⊥) → answer_at rs i ≡ drop_answer
  pub last : (i : ℕ) → Last Establishes rs i → RouteTo s.responder (via (reply_at xs i).sender (reply_at xs i).cost r) u
  pub none : Nowhere Establishes rs → RouteTo s.responder r u
