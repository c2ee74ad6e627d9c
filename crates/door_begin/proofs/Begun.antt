-- What a call that begins a search leaves, by the rule's answer: a refusal leaves the rows, and with them the state; else the rows are put back with
-- the id that was counted, which is the next one.
use Rattle.std.specs.Prelude.{Option, Some, None, Result, Ok, Err}
use Prim.Native.Nat.{ℕ}
use mathlib.Core.Path.{◌≡◌, refl, sym, ap, ◌∙◌}
use lib.Dec.{leb}
use lib.ListN.{length}
use Rattle.types.specs.declared.Nwk.{Nwk}
use Rattle.types.specs.declared.Refusal.{Refusal}
use Rattle.types.specs.Clock.{time_sum}
use Rattle.standard.specs.Begin.{begin, advertise}
use Rattle.standard.specs.Discovery.{pair_key, discovery_key}
use Rattle.standard.specs.Expiry.{expired}
use Rattle.standard.specs.Ordered.{lookup}
use Rattle.standard.specs.Tables.{Tables}
use Rattle.standard.specs.Time.{sum_made}
use Rattle.standard.proofs.Picked.{by-test}
use Rattle.search_tables.specs.Packed.{SearchTables, Holds}
use Rattle.route_begin.specs.Answer.{BeginStep, begun_with, by_time, begun_on, begun, advertised}
use Rattle.routing.specs.declared.Routing.{Routing}
use Rattle.routing.specs.declared.BeginOutcome.{BeginOutcome}
use Rattle.routing.specs.Search.{begun_by, begun_as, next_id}
use Rattle.routing.specs.State.{WellFormed, rows_in, with_rows, with_search, with_id}
use Rattle.routing.proofs.State.{held_back, search-whole}
use Rattle.door_begin.specs.Begin.{last_after}

-- a step that is refused leaves the rows
abbrev pub Keeps : Tables → BeginStep → Type 0
Keeps old x = (why : Refusal) → x.answer ≡ Err why → x.tables ≡ old

never : (i : ℕ) (why : Refusal) (s t : Tables) → Ok i ≡ Err why → s ≡ t
never i why s t e = cc

with-keeps : (old : Tables) (id : ℕ) (t : Tables) → Keeps old (begun_with old id t)
unfolding begun_with
with-keeps old id t =
    by-test (Keeps old) (leb (length t.routes) 64) _ _
    (λ _. by-test (Keeps old) (leb (length t.discoveries) 32) _ _ (λ _ why e. never id why t old e) (λ why e. refl))
    (λ why e. refl)

time-keeps : (old : Tables) (id : ℕ) (rule : ℕ → Tables) (u : Option ℕ) → Keeps old (by_time old u id rule)
time-keeps old id rule (Some expires) = with-keeps old id (rule expires)
time-keeps old id rule None = λ why e. refl

pub begun-keeps : (old : Tables) (own : Nwk) (id : ℕ) (destination : Nwk) (now span : ℕ) → Keeps old (begun old own id destination now span)
unfolding begun begun_on
begun-keeps old own id destination now span =
    time-keeps old id (λ (expires : ℕ). begin own id destination expires (expired now old))
    (sum_made (lookup discovery_key (pair_key own id) (expired now old).discoveries) (time_sum now span))

pub advertised-keeps : (old : Tables) (own : Nwk) (id now span : ℕ) → Keeps old (advertised old own id now span)
unfolding advertised
advertised-keeps old own id now span = time-keeps old id (λ (expires : ℕ). advertise own id expires (expired now old)) (time_sum now span)

-- a call by its step for an id, once an id is counted and the rule's answer and columns are there
module _ (s : Routing) (step : ℕ → BeginStep) (n : ℕ) (e : n ≡ next_id s) (a : Result ℕ Refusal) (p : a ≡ (step n).answer) where
  abbrev at : ℕ → BeginOutcome
  at id = begun_as s id (step id)

  pub answer-as : a ≡ (begun_as s (next_id s) (step (next_id s))).answer
  answer-as = p ∙ go (step n).answer ∙ ap (λ (id : ℕ). (at id).answer) e where
    go : (b : Result ℕ Refusal) → b ≡ (begun_by b s n (step n).tables).answer
    go (Err why) = refl
    go (Ok i) = refl

  pub state-as : WellFormed s → Keeps (rows_in s) (step n) → {u : SearchTables} → Holds u (step n).tables → {last : ℕ} → last ≡ last_after a s.request_sequence_number n
      → with_id (with_search s u) last ≡ (begun_as s (next_id s) (step (next_id s))).state
  state-as w keeps {u} h l = ap (with_id (with_search s u)) (l ∙ ap (λ (b : Result ℕ Refusal). last_after b s.request_sequence_number n) p) ∙ go (step n).answer refl ∙ ap (λ (id : ℕ). (at id).state) e where
    go : (b : Result ℕ Refusal) → (step n).answer ≡ b → with_id (with_search s u) (last_after b s.request_sequence_number n) ≡ (begun_by b s n (step n).tables).state
    go (Err why) q = held_back s u (step n).tables h ∙ ap (with_rows s) (keeps why q) ∙ sym (search-whole s w)
    go (Ok i) q = λ z. with_id (held_back s u (step n).tables h z) n
