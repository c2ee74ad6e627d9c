-- A state that a caller keeps and lends as columns, and what a call on it leaves: the state, the answer's status, the numbers of the answer.
-- Each is that of the call by value on the state of the numbers lent. A call is lent what it reads or changes; of what it is not
-- lent (C, such as the counters of a routing state) nothing is known, and what is said holds whatever it is.
-- Assumes nothing.
use Rattle.std.specs.Prelude.{ℕ, List, ◌≡◌}
use Rattle.route_table.specs.Table as routes
use Rattle.discovery_table.specs.Table as discoveries
use Rattle.record_table.specs.Table as records
use Rattle.routing.specs.declared.Routing.{Routing}
use Rattle.routing.specs.State.{state_of}

-- the status of what is no call: a number that is no value of its field. It is no refusal's.
abbrev pub no_call : ℕ
no_call = 255

-- the two trigger counters and the last request id
pub record Counters : Type 0 where
  pub errors : ℕ
  pub failures : ℕ
  pub id : ℕ

-- the state of columns that are lent: keys, words and usage counts of n routes; keys, words and ends of m discoveries; keys and lengths of k records
abbrev pub lent : List ℕ → List ℕ → List ℕ → ℕ → List ℕ → List ℕ → List ℕ → ℕ → List ℕ → List ℕ → ℕ → Counters → Routing
lent rk rw ru n dk dw de m ck cl k c =
    state_of c.errors c.failures c.id (routes.in_columns rk rw ru n) (discoveries.in_columns dk dw de m) (records.in_columns ck cl k)

-- the same with counters lent too: those that are lent in place of any
abbrev pub lent_with : (Counters → Counters) → List ℕ → List ℕ → List ℕ → ℕ → List ℕ → List ℕ → List ℕ → ℕ → List ℕ → List ℕ → ℕ → Counters → Routing
lent_with counters rk rw ru n dk dw de m ck cl k c = lent rk rw ru n dk dw de m ck cl k (counters c)

abbrev pub the_id : ℕ → Counters → Counters
the_id id c = record { errors = c.errors; failures = c.failures; id = id }

abbrev pub the_errors : ℕ → Counters → Counters
the_errors errors c = record { errors = errors; failures = c.failures; id = c.id }

abbrev pub the_failures : ℕ → Counters → Counters
the_failures failures c = record { errors = c.errors; failures = failures; id = c.id }

abbrev pub the_triggers : ℕ → ℕ → Counters → Counters
the_triggers errors failures c = record { errors = errors; failures = failures; id = c.id }

-- The numbers of an answer: its status (0, or the refusal's number), and those of its places, which keep what they held where the call is refused;
-- in a call that is answered a place that the answer does not use is 0.
pub record Reading (A P : Type 0) : Type 0 where
  pub status : A → ℕ
  pub places : A → P → P

-- r and what the places hold now are the numbers of an answer
pub record Says {A P : Type 0} (reading : Reading A P) (answer : A) (old new : P) (r : ℕ) : Type 0 where
  pub status : r ≡ reading.status answer
  pub places : new ≡ reading.places answer old

-- what a question leaves: the numbers of its answer
pub record Asked {C S A P : Type 0} (reading : Reading A P) (ask : S → A) (state : C → S) (old new : P) (r : ℕ) : Type 0 where
  pub said : (c : C) → Says reading (ask (state c)) old new r

-- what a call leaves of the state before it, whose outcome is an answer and the next state: the numbers of the one, and the other as the state after it
pub record Made {C S O A P : Type 0} (reading : Reading A P) (answer : O → A) (next : O → S) (call : S → O) (before after : C → S) (old new : P) (r : ℕ) : Type 0 where
  pub state : (c : C) → after c ≡ next (call (before c))
  pub said : (c : C) → Says reading (answer (call (before c))) old new r

-- what a call leaves that is lent the relay store too: the store after it
pub record Stored {O A P : Type 0} (reading : Reading A P) (answer : O → A) (next : O → Routing) (call : Routing → O) (store : Routing → List ℕ) (before after : Counters → Routing) (later : List ℕ) (old new : P) (r : ℕ) : Type 0 where
  pub made : Made reading answer next call before after old new r
  pub kept : (c : Counters) → later ≡ store (before c)

-- what is no call changes nothing, and says so
pub record NotMade {C S P : Type 0} (before after : C → S) (old new : P) (r : ℕ) : Type 0 where
  pub state : (c : C) → after c ≡ before c
  pub places : new ≡ old
  pub status : r ≡ no_call

pub record NotAsked {P : Type 0} (old new : P) (r : ℕ) : Type 0 where
  pub places : new ≡ old
  pub status : r ≡ no_call
