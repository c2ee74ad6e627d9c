-- The number of the answer of a search of our own and of an advertisement: the request id.
-- Document 01, "How each place should look": "a definition gives this paper's number and values for each of its cases".
-- Assumes nothing.
use Rattle.std.specs.Prelude.{ℕ, ◌≡◌, Result, Ok, Err}
use Rattle.types.specs.Refusal.{refusal_number}
use Rattle.types.specs.declared.Nwk.{Nwk}
use Rattle.routing.specs.declared.Routing.{Routing}
use Rattle.routing.specs.declared.BeginOutcome.{BeginOutcome}
use Rattle.routing.specs.Search.{begin_discovery, begin_many_to_one_advertisement}
use Rattle.door.specs.Lent.{Counters, Reading, Says, Made}
use Rattle.types.specs.declared.Refusal.{Refusal}

abbrev pub begin_status : Result ℕ Refusal → ℕ
begin_status (Err why) = refusal_number why
begin_status (Ok id) = 0

abbrev pub begin_place : Result ℕ Refusal → ℕ → ℕ
begin_place (Err why) old = old
begin_place (Ok id) old = id

abbrev pub begin_numbers : Reading (Result ℕ Refusal) ℕ
begin_numbers = record { status = begin_status; places = begin_place }

-- the last request id once one is used: a refused call leaves it
abbrev pub last_after : Result ℕ Refusal → ℕ → ℕ → ℕ
last_after (Err why) last id = last
last_after (Ok i) last id = id

pub record SaysBegun (answer : Result ℕ Refusal) (id before after old new r : ℕ) : Type 0 where
  pub said : Says begin_numbers answer old new r
  pub last : after ≡ last_after answer before id

abbrev pub BeginMade : (Counters → Routing) → (Counters → Routing) → Nwk → Nwk → ℕ → ℕ → ℕ → ℕ → ℕ → Type 0
BeginMade before after own destination now span old new r =
    Made begin_numbers (λ (x : BeginOutcome). x.answer) (λ (x : BeginOutcome). x.state)
    (λ (s : Routing). begin_discovery s own destination now span) before after old new r

abbrev pub AdvertiseMade : (Counters → Routing) → (Counters → Routing) → Nwk → ℕ → ℕ → ℕ → ℕ → ℕ → Type 0
AdvertiseMade before after own now span old new r =
    Made begin_numbers (λ (x : BeginOutcome). x.answer) (λ (x : BeginOutcome). x.state)
    (λ (s : Routing). begin_many_to_one_advertisement s own now span) before after old new r
