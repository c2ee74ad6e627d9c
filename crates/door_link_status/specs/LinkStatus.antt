-- A link status command from the three lists that are given, one number of each for a status, and what its call leaves.
-- Document 01, "Capacities and clock": "link statuses in one command 31"; "Refusal numbers": "a given list passes its capacity".
-- Assumes nothing.
use Rattle.std.specs.Prelude.{ℕ, ◌≤◌, List, [], ◌∷◌, ◌≡◌, eqb, length}
use Rattle.types.specs.declared.Nwk.{Nwk}
use Rattle.types.specs.declared.Eui64.{Eui64}
use Rattle.flat_map.specs.Rows.{pad}
use Rattle.neighbor_queries.specs.declared.LinkStatus.{LinkStatus}
use Rattle.neighbor_queries.specs.Lists.{no_status}
use Rattle.link_status.specs.declared.LinkStatusCommand.{LinkStatusCommand}
use Rattle.neighbors.specs.declared.Neighbors.{Neighbors}
use Rattle.neighbor_calls.specs.declared.NwkOutcome.{NwkOutcome}
use Rattle.neighbor_calls.specs.LinkStatus.{on_link_status}
use Rattle.door.specs.Lent.{Made, NotMade}
use Rattle.door_neighbors.specs.declared.AddressPlaces.{AddressPlaces}
use Rattle.door_neighbors.specs.Answers.{address_numbers}

abbrev pub status : ℕ → ℕ → ℕ → LinkStatus
status address incoming outgoing = record { address = record { 0 = address }; incoming_cost = incoming; outgoing_cost = outgoing }

-- the statuses of three lists, in their order
abbrev pub statuses : List ℕ → List ℕ → List ℕ → List LinkStatus
statuses [] incoming outgoing = []
statuses (a ∷ addresses) [] outgoing = []
statuses (a ∷ addresses) (i ∷ incoming) [] = []
statuses (a ∷ addresses) (i ∷ incoming) (o ∷ outgoing) = status a i o ∷ statuses addresses incoming outgoing

-- a command with some statuses in its places
abbrev pub command_with : ℕ → ℕ → ℕ → List LinkStatus → LinkStatusCommand
command_with first last n xs = record {
  is_first_frame = eqb first 1;
  is_last_frame = eqb last 1;
  count = n;
  statuses = pad 31 no_status xs;
}

-- the command of what is given: as many statuses as there are addresses, of which 31 have a place; a longer list is refused by its count
abbrev pub given : ℕ → ℕ → List ℕ → List ℕ → List ℕ → LinkStatusCommand
given first last addresses incoming outgoing = command_with first last (length addresses) (statuses addresses incoming outgoing)

-- a flag is 0 or 1, and the lists are equally long
pub record IsCommand (a b : ℕ) (addresses ins outs : List ℕ) : Type 0 where
  pub first : a ≤ 1
  pub last : b ≤ 1
  pub incoming : length ins ≡ length addresses
  pub outgoing : length outs ≡ length addresses

-- what is given otherwise is no call, whatever the state
pub record LinkStatusMade (before after : Unit {0} → Neighbors) (own : Nwk) (name : Eui64) (nwk : Nwk) (lqi first last : ℕ) (addresses incoming outgoing : List ℕ) (now : ℕ) (old new : AddressPlaces) (r : ℕ) : Type 0 where
  pub call : IsCommand first last addresses incoming outgoing
      → Made address_numbers (λ (x : NwkOutcome). x.answer) (λ (x : NwkOutcome). x.state)
      (λ (s : Neighbors). on_link_status s own name nwk lqi (given first last addresses incoming outgoing) now) before after old new r
  pub none : (IsCommand first last addresses incoming outgoing → ⊥) → NotMade before after old new r
