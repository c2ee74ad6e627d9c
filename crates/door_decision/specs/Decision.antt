-- The numbers of a decision: a hop 0 and the hop, discovery needed 1, discard 2; and the fields of the header that it may change, as they are after it.
-- Document 01, "How each place should look": "a definition gives this paper's number and values for each of its cases".
-- Assumes nothing.
use Rattle.std.specs.Prelude.{ℕ, ◌-◌, ◌≤◌, List, map, eqb, Result, Ok, Err}
use Rattle.types.specs.Refusal.{refusal_number}
use Rattle.types.specs.declared.Nwk.{Nwk}
use Rattle.standard.specs.declared.RelayList.{RelayList}
use Rattle.relay_store.specs.Store.{number}
use Rattle.routing.specs.declared.Routing.{Routing}
use Rattle.neighbors.specs.declared.Neighbors.{Neighbors}
use Rattle.frame.specs.declared.NwkHeader.{NwkHeader}
use Rattle.hop_choice.specs.declared.Policy.{Policy}
use Rattle.next_hop.specs.declared.SendMode.{SendMode}
use Rattle.next_hop.specs.declared.NextHop.{NextHop}
use Rattle.next_hop.specs.declared.NextHop.TheVariants.{Resolved, NeedDiscovery, Discard}
use Rattle.next_hop.specs.declared.ResolveOutcome.{ResolveOutcome}
use Rattle.next_hop.specs.Decision.{last_relay, resolve, resolve_default}
use Rattle.decision_lines.specs.Arguments.{kind_of}
use Rattle.door.specs.Lent.{Counters, Reading, Asked, NotAsked}
use Rattle.door_records.specs.Records.{given}
use Rattle.door_decision.specs.Header.{HeaderPlaces, header_at, Values, header_in, header_places}
use Rattle.types.specs.declared.Refusal.{Refusal}

pub record ResolvePlaces : Type 0 where
  pub header : HeaderPlaces
  pub decision : ℕ
  pub hop : ℕ

-- what the places of a decision hold
abbrev pub resolve_at : ℕ → ℕ → ℕ → ℕ → ℕ → List ℕ → ℕ → ℕ → ResolvePlaces
resolve_at discovery bit has index count relays decision hop =
    record { header = header_at discovery bit has index count relays; decision = decision; hop = hop }

abbrev pub resolve_status : Result NextHop Refusal → ℕ
resolve_status (Err why) = refusal_number why
resolve_status (Ok (Resolved n)) = 0
resolve_status (Ok NeedDiscovery) = 0
resolve_status (Ok Discard) = 0

abbrev pub resolve_places : Result NextHop Refusal → NwkHeader → ResolvePlaces → ResolvePlaces
resolve_places (Err why) h old = old
resolve_places (Ok (Resolved n)) h old = record { header = header_places h; decision = 0; hop = n.0 }
resolve_places (Ok NeedDiscovery) h old = record { header = header_places h; decision = 1; hop = 0 }
resolve_places (Ok Discard) h old = record { header = header_places h; decision = 2; hop = 0 }

abbrev pub resolve_numbers : Reading ResolveOutcome ResolvePlaces
resolve_numbers = record { status = λ (x : ResolveOutcome). resolve_status x.answer; places = λ (x : ResolveOutcome). resolve_places x.answer x.header }

-- what a source route of a list leaves in the places: no discovery, the two flags, the index of the last relay, the list, and the hop to that relay
abbrev pub routed_places : RelayList → ResolvePlaces
routed_places l = resolve_at 0 1 1 (l.count - 1) l.count (map number l.addresses) 0 (last_relay l).0

-- the mode of a number, with the host's hop and the host's relays, and the policy of two flags and a limit
abbrev pub mode_of : ℕ → Nwk → List ℕ → SendMode
mode_of kind hop host = record { kind = kind_of kind hop; relays = given host }

abbrev pub policy_of : ℕ → ℕ → ℕ → Policy
policy_of concentrator force limit = record { is_concentrator = eqb concentrator 1; force_route_discovery = eqb force 1; max_source_route = limit }

-- what a decision is made on, and what of it is not lent: the counters, and the fields of the header that are no places
pub record Sending : Type 0 where
  pub routing : Routing
  pub neighbors : Neighbors
  pub header : NwkHeader

pub record Unlent : Type 0 where
  pub counters : Counters
  pub header : NwkHeader

abbrev pub sending : (Counters → Routing) → (Unit {0} → Neighbors) → Nwk → HeaderPlaces → Unlent → Sending
sending routing neighbors destination p c = record { routing = routing c.counters; neighbors = neighbors tt; header = header_in destination p c.header }

abbrev pub resolve_on : SendMode → Policy → List ℕ → Sending → ResolveOutcome
resolve_on mode policy store s = resolve s.routing s.neighbors s.header mode policy store

abbrev pub resolve_default_on : SendMode → List ℕ → Sending → ResolveOutcome
resolve_default_on mode store s = resolve_default s.routing s.neighbors s.header mode store

-- the numbers that a call is given are values of their fields: three bits, a mode, and the fields of the header
pub record Sendable (kind : ℕ) (old : ResolvePlaces) : Type 0 where
  pub mode : kind ≤ 5
  pub header : Values old.header

pub record Resolvable (concentrator force kind : ℕ) (old : ResolvePlaces) : Type 0 where
  pub first : concentrator ≤ 1
  pub second : force ≤ 1
  pub rest : Sendable kind old

-- a number that is no value of its field is no call, whatever the states
pub record ResolveAsked (routing : Counters → Routing) (neighbors : Unit {0} → Neighbors) (store : List ℕ) (concentrator force limit kind : ℕ) (hop : Nwk) (host : List ℕ) (destination : Nwk) (old new : ResolvePlaces) (r : ℕ) : Type 0 where
  pub call : Resolvable concentrator force kind old
      → Asked resolve_numbers (resolve_on (mode_of kind hop host) (policy_of concentrator force limit) store) (sending routing neighbors destination old.header) old new r
  pub none : (Resolvable concentrator force kind old → ⊥) → NotAsked old new r

pub record ResolveByDefault (routing : Counters → Routing) (neighbors : Unit {0} → Neighbors) (store : List ℕ) (kind : ℕ) (hop : Nwk) (host : List ℕ) (destination : Nwk) (old new : ResolvePlaces) (r : ℕ) : Type 0 where
  pub call : Sendable kind old
      → Asked resolve_numbers (resolve_default_on (mode_of kind hop host) store) (sending routing neighbors destination old.header) old new r
  pub none : (Sendable kind old → ⊥) → NotAsked old new r
