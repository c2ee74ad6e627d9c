-- The outcome that is made of a choice: a hop with the header as it came, or with a source route set in it, whose relays are those of a row of the store or the host's.
-- Assumes nothing.
use Rattle.std.specs.Prelude.{ℕ, ◌<◌, ◌≤◌, List, map, take, get_or, Result, Ok, Err}
use Rattle.standard.specs.declared.RelayList.{RelayList}
use Rattle.standard.specs.Route.{nwk}
use Rattle.relay_store.specs.Store.{row_at, relay_list}
use Rattle.frame.specs.declared.NwkHeader.{NwkHeader}
use Rattle.hop_choice.specs.declared.Choice.{Choice}
use Rattle.hop_choice.specs.declared.Choice.TheVariants as choice
use Rattle.next_hop.specs.declared.NextHop.TheVariants.{NeedDiscovery, Discard}
use Rattle.next_hop.specs.declared.ResolveOutcome.{ResolveOutcome}
use Rattle.next_hop.specs.Decision.{hop_to, refused_with, by_source_route}
use Rattle.types.specs.declared.Refusal.{Refusal}

-- the relays in row i of a store, as many as the column of lengths says
abbrev pub relays_in : List ℕ → List ℕ → ℕ → RelayList
relays_in lengths store i = relay_list (map nwk (take (get_or lengths i 0) (row_at i store)))

abbrev pub made : NwkHeader → RelayList → List ℕ → List ℕ → Result Choice Refusal → ResolveOutcome
made h relays lengths store (Err why) = refused_with h why
made h relays lengths store (Ok (choice.Hop n)) = hop_to h n
made h relays lengths store (Ok (choice.ByRecord i)) = by_source_route h (relays_in lengths store i)
made h relays lengths store (Ok choice.ByHost) = by_source_route h relays
made h relays lengths store (Ok choice.NeedDiscovery) = record { answer = Ok NeedDiscovery; header = h }
made h relays lengths store (Ok choice.Discard) = record { answer = Ok Discard; header = h }

-- a source route that is chosen has from 1 to 32 relays
abbrev pub Makeable : RelayList → List ℕ → Result Choice Refusal → Type 0
Makeable relays lengths (Err why) = Unit {0}
Makeable relays lengths (Ok (choice.Hop n)) = Unit {0}
Makeable relays lengths (Ok (choice.ByRecord i)) = (i < 64) × (0 < get_or lengths i 0) × (get_or lengths i 0 ≤ 32)
Makeable relays lengths (Ok choice.ByHost) = (0 < relays.count) × (relays.count ≤ 32)
Makeable relays lengths (Ok choice.NeedDiscovery) = Unit {0}
Makeable relays lengths (Ok choice.Discard) = Unit {0}
