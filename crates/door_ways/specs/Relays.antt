-- The places of an answer with relays: its kind, an address, and the relays as their count and 32 places, 0 after them.
-- Assumes nothing.
use Rattle.std.specs.Prelude.{ℕ, List, map}
use Rattle.standard.specs.declared.RelayList.{RelayList}
use Rattle.relay_store.specs.Store.{number}

-- the numbers of a list's places
abbrev pub out : RelayList → List ℕ
out l = map number l.addresses

pub record RelayedPlaces : Type 0 where
  pub kind : ℕ
  pub address : ℕ
  pub count : ℕ
  pub relays : List ℕ

-- what the places hold, and what is written there with a list of relays
abbrev pub relayed_at : ℕ → ℕ → ℕ → List ℕ → RelayedPlaces
relayed_at kind address count relays = record { kind = kind; address = address; count = count; relays = relays }

abbrev pub relayed_with : ℕ → ℕ → RelayList → RelayedPlaces
relayed_with kind address l = relayed_at kind address l.count (out l)
