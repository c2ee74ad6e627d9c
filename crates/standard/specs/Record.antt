-- A row of the route record table; its relays stand in the lent store.
-- Document 01, "Capacities and clock": "route records 64, each of at most 32 relays"; "Well formed": "row i holds the relays of the i-th
-- record by address".
-- Assumes nothing.
use Rattle.std.specs.Prelude.{ℕ, ◌≤◌, Bool, leb}
use Rattle.standard.specs.declared.RecordEntry.{RecordEntry}

-- records are ordered by destination
abbrev pub record_key : RecordEntry → ℕ
record_key e = e.destination.0

-- a record has at most 32 relays
abbrev pub FewRelays : RecordEntry → Type 0
FewRelays e = e.relay_count ≤ 32

-- `FewRelays`, computed
abbrev pub few_relays : RecordEntry → Bool
few_relays e = leb e.relay_count 32
