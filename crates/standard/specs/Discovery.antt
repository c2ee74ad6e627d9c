-- A row of the route discovery table, and what is asked of it.
-- Document 01, "Modules, leaves first": "a pair key orders by address and then id"; "Route rules": "Expiry removes every discovery with
-- expiration at or before now". The Rust's `discovery_deadline` asks for a live row that names a destination.
-- Assumes nothing.
use Rattle.std.specs.Prelude.{ℕ, ◌+◌, ◌*◌, Bool, not, ◌&&◌, ltb, eqb}
use Rattle.types.specs.declared.Nwk.{Nwk}
use Rattle.standard.specs.declared.DiscoveryEntry.{DiscoveryEntry}

-- an address and an id, which is a byte, as one number
abbrev pub pair_key : Nwk → ℕ → ℕ
pair_key source id = source.0 * 256 + id

-- discoveries are ordered by source and then by request id
abbrev pub discovery_key : DiscoveryEntry → ℕ
discovery_key d = pair_key d.source_address d.route_request_id

-- a discovery whose expiration is after now
abbrev pub live : ℕ → DiscoveryEntry → Bool
live now d = ltb now d.expiration_time

-- one whose time is over
abbrev pub is_over : ℕ → DiscoveryEntry → Bool
is_over now d = not (live now d)

-- a discovery of the way to a destination
abbrev pub names : ℕ → DiscoveryEntry → Bool
names destination d = eqb d.destination_address.0 destination

-- a live discovery of the way to a destination
abbrev pub awaits : ℕ → ℕ → DiscoveryEntry → Bool
awaits destination now d = live now d && names destination d
