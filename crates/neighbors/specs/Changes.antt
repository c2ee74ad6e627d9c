-- What each change of neighbours leaves: the rule on the rows, for a well-formed state; refusal 10 for any other.
-- Document 01, "Refusal numbers" and "Decision (001) and neighbours (003)".
-- Assumes nothing.
use Rattle.std.specs.Prelude.{cond, map, Err}
use Rattle.types.specs.declared.Nwk.{Nwk}
use Rattle.types.specs.declared.Eui64.{Eui64}
use Rattle.types.specs.declared.Refusal.{Refusal}
use Rattle.types.specs.declared.Refusal.TheVariants.{StateIllFormed}
use Rattle.standard.specs.Ordered as ordered
use Rattle.neighbor_table.specs.Entry.{neighbor_key}
use Rattle.neighbor_queries.specs.declared.Filter.TheVariants.{Address}
use Rattle.neighbor_changes.specs.declared.Change.TheVariants as changes
use Rattle.neighbor_changes.specs.Change.{forgiven}
use Rattle.neighbor_changes.specs.Rules.{changed_at, changed_first}
use Rattle.neighbors.specs.declared.Neighbors.{Neighbors}
use Rattle.neighbors.specs.declared.Outcome.{Outcome}
use Rattle.neighbors.specs.State.{well_formed, rows, done_with}

-- "All hand back the given state .. and no other answer"
abbrev pub refused : Neighbors → Refusal → Outcome
refused s r = record { answer = Err r; state = s }

-- a known device has another network address
unfoldable pub update_network_address : Neighbors → Eui64 → Nwk → Outcome
update_network_address s eui64 nwk = cond (well_formed s) (done_with s (changed_at (changes.Address nwk) eui64 (rows s))) (refused s StateIllFormed)

-- a neighbour is forgotten
unfoldable pub remove : Neighbors → Eui64 → Outcome
remove s eui64 = cond (well_formed s) (done_with s (ordered.remove neighbor_key eui64.0 (rows s))) (refused s StateIllFormed)

-- a unicast went out by a neighbour
unfoldable pub record_outbound_activity : Neighbors → Eui64 → Outcome
record_outbound_activity s eui64 = cond (well_formed s) (done_with s (changed_at changes.Outbound eui64 (rows s))) (refused s StateIllFormed)

-- a unicast came in by a neighbour
unfoldable pub record_inbound_activity : Neighbors → Nwk → Outcome
record_inbound_activity s nwk = cond (well_formed s) (done_with s (changed_first changes.Inbound (Address nwk) (rows s))) (refused s StateIllFormed)

-- a unicast to a neighbour was not acknowledged
unfoldable pub record_transmit_failure : Neighbors → Eui64 → Outcome
record_transmit_failure s eui64 = cond (well_formed s) (done_with s (changed_at changes.Failure eui64 (rows s))) (refused s StateIllFormed)

-- every failure is forgotten, as the counter of all transmissions wrapped (05-3474, table 3-75)
unfoldable pub reset_transmit_failures : Neighbors → Outcome
reset_transmit_failures s = cond (well_formed s) (done_with s (map forgiven (rows s))) (refused s StateIllFormed)
