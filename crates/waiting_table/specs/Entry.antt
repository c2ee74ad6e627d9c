-- A row of the waiting table: its key, the blank row, and what a row may say.
-- Document 01, "Capacities and clock": "waiting samples 64 (from 003)".
-- Assumes nothing.
use Rattle.std.specs.Prelude.{ℕ, Bool, Option, Some, None}
use Rattle.ring_buffer.specs.declared.RingBuffer.{RingBuffer}
use Rattle.ring_buffer.specs.Ring as ring
use Rattle.waiting_table.specs.declared.WaitingEntry.{WaitingEntry}

-- senders are ordered by network address
abbrev pub waiting_key : WaitingEntry → ℕ
waiting_key e = e.network_address.0

-- what stands in a place that is not in use
abbrev pub blank_waiting : WaitingEntry
blank_waiting = record { network_address = record { 0 = 0 }; lqas = ring.fresh }

-- samples that are well formed
abbrev pub is_sound : WaitingEntry → Bool
is_sound e = ring.well_formed e.lqas

-- the samples that a look-up found; a sender that was not found has none
abbrev pub ring_in : Option WaitingEntry → RingBuffer
ring_in None = ring.fresh
ring_in (Some e) = e.lqas
