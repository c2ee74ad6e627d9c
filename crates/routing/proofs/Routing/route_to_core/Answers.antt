-- The record is asked for the way, and the answer is made of its word; its relays stay beside.
-- Assumes nothing.
use Rattle.record_table.proofs.Lent.{told}
use Rattle.routing.proofs.Routing.route_to_core.Goals as goal

pub invariant_of-records : goal.invariant_of-records
invariant_of-records c = record { formed = told _ c.requires.0.records }

pub way_to-x-requires : goal.way_to-x-requires
way_to-x-requires c = c.requires.1

pub returns : goal.returns
returns c = rw (c.answer_by-answer.ensures, c.way_to-x.ensures)
