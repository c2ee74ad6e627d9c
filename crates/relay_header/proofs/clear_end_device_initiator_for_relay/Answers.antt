-- A state that is not well formed and a header whose source route is too long are refused; any other pair goes to the rule on two columns of the state.
-- Assumes nothing.
use mathlib.Core.Bool.{true}
use mathlib.Core.Path.{◌≡◌, sym, ◌∙◌}
use borrow.Author.Tests.{not-true, not-false}
use Rattle.neighbor_queries_lent.proofs.Ready.{words-in-use}
use Rattle.neighbors.specs.State.{well_formed, table_in}
use Rattle.neighbors.proofs.State.{state-told}
use Rattle.relay_header.specs.Relayed.{cleared}
use Rattle.relay_header.proofs.clear_end_device_initiator_for_relay.Goals as goal
use Rattle.relay_header.proofs.clear_end_device_initiator_for_relay.Goals.{Else-not-well_formed}

good : (c : Else-not-well_formed) → well_formed c.args.neighbors ≡ true
good c = sym c.well_formed-2.ensures ∙ not-false _ c.if-not-well_formed.false-raw

pub returns-then-not-well_formed : goal.returns-then-not-well_formed
unfolding cleared
returns-then-not-well_formed c = rw (sym c.well_formed-2.ensures ∙ not-true _ c.if-not-well_formed.true-raw) c.refuse.ensures

pub returns-then-carries_long : goal.returns-then-carries_long
unfolding cleared
returns-then-carries_long c =
    rw (good (goal.at.returns-then-carries_long c).Else-not-well_formed, sym c.carries_long.ensures ∙ c.if-carries_long.true) c.refuse-then-carries_long.ensures

pub clear_initiator-requires : goal.clear_initiator-requires
clear_initiator-requires c = words-in-use _ ((state-told _).fact (good (goal.at.clear_initiator-requires c).Else-not-well_formed)).table.formed

pub returns : goal.returns
unfolding cleared
returns c =
    let s = c.args.neighbors in
    rw (good (goal.at.returns c).Else-not-well_formed, sym c.carries_long.ensures ∙ c.if-carries_long.false)
    (c.clear_initiator.ensures (table_in s) ((state-told s).fact (good (goal.at.returns c).Else-not-well_formed)).table.formed)
