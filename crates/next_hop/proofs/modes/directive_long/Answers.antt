-- Each directive is taken apart, and its host route tested.
-- Assumes nothing.
use Rattle.next_hop.proofs.modes.directive_long.Goals as goal

pub returns-in-Hint : goal.returns-in-Hint
returns-in-Hint c = rw c.in-Hint.is c.host_long.ensures

pub returns-in-Force : goal.returns-in-Force
returns-in-Force c = rw c.in-Force.is c.host_long-in-Force.ensures
