-- A hint is applied; any other directive goes to the end.
-- Assumes nothing.
use Rattle.hop_choice.proofs.by_hint.Goals as goal

pub returns-in-StackDecides : goal.returns-in-StackDecides
returns-in-StackDecides c = rw c.in-StackDecides.is c.unknown_way.ensures

pub returns-in-Hint : goal.returns-in-Hint
returns-in-Hint c = rw c.in-Hint.is c.by_host_route.ensures

pub returns-in-Force : goal.returns-in-Force
returns-in-Force c = rw c.in-Force.is c.unknown_way-in-Force.ensures
