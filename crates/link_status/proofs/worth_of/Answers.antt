-- Costs of at most 7 leave nothing below 0.
-- Assumes nothing.
use native.Mathlib.Omega.{arith}
use Rattle.link_status.proofs.Lists.{costs-small}
use Rattle.link_status.proofs.worth_of.Goals as goal

pub overflow_sub-result : goal.overflow_sub-result
overflow_sub-result c = omega (arith, costs-small c.args.status c.requires)

pub overflow_sub-result-else-incoming-outgoing : goal.overflow_sub-result-else-incoming-outgoing
overflow_sub-result-else-incoming-outgoing c = omega (arith, costs-small c.args.status c.requires)
