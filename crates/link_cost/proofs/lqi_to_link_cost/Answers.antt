-- `link_cost::lqi_to_link_cost` meets its contract: the ranges of its `match` are the bands of the first radio's scale, and in each
-- band the cost is the one that the scale gives.
use native.Mathlib.Omega.{arith}
use mathlib.Core.Path.{sym}
use Rattle.standard.specs.LinkCost.{first_radio}
use Rattle.link_cost.proofs.Scale.{cost-in-band}
use Rattle.link_cost.proofs.lqi_to_link_cost.Goals as goal

pub returns-in-0-to-16 : goal.returns-in-0-to-16
returns-in-0-to-16 c = sym (cost-in-band first_radio 0 c.args.lqi (omega arith))

pub returns-in-17-to-32 : goal.returns-in-17-to-32
returns-in-17-to-32 c = sym (cost-in-band first_radio 1 c.args.lqi (omega arith))

pub returns-in-33-to-64 : goal.returns-in-33-to-64
returns-in-33-to-64 c = sym (cost-in-band first_radio 2 c.args.lqi (omega arith))

pub returns-in-65-to-96 : goal.returns-in-65-to-96
returns-in-65-to-96 c = sym (cost-in-band first_radio 3 c.args.lqi (omega arith))

pub returns-in-97-to-128 : goal.returns-in-97-to-128
returns-in-97-to-128 c = sym (cost-in-band first_radio 4 c.args.lqi (omega arith))

pub returns-in-129-to-192 : goal.returns-in-129-to-192
returns-in-129-to-192 c = sym (cost-in-band first_radio 5 c.args.lqi (omega arith))

pub returns-in-193-to-255 : goal.returns-in-193-to-255
returns-in-193-to-255 c = sym (cost-in-band first_radio 6 c.args.lqi (omega arith))
