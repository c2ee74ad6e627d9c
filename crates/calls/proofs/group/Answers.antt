-- The table is read at the number; past its end there is no group.
use mathlib.Core.Path.{sym}
use native.Mathlib.Omega.{arith}
use lib.ListN.{get_or-eq_default}
use borrow.Author.Rules.{rules}
use Rattle.calls.specs.Groups.{groups, group_of}
use Rattle.calls.proofs.group.Goals as goal

pub returns-then-number-lt87 : goal.returns-then-number-lt87
unfolding group_of groups
returns-then-number-lt87 c = search rules

pub returns : goal.returns
unfolding group_of groups
returns c = sym (get_or-eq_default groups 0 {n = c.args.number} (omega (arith, c.if-number-lt87.false)))
