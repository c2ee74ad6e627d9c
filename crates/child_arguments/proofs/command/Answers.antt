-- The places read so far hold what was read, and the others are blank.
use Prim.Native.Nat.{min}
use mathlib.Core.Path.{◌≡◌, ap, ◌∙◌}
use native.Mathlib.Omega.{arith}
use Rattle.child_arguments.proofs.Reading.{status-stored}
use Rattle.child_arguments.specs.Arguments.{command_to, command_of}
use Rattle.link_status.specs.declared.LinkStatusCommand.{LinkStatusCommand}
use Rattle.numbers.specs.Read.{number_at}
use Rattle.child_arguments.proofs.command.Goals as goal

pub loop-i-preserved : goal.loop-i-preserved
loop-i-preserved c =
    let v = c.loop-i in
    status-stored c.args.args.now v.command v.i _ v.invariant c.status-status.ensures (omega (arith, c.min-end.ensures))

pub returns : goal.returns
unfolding command_of
returns c =
    let v = c.loop-i in
    let args = c.args.args.now in
    let end : v.i ≡ min (number_at args 7) 31 = omega (arith, c.min-end.ensures, ap (λ (x : LinkStatusCommand). x.count) c.bare_command-command.ensures) in
    v.invariant ∙ ap (command_to args) end
