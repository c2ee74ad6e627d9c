-- At each turn the command holds the statuses passed, blank after them; at the end it holds all that have a place.
use mathlib.Core.Path.{◌∙◌}
use lib.ListN.{length}
use Rattle.door_link_status.proofs.Read.{stored, read}
use native.Mathlib.Omega.{arith}
use Rattle.door_link_status.proofs.command_given.Goals as goal

pub loop-i-preserved : goal.loop-i-preserved
loop-i-preserved c =
    let v = c.loop-i in
    let a = c.args in
    stored v.command a.first a.last (length a.addresses.now) v.i a.addresses.now a.incoming.now a.outgoing.now v.invariant (omega (arith, c.min-end.ensures)) (omega (arith, c.min-end.ensures)) c.requires.incoming c.requires.outgoing

pub returns : goal.returns
returns c =
    let v = c.loop-i in
    let a = c.args in
    v.invariant ∙ read a.first a.last (length a.addresses.now) v.i a.addresses.now a.incoming.now a.outgoing.now (omega (arith, c.min-end.ensures))
