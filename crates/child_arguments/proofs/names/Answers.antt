-- The places read so far hold what was read, and the others are blank.
use Prim.Native.Nat.{min}
use mathlib.Core.List.{[]}
use mathlib.Core.Path.{◌≡◌, ap, ◌∙◌}
use native.Mathlib.Omega.{arith}
use Rattle.child_arguments.proofs.Reading.{name-stored}
use Rattle.child_arguments.specs.Arguments.{names_to, names_of}
use Rattle.flat_map.specs.Rows.{pad}
use Rattle.neighbor_queries.specs.Lists.{no_name}
use Rattle.numbers.specs.Read.{number_at, listed}
use Rattle.child_arguments.proofs.names.Goals as goal

pub loop-i-init : goal.loop-i-init
unfolding listed
loop-i-init c = λ z. record { count = c.at-count.ensures z; addresses = pad 64 no_name [] }

pub loop-i-preserved : goal.loop-i-preserved
loop-i-preserved c =
    let v = c.loop-i in
    name-stored c.args.args.now v.list v.i _ v.invariant c.eui64-name.ensures (omega (arith, c.min-end.ensures))

pub returns : goal.returns
unfolding names_of
returns c =
    let v = c.loop-i in
    let args = c.args.args.now in
    let end : v.i ≡ min (number_at args 0) 64 = omega (arith, c.min-end.ensures, c.at-count.ensures) in
    v.invariant ∙ ap (names_to args) end
