-- Each value is read after those before it; those that may be given take two places at most.
use Prim.Native.Nat.{◌+◌}
use mathlib.Core.Path.{ap, ◌∙◌}
use native.Mathlib.Omega.{arith}
use Rattle.child_arguments.proofs.Reading.{past_near}
use Rattle.child_arguments.specs.Arguments.{past}
use Rattle.decision_lines.specs.Header.{header_with, header_at}
use Rattle.decision_lines.proofs.header.header.Goals as goal

pub after-k-requires : goal.after-k-requires
after-k-requires c = omega (arith, c.requires, c.after-j.ensures, past_near c.args.args.now (c.args.from + 14))

pub after-l-requires : goal.after-l-requires
after-l-requires c = omega (arith, c.requires, c.after-j.ensures, past_near c.args.args.now (c.args.from + 14), c.after-k.ensures, past_near c.args.args.now c.after-j.result)

pub optional_eui64-source_ieee-requires : goal.optional_eui64-source_ieee-requires
optional_eui64-source_ieee-requires c = omega (arith, c.requires, c.after-j.ensures, past_near c.args.args.now (c.args.from + 14))

pub optional_byte-multicast_control-requires : goal.optional_byte-multicast_control-requires
optional_byte-multicast_control-requires c = omega (arith, c.requires, c.after-j.ensures, past_near c.args.args.now (c.args.from + 14), c.after-k.ensures, past_near c.args.args.now c.after-j.result)

pub route-source_route-requires : goal.route-source_route-requires
route-source_route-requires c = omega (arith, c.requires, c.after-j.ensures, past_near c.args.args.now (c.args.from + 14), c.after-k.ensures, past_near c.args.args.now c.after-j.result, c.after-l.ensures, past_near c.args.args.now c.after-k.result)

pub returns : goal.returns
unfolding header_at
returns c =
    let args = c.args.args.now in
    let from = c.args.from in
    let j = c.after-j.ensures in
    let k = c.after-k.ensures ∙ ap (past args) j in
    let l = c.after-l.ensures ∙ ap (past args) k in
    (λ z. record {
      frame_control = c.control-frame_control.ensures z;
      destination = c.nwk-destination.ensures z;
      source = c.nwk-source.ensures z;
      radius = c.byte-radius.ensures z;
      sequence_number = c.byte-sequence_number.ensures z;
      destination_ieee = c.optional_eui64-destination_ieee.ensures z;
      source_ieee = c.optional_eui64-source_ieee.ensures z;
      multicast_control = c.optional_byte-multicast_control.ensures z;
      has_source_route = c.flag-has_source_route.ensures z;
      source_route = c.route-source_route.ensures z;
    })
    ∙ (λ z. header_with args from (from + 14) (j z) (k z) (l z))
