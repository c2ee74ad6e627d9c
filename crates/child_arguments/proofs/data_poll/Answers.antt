-- Each value is read after the one before it.
use mathlib.Core.Path.{ap, ◌∙◌}
use native.Mathlib.Omega.{arith}
use Rattle.child_arguments.proofs.Reading.{past_near}
use Rattle.child_arguments.specs.Arguments.{maybe_nwk_at, past, poll_of}
use Rattle.numbers.specs.Read.{number_at}
use Rattle.child_arguments.proofs.data_poll.Goals as goal

pub after-third-requires : goal.after-third-requires
after-third-requires c = omega (arith, c.after-second.ensures, past_near c.args.args.now 0)

pub maybe_nwk-nwk-requires : goal.maybe_nwk-nwk-requires
maybe_nwk-nwk-requires c = omega (arith, c.after-second.ensures, past_near c.args.args.now 0)

pub returns : goal.returns
unfolding poll_of
returns c =
    let args = c.args.args.now in
    let second = c.after-second.ensures in
    λ z. record {
      eui64 = c.maybe_eui64-eui64.ensures z;
      nwk = (c.maybe_nwk-nwk.ensures ∙ ap (maybe_nwk_at args) second) z;
      now = (c.at-now.ensures ∙ ap (number_at args) (c.after-third.ensures ∙ ap (past args) second)) z;
    }
