-- The default policy is a policy by its numbers.
use native.Mathlib.Omega.{arith}
use Rattle.door_decision.proofs.warpteasel_raw_resolve_default.Goals as goal

pub returns : goal.returns
returns c =
    let x = c.warpteasel_raw_resolve.ensures in
    record { call = λ v. x.call (record { first = omega arith; second = omega arith; rest = v }); none = λ n. x.none (λ v. n v.rest) }
