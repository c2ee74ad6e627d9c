-- Case by case.
use Rattle.std.specs.Prelude.{Result, Ok}
use mathlib.Core.Path.{◌≡◌, sym, ap, ◌∙◌}
use Rattle.next_hop.specs.Numbers.{decision_said}
use Rattle.next_hop.specs.declared.NextHop.{NextHop}
use Rattle.numbers.specs.Said.{spoken}
use Rattle.decision_lines.proofs.arguments.resolve_answer.Goals as goal
use borrow.Author.Rules.{rules}
use Rattle.next_hop.specs.declared.NextHop.TheVariants.{Discard, NeedDiscovery, Resolved}
use Rattle.types.specs.declared.Refusal.{Refusal}

pub returns-in-Err : goal.returns-in-Err
returns-in-Err c = c.refused.ensures ∙ ap (λ (a : Result NextHop Refusal). spoken (decision_said c.args.o.header a)) (sym c.in-Err.is)

pub returns-in-Ok-Resolved : goal.returns-in-Ok-Resolved
returns-in-Ok-Resolved c =
    let e : c.args.o.answer ≡ Ok (Resolved c.in-Ok-Resolved.hop) = search rules in
    c.with_hop.ensures ∙ ap (λ (a : Result NextHop Refusal). spoken (decision_said c.args.o.header a)) (sym e)

pub returns-in-Ok-NeedDiscovery : goal.returns-in-Ok-NeedDiscovery
returns-in-Ok-NeedDiscovery c =
    let e : c.args.o.answer ≡ Ok NeedDiscovery = search rules in
    c.with_header.ensures ∙ ap (λ (a : Result NextHop Refusal). spoken (decision_said c.args.o.header a)) (sym e)

pub returns-in-Ok-Discard : goal.returns-in-Ok-Discard
returns-in-Ok-Discard c =
    let e : c.args.o.answer ≡ Ok Discard = search rules in
    c.with_header-in-Ok-Discard.ensures ∙ ap (λ (a : Result NextHop Refusal). spoken (decision_said c.args.o.header a)) (sym e)
