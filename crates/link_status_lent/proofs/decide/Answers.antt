-- The refusals in their order, and then by the sender's place, the sum and the room.
use mathlib.Core.Path.{sym, ◌∙◌}
use borrow.Author.Tests.{not-true, not-false}
use Rattle.link_status_lent.proofs.Rows.{too_long, too-high, past, full, has-time}
use Rattle.link_status_lent.proofs.decide.Goals as goal

pub returns-then-command-gt31 : goal.returns-then-command-gt31
returns-then-command-gt31 c =
    let a = c.args in
    too_long a.keys.now a.count a.name a.command a.now_ms c.if-command-gt31.true

pub returns-then-not-all_costs_fit : goal.returns-then-not-all_costs_fit
returns-then-not-all_costs_fit c =
    let a = c.args in
    too-high a.keys.now a.count a.name a.command a.now_ms c.if-command-gt31.false (sym c.all_costs_fit.ensures ∙ not-true _ c.if-not-all_costs_fit.true-raw)

pub returns-in-Ok : goal.returns-in-Ok
returns-in-Ok c =
    ((record { short = c.if-command-gt31.false; cheap = sym c.all_costs_fit.ensures ∙ not-false _ c.if-not-all_costs_fit.false-raw }), sym c.in-Ok.is ∙ c.place_of-place.ensures)

pub returns-then-count-lt64 : goal.returns-then-count-lt64
returns-then-count-lt64 c =
    ((record { short = c.if-command-gt31.false; cheap = sym c.all_costs_fit.ensures ∙ not-false _ c.if-not-all_costs_fit.false-raw }), sym c.in-Err.is ∙ c.place_of-place.ensures, c.if-count-lt64.true, has-time _ _ (sym c.in-Some.is ∙ c.time_sum-sum.ensures))

pub returns-else-count-lt64 : goal.returns-else-count-lt64
returns-else-count-lt64 c =
    let a = c.args in
    full a.keys.now a.count a.name a.command a.now_ms (record { short = c.if-command-gt31.false; cheap = sym c.all_costs_fit.ensures ∙ not-false _ c.if-not-all_costs_fit.false-raw }) _ (sym c.in-Err.is ∙ c.place_of-place.ensures) (has-time _ _ (sym c.in-Some.is ∙ c.time_sum-sum.ensures)) c.if-count-lt64.false

pub returns-in-None : goal.returns-in-None
returns-in-None c =
    let a = c.args in
    past a.keys.now a.count a.name a.command a.now_ms (record { short = c.if-command-gt31.false; cheap = sym c.all_costs_fit.ensures ∙ not-false _ c.if-not-all_costs_fit.false-raw }) _ (sym c.in-Err.is ∙ c.place_of-place.ensures) (sym c.in-None.is ∙ c.time_sum-sum.ensures)
