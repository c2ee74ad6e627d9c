-- What is found is left where its end is after now, and gone where it is not; what is missing is missing in what is left.
-- Assumes nothing.
use mathlib.Core.Path.{sym, ◌∙◌}
use borrow.Author.Tests.{lt-ltb, le-ltb}
use Rattle.standard.specs.Discovery.{pair_key}
use Rattle.discovery_table.specs.Lent.{seen_table}
use Rattle.discovery_table.proofs.Lent.{seen-formed}
use Rattle.expiry.proofs.Left.{live-missing, live-over, live-found}
use Rattle.expiry.proofs.find_live.Goals as goal

pub returns-in_default : goal.returns-in_default
returns-in_default c =
    let a = c.args in
    let d = a.discoveries.now in
    live-missing a.now_ms (pair_key a.source a.id) (seen_table d) (seen-formed d) (sym c.in_default.is ∙ c.find.ensures)

pub returns-then-d-now_ms : goal.returns-then-d-now_ms
returns-then-d-now_ms c =
    let a = c.args in
    let d = a.discoveries.now in
    live-over a.now_ms (pair_key a.source a.id) (seen_table d) (seen-formed d) _ (sym c.in-Some.is ∙ c.find.ensures) (le-ltb a.now_ms _ c.if-d-now_ms.true)

pub returns : goal.returns
returns c =
    let a = c.args in
    let d = a.discoveries.now in
    live-found a.now_ms (pair_key a.source a.id) (seen_table d) (seen-formed d) _ (sym c.in-Some.is ∙ c.find.ensures) (lt-ltb a.now_ms _ c.if-d-now_ms.false)
