-- A pair found among the keys names the row at its place; a pair missing there has no row.
-- Assumes nothing.
use Rattle.std.specs.Prelude.{Some}
use mathlib.Core.Path.{sym, ap, ◌∙◌}
use native.Mathlib.Omega.{arith}
use Rattle.discovery_table.specs.Lent.{seen_table}
use Rattle.discovery_table.proofs.Lent.{seen-formed}
use Rattle.discovery_table.proofs.Rows.{found-row, missing-row, place-within}
use Rattle.discovery_table.proofs.DiscoveriesSeen.find.Goals as goal

pub entry_at-e-requires : goal.entry_at-e-requires
entry_at-e-requires c =
    let d = c.args.self.now in
    let w = seen-formed d in
    omega (arith, place-within (seen_table d) w _ _ (sym c.in-Ok.is ∙ c.place_of.ensures), w.ordered.small)

pub returns-in-Ok : goal.returns-in-Ok
returns-in-Ok c =
    let d = c.args.self.now in
    ap Some c.entry_at-e.ensures ∙ (sym (found-row (seen_table d) (seen-formed d) _ _ (sym c.in-Ok.is ∙ c.place_of.ensures)))

pub returns-in-Err : goal.returns-in-Err
returns-in-Err c =
    let d = c.args.self.now in
    (sym (missing-row (seen_table d) (seen-formed d) _ _ (sym c.in-Err.is ∙ c.place_of.ensures)))
