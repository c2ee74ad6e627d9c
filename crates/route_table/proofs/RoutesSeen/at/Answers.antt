-- Below the count stands the row of that place, and from the count on there is none.
-- Assumes nothing.
use Rattle.std.specs.Prelude.{Some}
use mathlib.Core.Path.{sym, ap, ◌∙◌}
use native.Mathlib.Omega.{arith}
use Rattle.route_table.specs.Lent.{seen_table}
use Rattle.route_table.proofs.Lent.{seen-formed}
use Rattle.route_table.proofs.Rows.{row-in-use, row-not-in-use}
use Rattle.route_table.proofs.RoutesSeen.at.Goals as goal

pub returns-then-self-i : goal.returns-then-self-i
returns-then-self-i c =
    let r = c.args.self.now in
    (sym (row-not-in-use (seen_table r) (seen-formed r) c.args.i c.if-self-i.true))

pub entry_at-e-requires : goal.entry_at-e-requires
entry_at-e-requires c = omega (arith, c.if-self-i.false, (seen-formed c.args.self.now).ordered.small)

pub returns : goal.returns
returns c =
    let r = c.args.self.now in
    ap Some c.entry_at-e.ensures ∙ (sym (row-in-use (seen_table r) (seen-formed r) c.args.i c.if-self-i.false))
