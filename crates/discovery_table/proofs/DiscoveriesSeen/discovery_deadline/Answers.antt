-- The first of the rows that are left that fits is the first of all rows, since none of those passed fits.
use Rattle.std.specs.Prelude.{Some}
use mathlib.Core.Bool.{Bool, ◌&&◌}
use mathlib.Core.Path.{sym, ap, ◌∙◌}
use native.Mathlib.Omega.{arith}
use lib.Dec.{ltb}
use Rattle.flat_map.proofs.Query.{first-here, first_past, first_done}
use Rattle.standard.specs.declared.DiscoveryEntry.{DiscoveryEntry}
use Rattle.standard.specs.Discovery.{awaits}
use Rattle.discovery_table.specs.Table.{deadline_of}
use Rattle.discovery_table.specs.Lent.{seen_table}
use Rattle.discovery_table.proofs.Lent.{seen-formed}
use Rattle.discovery_table.proofs.Rows.{next_row, no_row}
use Rattle.discovery_table.proofs.DiscoveriesSeen.discovery_deadline.Goals as goal

pub entry_at-e-requires : goal.entry_at-e-requires
entry_at-e-requires c = omega (arith, c.loop-i-test.true, (seen-formed c.args.self.now).ordered.small)

pub returns-then-now_ms-e : goal.returns-then-now_ms-e
returns-then-now_ms-e c =
    let a = c.args in
    let d = a.self.now in
    let v = c.loop-i in
    ap (λ (d : DiscoveryEntry). Some d.expiration_time) c.entry_at-e.ensures
    ∙ ap deadline_of (sym (first-here (awaits a.destination.0 a.now_ms) (next_row (seen_table d) (seen-formed d) v.i c.loop-i-test.true) (ap (awaits a.destination.0 a.now_ms) (sym c.entry_at-e.ensures) ∙ ap (λ (b : Bool). ltb a.now_ms c.entry_at-e.result.expiration_time && b) (sym c.eq.ensures) ∙ c.if-now_ms-e.true)) ∙ v.invariant)

pub loop-i-preserved : goal.loop-i-preserved
loop-i-preserved c =
    let a = c.args in
    let d = a.self.now in
    let v = c.loop-i in
    sym (first_past (awaits a.destination.0 a.now_ms) (next_row (seen_table d) (seen-formed d) v.i c.loop-i-test.true) (ap (awaits a.destination.0 a.now_ms) (sym c.entry_at-e.ensures) ∙ ap (λ (b : Bool). ltb a.now_ms c.entry_at-e.result.expiration_time && b) (sym c.eq.ensures) ∙ c.if-now_ms-e.false)) ∙ v.invariant

pub returns : goal.returns
returns c =
    let a = c.args in
    let d = a.self.now in
    let v = c.loop-i in
    ap deadline_of (sym (first_done (awaits a.destination.0 a.now_ms) (no_row (seen_table d) (seen-formed d) v.i c.loop-i-test.false)) ∙ v.invariant)
