-- What makes no table is not well formed; a table is, where each word in use holds a well-formed ring.
use native.Mathlib.Omega.{arith}
use mathlib.Core.Path.{sym, ◌∙◌}
use borrow.Author.Tests.{not-true, not-false}
use Rattle.standard.proofs.Tells.{not_so, denied}
use Rattle.waiting_columns.specs.Table.{in_columns}
use Rattle.waiting_columns.proofs.Rows.{formed-told, well-formed-is, table-told}
use Rattle.waiting_columns.proofs.well_formed.Goals as goal

pub returns-then-not-formed : goal.returns-then-not-formed
returns-then-not-formed c =
    let a = c.args in
    let t = in_columns a.keys.now a.samples.now a.count in
    well-formed-is t (not_so (λ w. denied (formed-told t) (sym c.formed.ensures ∙ not-true _ c.if-not-formed.true-raw) w.formed))

pub rings_sound-requires : goal.rings_sound-requires
rings_sound-requires c =
    let a = c.args in
    let t = in_columns a.keys.now a.samples.now a.count in
    let f = (formed-told t).fact (sym c.formed.ensures ∙ not-false _ c.if-not-formed.false-raw) in
    omega (arith, f.ordered.small, f.ordered.long.1.0)

pub returns : goal.returns
returns c =
    let a = c.args in
    let t = in_columns a.keys.now a.samples.now a.count in
    let f = (formed-told t).fact (sym c.formed.ensures ∙ not-false _ c.if-not-formed.false-raw) in
    well-formed-is t (table-told t f c.rings_sound.ensures)
