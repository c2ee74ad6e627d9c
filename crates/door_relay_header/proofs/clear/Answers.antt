-- The bit decides first, and then the look-up, which tells the same in every table that has the two columns.
use native.Mathlib.Omega.{arith}
use mathlib.Core.Path.{sym, ◌∙◌}
use Rattle.neighbor_columns.specs.Table.{rows_of}
use Rattle.neighbor_queries_lent.specs.Read.{lent_words}
use Rattle.door_relay_header.proofs.Cleared.{off-said, child-said, other-said}
use Rattle.door_relay_header.proofs.clear.Goals as goal

pub returns-then-bit-eq0 : goal.returns-then-bit-eq0
returns-then-bit-eq0 c = let a = c.args in λ has count t f. record { said = λ h. off-said (rows_of (lent_words a.nwks.now a.links.now a.neighbors t)) a.source has count h _ _ c.if-bit-eq0.true }

pub returns-then-any_fitting : goal.returns-then-any_fitting
returns-then-any_fitting c = let a = c.args in λ has count t f. record { said = λ h. child-said (rows_of (lent_words a.nwks.now a.links.now a.neighbors t)) a.source has count h _ _ (omega (arith, c.if-bit-eq0.false, c.requires.1)) (sym (c.any_fitting.ensures t f) ∙ c.if-any_fitting.true) }

pub returns : goal.returns
returns c = let a = c.args in λ has count t f. record { said = λ h. other-said (rows_of (lent_words a.nwks.now a.links.now a.neighbors t)) a.source has count h _ _ (omega (arith, c.if-bit-eq0.false, c.requires.1)) (sym (c.any_fitting.ensures t f) ∙ c.if-any_fitting.false) }
