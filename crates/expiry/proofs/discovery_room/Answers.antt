-- A free place and one that the pair has are left by expiry; where there is neither, expiry has to free one.
-- Assumes nothing.
use mathlib.Core.Path.{sym, ◌∙◌}
use Rattle.standard.specs.Discovery.{pair_key}
use Rattle.discovery_table.specs.Lent.{seen_table}
use Rattle.discovery_table.proofs.Lent.{seen-formed}
use Rattle.expiry.proofs.Left.{discovery-free, discovery-there, discovery-freed}
use Rattle.expiry.proofs.discovery_room.Goals as goal

pub returns-then-discoveries-lt32 : goal.returns-then-discoveries-lt32
returns-then-discoveries-lt32 c =
    let a = c.args in
    let d = a.discoveries.now in
    discovery-free a.now_ms (pair_key a.source a.id) (seen_table d) (seen-formed d) c.if-discoveries-lt32.true

pub returns-in_default : goal.returns-in_default
returns-in_default c =
    let a = c.args in
    let d = a.discoveries.now in
    discovery-there a.now_ms (pair_key a.source a.id) (seen_table d) (seen-formed d) _ (sym c.in_default.is ∙ c.place_of.ensures)

pub returns : goal.returns
returns c =
    let a = c.args in
    let d = a.discoveries.now in
    c.some_over.ensures ∙ discovery-freed a.now_ms (pair_key a.source a.id) (seen_table d) (seen-formed d) c.if-discoveries-lt32.false _ (sym c.in-Err.is ∙ c.place_of.ensures)
