-- Each test says what its field says.
use mathlib.Core.Bool.{◌&&◌}
use mathlib.Core.Path.{ap, ◌∙◌}
use lib.Dec.{eqb}
use Rattle.neighbor_table.specs.Entry.{is_child_of, is_end_device}
use Rattle.neighbor_columns.specs.declared.LinkPart.{LinkPart}
use Rattle.children_lent.proofs.child_here.Goals as goal

pub returns : goal.returns
returns c =
    let child = c.is_child-child.ensures ∙ ap (λ (p : LinkPart). is_child_of p.relationship) c.link_of-part.ensures in
    let end-device = c.is_end_device-end_device.ensures ∙ ap (λ (p : LinkPart). is_end_device p.device_type) c.link_of-part.ensures in
    λ z. eqb c.args.address c.args.nwk.0 && (child z && end-device z)
