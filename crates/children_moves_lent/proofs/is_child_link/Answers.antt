-- The word's relationship tells.
use mathlib.Core.Path.{ap, ◌∙◌}
use Rattle.neighbor_table.specs.Entry.{is_child_of}
use Rattle.neighbor_columns.specs.declared.LinkPart.{LinkPart}
use Rattle.children_moves_lent.proofs.is_child_link.Goals as goal

pub returns : goal.returns
returns c = c.is_child.ensures ∙ ap (λ (p : LinkPart). is_child_of p.relationship) c.link_of-part.ensures
