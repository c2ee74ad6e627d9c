-- The word of the link with a keepalive says it.
use mathlib.Core.Path.{sym, ap, ◌∙◌, subst}
use Rattle.neighbor_columns.specs.Codec.{link_of, CleanLink}
use Rattle.neighbor_columns.proofs.Codec.{link-back, link-clean}
use Rattle.children_lent.specs.Parts.{kept_link}
use Rattle.children_lent.proofs.kept_link.Goals as goal

pub returns : goal.returns
returns c = (ap link_of c.link_word.ensures.0 ∙ link-back _ c.link_word.ensures.1 ∙ ap kept_link c.link_of-part.ensures, subst CleanLink (sym c.link_word.ensures.0) (link-clean _ c.link_word.ensures.1))
