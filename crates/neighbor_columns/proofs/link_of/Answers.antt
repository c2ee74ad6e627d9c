-- Field by field.
use Rattle.neighbor_columns.specs.Codec.{link_of}
use Rattle.neighbor_columns.proofs.link_of.Goals as goal

pub returns : goal.returns
unfolding link_of
returns c = rw (c.of_word-lqas.ensures, c.device_type_of-device_type.ensures, c.relationship_of-relationship.ensures)
