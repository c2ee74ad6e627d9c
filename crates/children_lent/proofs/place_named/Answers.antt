-- The place of the address, where one is given.
use mathlib.Core.Path.{sym, ◌∙◌}
use Rattle.children_lent.proofs.Places.{named, not_named, no_name}
use Rattle.children_lent.proofs.place_named.Goals as goal

pub place_of-place-requires : goal.place_of-place-requires
place_of-place-requires c = c.requires

pub returns-in-Ok : goal.returns-in-Ok
returns-in-Ok c = named c.args.keys.now c.args.count c.args.eui64 _ _ c.in-Some.is c.requires.0 (sym c.in-Ok.is ∙ c.place_of-place.ensures)

pub returns-in-Err : goal.returns-in-Err
returns-in-Err c = not_named c.args.keys.now c.args.count c.args.eui64 _ _ c.in-Some.is (sym c.in-Err.is ∙ c.place_of-place.ensures)

pub returns-in-None : goal.returns-in-None
returns-in-None c = no_name c.args.keys.now c.args.count c.args.eui64 c.in-None.is
