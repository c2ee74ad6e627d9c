-- The columns of the neighbours, lent to their look-up.
-- Assumes nothing.
use borrow.Author.Rules.{rules}
use Rattle.neighbor_groups.proofs.lists.look_up.Goals as goal

pub slice_bounds-find-end-9 : goal.slice_bounds-find-end-9
slice_bounds-find-end-9 c = search (rules, c.requires.table.formed.ordered.long.1.1.1.1.1.1.1.1.0)

pub slice_bounds-find-end-10 : goal.slice_bounds-find-end-10
slice_bounds-find-end-10 c = search (rules, c.requires.table.formed.ordered.long.1.1.1.1.1.1.1.1.1.0)

pub find-requires : goal.find-requires
find-requires c = c.requires.table.formed

pub returns : goal.returns
returns c = c.find.ensures
