-- The columns of a table are ready for every question that is lent some of them.
use mathlib.Core.List.{[], ◌∷◌}
use Rattle.neighbor_columns.specs.Table.{NeighborTable, Formed64}
use Rattle.neighbor_queries_lent.specs.Read.{InUse}

module _ (t : NeighborTable) (f : Formed64 t) where
  pub nwks-in-use : InUse t.count (t.nwks ∷ [])
  nwks-in-use = (f.ordered.small, (f.ordered.long.1.0, tt))

  pub words-in-use : InUse t.count (t.nwks ∷ t.links ∷ [])
  words-in-use = (f.ordered.small, (f.ordered.long.1.0, (f.ordered.long.1.1.0, tt)))

  pub seen-in-use : InUse t.count (t.keys ∷ t.nwks ∷ t.links ∷ [])
  seen-in-use = (f.ordered.small, (f.ordered.long.0, (f.ordered.long.1.0, (f.ordered.long.1.1.0, tt))))

  pub times-in-use : InUse t.count (t.links ∷ t.deadlines ∷ [])
  times-in-use = (f.ordered.small, (f.ordered.long.1.1.0, (f.ordered.long.1.1.1.1.0, tt)))

  pub deadlines-in-use : InUse t.count (t.nwks ∷ t.links ∷ t.deadlines ∷ [])
  deadlines-in-use = (f.ordered.small, (f.ordered.long.1.0, (f.ordered.long.1.1.0, (f.ordered.long.1.1.1.1.0, tt))))

  pub expiry-in-use : InUse t.count (t.keys ∷ t.nwks ∷ t.links ∷ t.deadlines ∷ [])
  expiry-in-use = (f.ordered.small, (f.ordered.long.0, (f.ordered.long.1.0, (f.ordered.long.1.1.0, (f.ordered.long.1.1.1.1.0, tt)))))
