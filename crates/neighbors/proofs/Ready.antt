-- The columns of a table are in order, some of them too, so that a call can be lent those that it touches.
use Prim.Native.Nat.{◌≤◌}
use mathlib.Core.List.{[], ◌∷◌}
use Rattle.columns.specs.Columns.{Ordered, Long}
use Rattle.neighbor_columns.specs.Table.{NeighborTable, Formed64}

module _ (t : NeighborTable) (f : Formed64 t) where
  pub keys-ordered : Ordered 64 t.keys [] t.count
  keys-ordered = record { long = (f.ordered.long.0, tt); small = f.ordered.small; rising = f.ordered.rising; zeros = (f.ordered.zeros.0, tt) }

  pub nwks-ordered : Ordered 64 t.keys (t.nwks ∷ []) t.count
  nwks-ordered = record {
    long = (f.ordered.long.0, (f.ordered.long.1.0, tt));
    small = f.ordered.small;
    rising = f.ordered.rising;
    zeros = (f.ordered.zeros.0, (f.ordered.zeros.1.0, tt));
  }

  pub links-ordered : Ordered 64 t.keys (t.links ∷ []) t.count
  links-ordered = record {
    long = (f.ordered.long.0, (f.ordered.long.1.1.0, tt));
    small = f.ordered.small;
    rising = f.ordered.rising;
    zeros = (f.ordered.zeros.0, (f.ordered.zeros.1.1.0, tt));
  }

  pub counts-ordered : Ordered 64 t.keys (t.counts ∷ []) t.count
  counts-ordered = record {
    long = (f.ordered.long.0, (f.ordered.long.1.1.1.0, tt));
    small = f.ordered.small;
    rising = f.ordered.rising;
    zeros = (f.ordered.zeros.0, (f.ordered.zeros.1.1.1.0, tt));
  }

  -- keys, network addresses, links, deadlines and periods
  pub times-ordered : Ordered 64 t.keys (t.nwks ∷ t.links ∷ t.deadlines ∷ t.periods ∷ []) t.count
  times-ordered = record {
    long = (f.ordered.long.0, (f.ordered.long.1.0, (f.ordered.long.1.1.0, (f.ordered.long.1.1.1.1.0, (f.ordered.long.1.1.1.1.1.0, tt)))));
    small = f.ordered.small;
    rising = f.ordered.rising;
    zeros = (f.ordered.zeros.0, (f.ordered.zeros.1.0, (f.ordered.zeros.1.1.0, (f.ordered.zeros.1.1.1.1.0, (f.ordered.zeros.1.1.1.1.1.0, tt)))));
  }

  pub counts-long : Long 64 (t.counts ∷ []) × (t.count ≤ 64)
  counts-long = ((f.ordered.long.1.1.1.0, tt), f.ordered.small)

  pub words_long : Long 64 (t.nwks ∷ t.links ∷ []) × (t.count ≤ 64)
  words_long = ((f.ordered.long.1.0, (f.ordered.long.1.1.0, tt)), f.ordered.small)

  pub senders-long : Long 64 (t.nwks ∷ t.counts ∷ []) × (t.count ≤ 64)
  senders-long = ((f.ordered.long.1.0, (f.ordered.long.1.1.1.0, tt)), f.ordered.small)

  -- network addresses, links, counts, deadlines and periods
  pub periods-long : Long 64 (t.nwks ∷ t.links ∷ t.counts ∷ t.deadlines ∷ t.periods ∷ []) × (t.count ≤ 64)
  periods-long =
      ((f.ordered.long.1.0, (f.ordered.long.1.1.0, (f.ordered.long.1.1.1.0, (f.ordered.long.1.1.1.1.0, (f.ordered.long.1.1.1.1.1.0, tt))))), f.ordered.small)
