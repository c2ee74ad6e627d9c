-- Demand 3, whole: under its conditions, from tables in order, every merge of the two streams keeps the promise.
-- Put together from Merged, Exact, Own and Sizes.
use mathlib.Core.Logic.{◌⊎◌}
use mathlib.Core.List.{List}
use Rattle.types.specs.declared.Nwk.{Nwk}
use Rattle.standard.specs.Tables.{Tables, InOrder}
use Rattle.two_searches.specs.Streams.{Search, Heard, Merge}
use Rattle.two_searches.specs.Conditions.{Conditions}
use Rattle.two_searches.specs.Promise.{Promise}
use Rattle.two_searches.proofs.Merged.{merged}
use Rattle.two_searches.proofs.Exact.{relayed-exactly-first, relayed-exactly-second}
use Rattle.two_searches.proofs.Own.{established-exactly-first, established-exactly-second}
use Rattle.two_searches.proofs.Sizes.{sizes-at-end}

pub two-searches : (own : Nwk) (a b : Search) (t : Tables) → InOrder t → Conditions own a b t
    → {xs ys : List Heard} {zs : List (Heard ⊎ Heard)} → Merge xs ys zs → Promise own a b xs ys zs t
two-searches own a b t h c {xs} {ys} {zs} m =
    let end = sizes-at-end own a b zs t c h in
    record {
      as-alone = merged own a b t c m;
      first = record {
        theirs = λ n d held r known. relayed-exactly-first own a b t c m d r n held known;
        ours = λ e d held r known. established-exactly-first own a b t c m d r e held known;
      };
      second = record {
        theirs = λ n d held r known. relayed-exactly-second own a b t c m d r n held known;
        ours = λ e d held r known. established-exactly-second own a b t c m d r e held known;
      };
      same-routes = end.0;
      same-discoveries = end.1;
      in_order = end.2;
    }
