-- The promise for a call that does the rule on rows packed into a state of its own, and refuses only for order, range and room:
-- under the conditions it refuses no reply, so what is proved of the rows is true of the call.
use Prim.Native.Nat.{ℕ, ◌≤◌}
use mathlib.Core.Path.{◌≡◌, ap}
use mathlib.Core.Logic.{◌⊎◌}
use mathlib.Core.List.{List}
use lib.ListN.{length}
use Rattle.types.specs.declared.Nwk.{Nwk}
use Rattle.standard.specs.Tables.{Tables, InOrder}
use Rattle.two_searches.specs.Streams.{Search, Heard, Answer, hear, Merge}
use Rattle.two_searches.specs.Conditions.{Ranged, Fits}
use Rattle.two_searches.specs.Promise.{CallsPromise}
use Rattle.two_searches.specs.Steps.{Packed}
use Rattle.two_searches.proofs.Packed.{packed-answers, packed-final, packed-either, packed-as-alone}
use Rattle.two_searches.proofs.Sizes.{first_fits, second_fits}
use Rattle.two_searches.proofs.TwoSearches.{two-searches}

-- `call` answers as the rule does, in its own words `say`, wherever the tables are in order, within range and fit before and after
module _
    {S P : Type 0}
    (pack : Tables → S)
    (say : Answer → P)
    (own : Nwk)
    (routes discoveries : ℕ)
    (call : Search → Heard → S → P × S)
    (as-ruled : (s : Search) (x : Heard) (t : Tables) → InOrder t → Ranged t → length t.routes ≤ routes → length t.discoveries ≤ discoveries
    → length (hear own s x t).1.routes ≤ routes → call s x (pack t) ≡ (say (hear own s x t).0, pack (hear own s x t).1))
    (a b : Search)
  where
    pub first-packed : Packed (Fits own a b routes discoveries) pack say (hear own a) (call a)
    first-packed = record { keeps = keeps; answer = λ x t f. ap (λ q. q.0) (ruled x t f); state = λ x t f. ap (λ q. q.1) (ruled x t f) } where
      keeps : (x : Heard) (t : Tables) → Fits own a b routes discoveries t → Fits own a b routes discoveries (hear own a x t).1
      keeps x t f = first_fits own a b t routes discoveries f x

      ruled : (x : Heard) (t : Tables) → Fits own a b routes discoveries t → call a x (pack t) ≡ (say (hear own a x t).0, pack (hear own a x t).1)
      ruled x t f = as-ruled a x t f.in_order f.in-range f.routes-fit f.discoveries-fit (keeps x t f).routes-fit

    pub second-packed : Packed (Fits own a b routes discoveries) pack say (hear own b) (call b)
    second-packed = record { keeps = keeps; answer = λ x t f. ap (λ q. q.0) (ruled x t f); state = λ x t f. ap (λ q. q.1) (ruled x t f) } where
      keeps : (x : Heard) (t : Tables) → Fits own a b routes discoveries t → Fits own a b routes discoveries (hear own b x t).1
      keeps x t f = second_fits own a b t routes discoveries f x

      ruled : (x : Heard) (t : Tables) → Fits own a b routes discoveries t → call b x (pack t) ≡ (say (hear own b x t).0, pack (hear own b x t).1)
      ruled x t f = as-ruled b x t f.in_order f.in-range f.routes-fit f.discoveries-fit (keeps x t f).routes-fit

    pub calls-promise : (t : Tables) → Fits own a b routes discoveries t → {xs ys : List Heard} {zs : List (Heard ⊎ Heard)} → Merge xs ys zs
        → CallsPromise pack say call own a b xs ys zs t
    calls-promise t fits {xs} {ys} {zs} m =
        let rows = two-searches own a b t fits.in_order fits.conditions m in
        record {
          as-alone = packed-as-alone first-packed second-packed xs ys zs t fits rows.as-alone;
          answered = packed-answers (packed-either first-packed second-packed) zs t fits;
          ended = packed-final (packed-either first-packed second-packed) zs t fits;
          rows = rows;
        }
