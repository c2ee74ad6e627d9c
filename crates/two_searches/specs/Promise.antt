-- What is promised of two searches whose replies arrive merged, phrase by phrase. Demand 3, after its conditions:
--   "However the streams are merged, each reply is answered as in its own stream alone, and the tables end the same. In a stream for
--   another node's search, a reply is relayed exactly if its cost is below the starting residual and every earlier cost of that stream;
--   the last one relayed is the responder's route. Our own search establishes by the same rule, but if its responder's route is not
--   Active at the start, the first reply always establishes and the rule counts from its cost."
-- Assumes nothing.
use Rattle.std.specs.Prelude.{◌≡◌, ◌⊎◌, ◌≢◌, List, map, length}
use Rattle.std.proofs.Math.Logic.{⊎_map}
use Rattle.types.specs.declared.Nwk.{Nwk}
use Rattle.standard.specs.declared.RouteEntry.{RouteEntry}
use Rattle.standard.specs.declared.DiscoveryEntry.{DiscoveryEntry}
use Rattle.standard.specs.Tables.{Tables, InOrder}
use Rattle.two_searches.specs.Streams.{Search, Heard, Answer, hear, answers, final, firsts, seconds, either, AsAlone, hear_both}
use Rattle.two_searches.specs.Conditions.{HeldAs, RouteTo}
use Rattle.two_searches.specs.Exactly.{RelayedExactly, EstablishedExactly}

-- of one search: held as d and with the responder's route r at the start t, its stream xs answered rs, and u the tables at the end
pub record RuleKept (own : Nwk) (s : Search) (xs : List Heard) (rs : List Answer) (t u : Tables) : Type 0 where
  -- "In a stream for another node's search"
  pub theirs : s.originator ≢ own → (d : DiscoveryEntry) → HeldAs s d t → (r : RouteEntry) → RouteTo s.responder r t → RelayedExactly s d r xs rs u
  -- "Our own search"
  pub ours : s.originator ≡ own → (d : DiscoveryEntry) → HeldAs s d t → (r : RouteEntry) → RouteTo s.responder r t → EstablishedExactly s d r xs rs u

-- of both: zs is a merge of xs, replies to a, and ys, replies to b
pub record Promise (own : Nwk) (a b : Search) (xs ys : List Heard) (zs : List (Heard ⊎ Heard)) (t : Tables) : Type 0 where
  -- "each reply is answered as in its own stream alone, and the tables end the same"
  pub as-alone : AsAlone (hear own a) (hear own b) xs ys zs t
  -- the rule that each stream follows, and the route that it leaves
  pub first : RuleKept own a xs (firsts (answers (hear_both own a b) zs t)) t (final (hear_both own a b) zs t)
  pub second : RuleKept own b ys (seconds (answers (hear_both own a b) zs t)) t (final (hear_both own a b) zs t)
  -- no row is made or removed, so that none of the replies is refused; and the rows stay in order
  pub same-routes : length (final (hear_both own a b) zs t).routes ≡ length t.routes
  pub same-discoveries : length (final (hear_both own a b) zs t).discoveries ≡ length t.discoveries
  pub in_order : InOrder (final (hear_both own a b) zs t)

-- of a call that does the rule on rows packed into a state of its own, and gives the rule's answer in its own words
pub record CallsPromise
    {S P : Type 0}
    (pack : Tables → S)
    (say : Answer → P)
    (call : Search → Heard → S → P × S)
    (own : Nwk)
    (a b : Search)
    (xs ys : List Heard)
    (zs : List (Heard ⊎ Heard))
    (t : Tables)
    : Type 0
  where
    -- "each reply is answered as in its own stream alone, and the tables end the same", the whole of the state
    pub as-alone : AsAlone (call a) (call b) xs ys zs (pack t)
    -- no reply is refused: each answer is one of the rule's
    pub answered : answers (either (call a) (call b)) zs (pack t) ≡ map (⊎_map say say) (answers (hear_both own a b) zs t)
    -- the end is the rule's, packed
    pub ended : final (either (call a) (call b)) zs (pack t) ≡ pack (final (hear_both own a b) zs t)
    -- and the rule keeps its promise
    pub rows : Promise own a b xs ys zs t
