-- The promise for the exported call itself, from a routing state by value and with its refusals.
-- The definition is the one that the contract of `Routing::accept_route_reply` cites. The call is not lent the relay store, so it cannot touch it.
-- Assumes nothing.
use Rattle.std.specs.Prelude.{List, map, ◌⊎◌, ◌≡◌, Option, Result, Ok}
use Rattle.std.proofs.Math.Logic.{⊎_map}
use Rattle.types.specs.declared.Nwk.{Nwk}
use Rattle.routing.specs.declared.Routing.{Routing}
use Rattle.routing.specs.declared.RouteReplyOutcome.{RouteReplyOutcome}
use Rattle.routing.specs.Search.{accept_route_reply}
use Rattle.routing.specs.State.{rows_in, with_rows}
use Rattle.two_searches.specs.Streams.{Search, Heard, Answer, AsAlone, answers, final, either, hear_both}
use Rattle.two_searches.specs.Promise.{Promise}
use Rattle.types.specs.declared.Refusal.{Refusal}
use Rattle.standard.specs.declared.RouteUpdate.{RouteUpdate}
use Rattle.standard.specs.declared.RouteReplyDisposition.{RouteReplyDisposition}

abbrev pub outcome : RouteReplyOutcome → (Result (RouteReplyDisposition × Option RouteUpdate) Refusal) × Routing
outcome r = (r.answer, r.state)

-- a reply as an exported call: its answer, which may be a refusal, and the whole next state
unfoldable pub call : Nwk → Search → Heard → Routing → (Result (RouteReplyDisposition × Option RouteUpdate) Refusal) × Routing
call own s x state = outcome (accept_route_reply state own s.originator s.id s.responder x.sender x.cost)

-- the rule's answer in the call's words: not a refusal
abbrev pub say : Answer → Result (RouteReplyDisposition × Option RouteUpdate) Refusal
say r = Ok (r.disposition, r.update)

-- of two streams of exported calls, merged as zs, from the state s
pub record ExportedPromise (own : Nwk) (a b : Search) (xs ys : List Heard) (zs : List (Heard ⊎ Heard)) (s : Routing) : Type 0 where
  -- "each reply is answered as in its own stream alone, and the tables end the same": the whole of the state
  pub as-alone : AsAlone (call own a) (call own b) xs ys zs s
  -- no reply is refused: each answer is the rule's
  pub answered : answers (either (call own a) (call own b)) zs s ≡ map (⊎_map say say) (answers (hear_both own a b) zs (rows_in s))
  -- the end is the rule's, in the two tables; the records, the counters and the id are as they were
  pub ended : final (either (call own a) (call own b)) zs s ≡ with_rows s (final (hear_both own a b) zs (rows_in s))
  -- and on the rows the rule keeps its promise: relayed exactly, established exactly, the last one is the route
  pub rows : Promise own a b xs ys zs (rows_in s)
