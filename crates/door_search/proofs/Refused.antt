-- A refused call leaves the columns and the places: what is refused leaves the rows, and rows of well-formed columns are the columns.
use Rattle.std.specs.Prelude.{Option, Some, None, Ok, Err}
use Prim.Native.Nat.{ℕ, ◌<◌, ◌≤◌}
use native.Mathlib.Omega.{arith}
use mathlib.Core.Path.{◌≡◌, refl, sym}
use lib.Dec.{leb}
use lib.ListN.{length}
use Rattle.types.specs.declared.Nwk.{Nwk}
use Rattle.types.specs.Clock.{time_sum}
use Rattle.standard.specs.Discovery.{pair_key, discovery_key}
use Rattle.standard.specs.Expiry.{expired}
use Rattle.standard.specs.Ordered.{lookup}
use Rattle.standard.specs.Reply.{Replied, reply}
use Rattle.standard.specs.Request.{Requested, request}
use Rattle.standard.specs.Time.{sum_made}
use Rattle.standard.proofs.Picked.{by-test}
use Rattle.route_reply.specs.Answer as reply-step
use Rattle.route_request.specs.Answer as request-step
use Rattle.route_args.specs.Read.{many_to_one_of}
use Rattle.routing.specs.declared.Routing.{Routing}
use Rattle.routing.specs.declared.RouteReplyOutcome.{RouteReplyOutcome}
use Rattle.routing.specs.declared.RouteRequestOutcome.{RouteRequestOutcome}
use Rattle.routing.specs.Search.{accept_route_reply, accept_route_request}
use Rattle.routing.specs.State.{WellFormed, well_formed, rows_in, with_rows}
use Rattle.routing.proofs.State.{state-told, search-whole}
use Rattle.door.specs.Lent.{Counters}
use Rattle.door.proofs.Lent.{Keeps, refused-made}
use Rattle.door_search.specs.Reply.{ReplyPlaces, reply_status, reply_numbers, ReplyMade}
use Rattle.door_search.specs.Request.{RequestPlaces, request_status, request_numbers, RequestMade}

reply-keeps : Keeps reply_numbers
reply-keeps (Err why) old p = refl
reply-keeps (Ok (d, u)) old p = absurd (omega arith)

request-keeps : Keeps request_numbers
request-keeps (Err why) old p = refl
request-keeps (Ok (b, u)) old p = absurd (omega arith)

-- a step on a state, and what it hands back where it is refused
abbrev ReplyBack : Routing → reply-step.ReplyStep → Type 0
ReplyBack s x = 0 < reply_status x.answer → with_rows s x.tables ≡ s

abbrev RequestBack : Routing → request-step.RequestStep → Type 0
RequestBack s x = 0 < request_status x.answer → with_rows s x.tables ≡ s

module _ (s : Routing) (w : WellFormed s) where
  same : with_rows s (rows_in s) ≡ s
  same = sym (search-whole s w)

  replied-back : (x : Replied) → ReplyBack s (reply-step.answered (rows_in s) x)
  unfolding reply-step.answered
  replied-back x = by-test (ReplyBack s) (leb (length x.tables.routes) 64) _ _ (λ _ p. absurd (omega arith)) (λ _. same)

  requested-back : (x : Requested) → RequestBack s (request-step.answered (rows_in s) x)
  unfolding request-step.answered
  requested-back x =
      by-test (RequestBack s) (leb (length x.tables.routes) 64) _ _
      (λ _. by-test (RequestBack s) (leb (length x.tables.discoveries) 32) _ _ (λ _ p. absurd (omega arith)) (λ _. same))
      (λ _. same)

  by-sum : (u : Option ℕ) (rule : ℕ → Requested) → RequestBack s (request-step.by_time (rows_in s) u rule)
  by-sum (Some e) rule = requested-back (rule e)
  by-sum None rule = λ _. same

module _ (before after : Counters → Routing) (r : ℕ) (p : 0 < r) where
  pub reply-refused : (own originator : Nwk) (id : ℕ) (responder sender : Nwk) (cost : ℕ) (old new : ReplyPlaces)
      → ReplyMade before after own originator id responder sender cost old new r → (c : Counters) → (after c ≡ before c) × (new ≡ old)
  unfolding accept_route_reply
  reply-refused own originator id responder sender cost old new x = refused-made reply-keeps (record { back = hands }) x p where
    hands : (s : Routing) → 0 < reply_status (accept_route_reply s own originator id responder sender cost).answer → (accept_route_reply s own originator id responder sender cost).state ≡ s
    hands s =
        by-test (λ (o : RouteReplyOutcome). 0 < reply_status o.answer → o.state ≡ s) (well_formed s) _ _
        (λ e. replied-back s ((state-told s).fact e) (reply own originator id responder sender cost (rows_in s))) (λ _. refl)

  pub request-refused : (originator : Nwk) (id : ℕ) (destination sender : Nwk) (cost field now span : ℕ) (old new : RequestPlaces) → field ≤ 3
      → RequestMade before after originator id destination sender cost field now span old new r → (c : Counters) → (after c ≡ before c) × (new ≡ old)
  unfolding accept_route_request request-step.requested request-step.requested_on
  request-refused originator id destination sender cost field now span old new small x = refused-made request-keeps (record { back = hands }) (x.call small) p where
    hands : (s : Routing) → 0 < request_status (accept_route_request s originator id destination sender cost (many_to_one_of field) now span).answer
        → (accept_route_request s originator id destination sender cost (many_to_one_of field) now span).state ≡ s
    hands s =
        by-test (λ (o : RouteRequestOutcome). 0 < request_status o.answer → o.state ≡ s) (well_formed s) _ _
        (λ e. by-sum s ((state-told s).fact e) (sum_made (lookup discovery_key (pair_key originator id) (expired now (rows_in s)).discoveries) (time_sum now span))
        (λ (t : ℕ). request originator id destination sender cost (many_to_one_of field) t (expired now (rows_in s))))
        (λ _. refl)
