-- The calls that change the routing state, each by its definition on what the numbers give.
-- Assumes nothing.
use Rattle.std.specs.Prelude.{ℕ, List}
use Rattle.numbers.specs.Read.{byte_at, number_at, nwk_at}
use Rattle.route_loads.specs.declared.RoutingReply.{RoutingReply}
use Rattle.route_loads.specs.Loads.{replied}
use Rattle.routing.specs.declared.Routing.{Routing}
use Rattle.routing.specs.declared.DoneOutcome.{DoneOutcome}
use Rattle.routing.specs.declared.ToldOutcome.{ToldOutcome}
use Rattle.routing.specs.declared.BeginOutcome.{BeginOutcome}
use Rattle.routing.specs.declared.RouteRequestOutcome.{RouteRequestOutcome}
use Rattle.routing.specs.declared.RouteReplyOutcome.{RouteReplyOutcome}
use Rattle.routing.specs.Queries.{note_route_error, note_delivery_failure, reset_mtorr_triggers}
use Rattle.routing.specs.Routes.{mark_discovery_failed, record_usage, decay_activity, invalidate_via, remove_route, restore_route, note_source_routed_frame, note_relayed_discovery}
use Rattle.routing.specs.Search.{begin_discovery, begin_many_to_one_advertisement, accept_route_request, accept_route_reply}
use Rattle.route_answers.specs.Answers.{done_said, told_said, begin_said, request_said, reply_said}
use Rattle.route_args.specs.Read.{many_to_one_of}

abbrev pub done_reply : DoneOutcome → RoutingReply
done_reply o = replied o.state (done_said o.answer)

abbrev pub told_reply : ToldOutcome → RoutingReply
told_reply o = replied o.state (told_said o.answer)

abbrev pub begin_reply : BeginOutcome → RoutingReply
begin_reply o = replied o.state (begin_said o.answer)

abbrev pub request_reply : RouteRequestOutcome → RoutingReply
request_reply o = replied o.state (request_said o.answer)

abbrev pub reply_reply : RouteReplyOutcome → RoutingReply
reply_reply o = replied o.state (reply_said o.answer)

-- A route failure was heard, and a threshold.
unfoldable pub note_route_error_call : Routing → List ℕ → RoutingReply
note_route_error_call s args = told_reply (note_route_error s (byte_at args 0))

-- A delivery of our own failed, and a threshold.
unfoldable pub note_delivery_failure_call : Routing → List ℕ → RoutingReply
note_delivery_failure_call s args = told_reply (note_delivery_failure s (byte_at args 0))

-- The trigger counters are set to 0.
unfoldable pub reset_mtorr_triggers_call : Routing → RoutingReply
reset_mtorr_triggers_call s = done_reply (reset_mtorr_triggers s)

-- No discovery of the way to a destination has brought one.
unfoldable pub mark_discovery_failed_call : Routing → List ℕ → RoutingReply
mark_discovery_failed_call s args = done_reply (mark_discovery_failed s (nwk_at args 0))

-- A frame was forwarded along the route to a destination.
unfoldable pub record_usage_call : Routing → List ℕ → RoutingReply
record_usage_call s args = done_reply (record_usage s (nwk_at args 0))

-- The recent activity of every Active route goes down.
unfoldable pub decay_activity_call : Routing → RoutingReply
decay_activity_call s = done_reply (decay_activity s)

-- A next hop is lost.
unfoldable pub invalidate_via_call : Routing → List ℕ → RoutingReply
invalidate_via_call s args = done_reply (invalidate_via s (nwk_at args 0))

-- The route to a destination is removed.
unfoldable pub remove_route_call : Routing → List ℕ → RoutingReply
remove_route_call s args = told_reply (remove_route s (nwk_at args 0))

-- A route is handed back: destination, hop and cost.
unfoldable pub restore_route_call : Routing → List ℕ → RoutingReply
restore_route_call s args = done_reply (restore_route s (nwk_at args 0) (nwk_at args 1) (byte_at args 2))

-- A source-routed frame of a concentrator was heard.
unfoldable pub note_source_routed_frame_call : Routing → List ℕ → RoutingReply
note_source_routed_frame_call s args = done_reply (note_source_routed_frame s (nwk_at args 0))

-- A search of another's was relayed.
unfoldable pub note_relayed_discovery_call : Routing → List ℕ → RoutingReply
note_relayed_discovery_call s args = done_reply (note_relayed_discovery s (nwk_at args 0))

-- A search of our own: own address, destination, now and span.
unfoldable pub begin_discovery_call : Routing → List ℕ → RoutingReply
begin_discovery_call s args = begin_reply (begin_discovery s (nwk_at args 0) (nwk_at args 1) (number_at args 2) (number_at args 3))

-- A many-to-one advertisement: own address, now and span.
unfoldable pub begin_many_to_one_advertisement_call : Routing → List ℕ → RoutingReply
begin_many_to_one_advertisement_call s args = begin_reply (begin_many_to_one_advertisement s (nwk_at args 0) (number_at args 1) (number_at args 2))

-- A route request: originator, id, destination, sender, cost, many-to-one, now and span.
unfoldable pub accept_route_request_call : Routing → List ℕ → RoutingReply
accept_route_request_call s args = request_reply (accept_route_request s (nwk_at args 0) (byte_at args 1) (nwk_at args 2) (nwk_at args 3) (byte_at args 4) (many_to_one_of (number_at args 5)) (number_at args 6) (number_at args 7))

-- A route reply: own address, originator, id, responder, sender and cost.
unfoldable pub accept_route_reply_call : Routing → List ℕ → RoutingReply
accept_route_reply_call s args = reply_reply (accept_route_reply s (nwk_at args 0) (nwk_at args 1) (byte_at args 2) (nwk_at args 3) (nwk_at args 4) (byte_at args 5))
