-- The exported calls of route search: refusal 10 for a state that is not well formed, else the outcome on the rows, put back into their columns.
-- Document 01, "Route rules" and "Refusal numbers".
-- Assumes nothing.
use Rattle.std.specs.Prelude.{ℕ, ◌+◌, ◌%◌, cond, Result, Ok, Err}
use Rattle.types.specs.declared.Nwk.{Nwk}
use Rattle.types.specs.declared.Refusal.TheVariants.{StateIllFormed}
use Rattle.standard.specs.declared.ManyToOne.{ManyToOne}
use Rattle.standard.specs.Reply.{reply}
use Rattle.standard.specs.Tables.{Tables}
use Rattle.route_reply.specs.Answer.{ReplyStep, answered}
use Rattle.route_request.specs.Answer.{RequestStep, requested}
use Rattle.route_begin.specs.Answer.{BeginStep, begun, advertised}
use Rattle.routing.specs.declared.Routing.{Routing}
use Rattle.routing.specs.declared.RouteReplyOutcome.{RouteReplyOutcome}
use Rattle.routing.specs.declared.RouteRequestOutcome.{RouteRequestOutcome}
use Rattle.routing.specs.declared.BeginOutcome.{BeginOutcome}
use Rattle.routing.specs.State.{well_formed, rows_in, with_rows, with_id}
use Rattle.types.specs.declared.Refusal.{Refusal}

abbrev pub replied : Routing → ReplyStep → RouteReplyOutcome
replied s x = record { answer = x.answer; state = with_rows s x.tables }

-- A reply to a search of ours or of another node.
abbrev pub accept_route_reply_core : Routing → Nwk → Nwk → ℕ → Nwk → Nwk → ℕ → RouteReplyOutcome
accept_route_reply_core s own originator id responder sender cost = replied s (answered (rows_in s) (reply own originator id responder sender cost (rows_in s)))

unfoldable pub accept_route_reply : Routing → Nwk → Nwk → ℕ → Nwk → Nwk → ℕ → RouteReplyOutcome
accept_route_reply s own originator id responder sender cost =
    cond (well_formed s)
    (accept_route_reply_core s own originator id responder sender cost)
    (record { answer = Err StateIllFormed; state = s })

abbrev pub request_answered : Routing → RequestStep → RouteRequestOutcome
request_answered s x = record { answer = x.answer; state = with_rows s x.tables }

-- A request of another node's search.
abbrev pub accept_route_request_core : Routing → Nwk → ℕ → Nwk → Nwk → ℕ → ManyToOne → ℕ → ℕ → RouteRequestOutcome
accept_route_request_core s originator id destination sender cost many_to_one now span = request_answered s (requested (rows_in s) originator id destination sender cost many_to_one now span)

unfoldable pub accept_route_request : Routing → Nwk → ℕ → Nwk → Nwk → ℕ → ManyToOne → ℕ → ℕ → RouteRequestOutcome
accept_route_request s originator id destination sender cost many_to_one now span =
    cond (well_formed s)
    (accept_route_request_core s originator id destination sender cost many_to_one now span)
    (record { answer = Err StateIllFormed; state = s })

-- "the id goes up by one, 255 to 0"; a refused call hands back the state with its id
abbrev pub begun_by : Result ℕ Refusal → Routing → ℕ → Tables → BeginOutcome
begun_by (Err why) s id t = record { answer = Err why; state = s }
begun_by (Ok i) s id t = record { answer = Ok i; state = with_id (with_rows s t) id }

abbrev pub begun_as : Routing → ℕ → BeginStep → BeginOutcome
begun_as s id x = begun_by x.answer s id x.tables

abbrev pub next_id : Routing → ℕ
next_id s = (s.request_sequence_number + 1) % 256

-- A search of our own.
abbrev pub begin_discovery_core : Routing → Nwk → Nwk → ℕ → ℕ → BeginOutcome
begin_discovery_core s own destination now span = begun_as s (next_id s) (begun (rows_in s) own (next_id s) destination now span)

unfoldable pub begin_discovery : Routing → Nwk → Nwk → ℕ → ℕ → BeginOutcome
begin_discovery s own destination now span =
    cond (well_formed s)
    (begin_discovery_core s own destination now span)
    (record { answer = Err StateIllFormed; state = s })

-- A many-to-one advertisement.
abbrev pub begin_many_to_one_advertisement_core : Routing → Nwk → ℕ → ℕ → BeginOutcome
begin_many_to_one_advertisement_core s own now span = begun_as s (next_id s) (advertised (rows_in s) own (next_id s) now span)

unfoldable pub begin_many_to_one_advertisement : Routing → Nwk → ℕ → ℕ → BeginOutcome
begin_many_to_one_advertisement s own now span =
    cond (well_formed s)
    (begin_many_to_one_advertisement_core s own now span)
    (record { answer = Err StateIllFormed; state = s })
