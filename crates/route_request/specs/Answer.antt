-- A request's outcome on the rows: the refusals in document 01's order (5, then 1, then 2), else the rule's answer and its rows.
-- "Paths and room are judged after the expiry that the call makes; a refused call undoes that expiry too."
-- Assumes nothing.
use Rattle.std.specs.Prelude.{ℕ, ◌≤◌, cond, ◌≡◌, leb, length, Option, Some, None, Result, Ok, Err, Bool}
use Rattle.types.specs.declared.Nwk.{Nwk}
use Rattle.types.specs.declared.Refusal.{Refusal}
use Rattle.types.specs.declared.Refusal.TheVariants.{RouteTableFull, DiscoveryTableFull, TimePastEnd}
use Rattle.types.specs.Clock.{time_sum}
use Rattle.standard.specs.declared.ManyToOne.{ManyToOne}
use Rattle.standard.specs.Discovery.{pair_key, discovery_key}
use Rattle.standard.specs.Expiry.{expired}
use Rattle.standard.specs.Ordered.{lookup, count_with}
use Rattle.standard.specs.Request.{Requested, request}
use Rattle.standard.specs.Route.{route_key}
use Rattle.standard.specs.Tables.{Tables}
use Rattle.standard.specs.Time.{sum_made}
use Rattle.search_tables.specs.Packed.{SearchTables, Holds}
use Rattle.standard.specs.declared.RouteUpdate.{RouteUpdate}

-- an answer, and the rows after it
pub record RequestStep : Type 0 where
  pub answer : Result (Bool × Option RouteUpdate) Refusal
  pub tables : Tables

abbrev pub refused : Tables → Refusal → RequestStep
refused old why = record { answer = Err why; tables = old }

-- by the room that the rows want
unfoldable pub answered : Tables → Requested → RequestStep
answered old x =
    cond (leb (length x.tables.routes) 64)
    (cond (leb (length x.tables.discoveries) 32)
    (record { answer = Ok (x.accepted, x.update); tables = x.tables })
    (refused old DiscoveryTableFull))
    (refused old RouteTableFull)

-- by the time sum, first
abbrev pub by_time : Tables → Option ℕ → (ℕ → Requested) → RequestStep
by_time old (Some expires) rule = answered old (rule expires)
by_time old None rule = refused old TimePastEnd

-- on rows t whose expiry is done
unfoldable pub requested_on : Tables → Nwk → ℕ → Nwk → Nwk → ℕ → ManyToOne → ℕ → ℕ → Tables → RequestStep
requested_on old originator id destination sender cost many_to_one now span t =
    by_time old (sum_made (lookup discovery_key (pair_key originator id) t.discoveries) (time_sum now span))
    (λ expires. request originator id destination sender cost many_to_one expires t)

unfoldable pub requested : Tables → Nwk → ℕ → Nwk → Nwk → ℕ → ManyToOne → ℕ → ℕ → RequestStep
requested old originator id destination sender cost many_to_one now span =
    requested_on old originator id destination sender cost many_to_one now span (expired now old)

-- a step's answer, and columns that hold its rows
pub record Leaves (s : SearchTables) (answer : Result (Bool × Option RouteUpdate) Refusal) (x : RequestStep) : Type 0 where
  pub said : answer ≡ x.answer
  pub left : Holds s x.tables

-- room for a route to an originator, and for a discovery under a pair
pub record Room (originator : Nwk) (id : ℕ) (t : Tables) : Type 0 where
  pub route : count_with route_key originator.0 t.routes ≤ 64
  pub discovery : count_with discovery_key (pair_key originator id) t.discoveries ≤ 32
