-- The outcome of a search of our own and of an advertisement, on the rows: the refusals in document 01's order (5, then 1, then 2),
-- else the request id and the rule's rows. Room is judged after the expiry, and a refused call undoes it.
-- Assumes nothing.
use Rattle.std.specs.Prelude.{ℕ, cond, ◌≡◌, leb, length, Option, Some, None, Result, Ok, Err}
use Rattle.types.specs.declared.Nwk.{Nwk}
use Rattle.types.specs.declared.Refusal.{Refusal}
use Rattle.types.specs.declared.Refusal.TheVariants.{RouteTableFull, DiscoveryTableFull, TimePastEnd}
use Rattle.types.specs.Clock.{time_sum}
use Rattle.standard.specs.Begin.{begin, advertise}
use Rattle.standard.specs.Discovery.{pair_key, discovery_key}
use Rattle.standard.specs.Expiry.{expired}
use Rattle.standard.specs.Ordered.{lookup}
use Rattle.standard.specs.Tables.{Tables}
use Rattle.standard.specs.Time.{sum_made}
use Rattle.search_tables.specs.Packed.{SearchTables, Holds}

-- an answer, and the rows after it
pub record BeginStep : Type 0 where
  pub answer : Result ℕ Refusal
  pub tables : Tables

abbrev pub refused : Tables → Refusal → BeginStep
refused old why = record { answer = Err why; tables = old }

-- by the room that the rows want
unfoldable pub begun_with : Tables → ℕ → Tables → BeginStep
begun_with old id t =
    cond (leb (length t.routes) 64)
    (cond (leb (length t.discoveries) 32)
    (record { answer = Ok id; tables = t })
    (refused old DiscoveryTableFull))
    (refused old RouteTableFull)

-- by the time sum, first
abbrev pub by_time : Tables → Option ℕ → ℕ → (ℕ → Tables) → BeginStep
by_time old (Some expires) id rule = begun_with old id (rule expires)
by_time old None id rule = refused old TimePastEnd

-- on tables t whose expiry is done: a live entry under own address and id makes no sum
unfoldable pub begun_on : Tables → Nwk → ℕ → Nwk → ℕ → ℕ → Tables → BeginStep
begun_on old own id destination now span t =
    by_time old (sum_made (lookup discovery_key (pair_key own id) t.discoveries) (time_sum now span)) id
    (λ expires. begin own id destination expires t)

unfoldable pub begun : Tables → Nwk → ℕ → Nwk → ℕ → ℕ → BeginStep
begun old own id destination now span = begun_on old own id destination now span (expired now old)

-- an advertisement always makes its sum
unfoldable pub advertised : Tables → Nwk → ℕ → ℕ → ℕ → BeginStep
advertised old own id now span = by_time old (time_sum now span) id (λ expires. advertise own id expires (expired now old))

-- a step's answer, and columns that hold its rows
pub record Leaves (s : SearchTables) (answer : Result ℕ Refusal) (x : BeginStep) : Type 0 where
  pub said : answer ≡ x.answer
  pub left : Holds s x.tables
