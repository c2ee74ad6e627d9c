-- A reply's outcome on the rows: refused where the routes would be more than 64, else the rule's answer and its rows.
-- Document 01, "Refusal numbers": 1, "the call needs more new entries than are free in the route .. table".
-- Assumes nothing.
use Rattle.std.specs.Prelude.{ℕ, cond, ◌≡◌, leb, length, take, Option, Result, Ok, Err}
use Rattle.types.specs.declared.Refusal.TheVariants.{RouteTableFull}
use Rattle.standard.specs.declared.DiscoveryEntry.{DiscoveryEntry}
use Rattle.standard.specs.declared.RouteEntry.{RouteEntry}
use Rattle.standard.specs.Discovery.{discovery_key}
use Rattle.standard.specs.Reply.{Replied}
use Rattle.standard.specs.Route.{route_key}
use Rattle.standard.specs.Tables.{Tables}
use Rattle.flat_map.specs.Seek.{place_of}
use Rattle.search_tables.specs.Packed.{SearchTables, Holds}
use Rattle.types.specs.declared.Refusal.{Refusal}
use Rattle.standard.specs.declared.RouteUpdate.{RouteUpdate}
use Rattle.standard.specs.declared.RouteReplyDisposition.{RouteReplyDisposition}

-- an answer, and the rows after it
pub record ReplyStep : Type 0 where
  pub answer : Result (RouteReplyDisposition × Option RouteUpdate) Refusal
  pub tables : Tables

unfoldable pub answered : Tables → Replied → ReplyStep
answered t x =
    cond (leb (length x.tables.routes) 64)
    (record { answer = Ok (x.disposition, x.update); tables = x.tables })
    (record { answer = Err RouteTableFull; tables = t })

-- a step's answer, and columns that hold its rows
pub record Leaves (s : SearchTables) (answer : Result (RouteReplyDisposition × Option RouteUpdate) Refusal) (x : ReplyStep) : Type 0 where
  pub said : answer ≡ x.answer
  pub left : Holds s x.tables

-- the place of the discovery d, and that of the route e
pub record Held (s : SearchTables) (i : ℕ) (d : DiscoveryEntry) (j : ℕ) (e : RouteEntry) : Type 0 where
  pub discovery : Ok i ≡ place_of (take s.discoveries.count s.discoveries.keys) (discovery_key d)
  pub route : Ok j ≡ place_of (take s.routes.count s.routes.keys) (route_key e)
