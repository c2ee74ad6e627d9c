-- The route table in memory that is lent: whole, for change; its values alone for change, its keys being read; or for reading.
-- A call that changes it keeps the memory that is lent, and what is said of the routes is said of that memory when the loan is over.
-- Assumes nothing.
use Rattle.std.specs.Prelude.{ℕ, List, ◌≡◌, get_or, take, Result}
use Rattle.flat_map.specs.Seek.{place_of}
use Rattle.standard.specs.declared.RouteEntry.{RouteEntry}
use Rattle.route_table.specs.Codec.{route_in}
use Rattle.route_table.specs.Table.{RouteTable, in_columns, rows_of}
use Rattle.route_table.specs.declared.Routes.{Routes}
use Rattle.route_table.specs.declared.RouteValues.{RouteValues}
use Rattle.route_table.specs.declared.RoutesSeen.{RoutesSeen}

-- the table that is lent, and its routes
abbrev pub table : Routes → RouteTable
table r = in_columns r.keys.now r.words.now r.usage.now r.count

abbrev pub routes_of : Routes → List RouteEntry
routes_of r = rows_of (table r)

abbrev pub value_table : RouteValues → RouteTable
value_table r = in_columns r.keys.now r.words.now r.usage.now r.count

abbrev pub value_routes : RouteValues → List RouteEntry
value_routes r = rows_of (value_table r)

abbrev pub seen_table : RoutesSeen → RouteTable
seen_table r = in_columns r.keys.now r.words.now r.usage.now r.count

abbrev pub seen_routes : RoutesSeen → List RouteEntry
seen_routes r = rows_of (seen_table r)

-- where a destination stands in a table, or would stand
abbrev pub place_in : RouteTable → ℕ → Result ℕ ℕ
place_in t k = place_of (take t.count t.keys) k

-- what is read from a place of a table
abbrev pub read_at : RouteTable → ℕ → RouteEntry
read_at t i = route_in (get_or t.keys i 0) (get_or t.words i 0) (get_or t.usage i 0)

-- the same memory is lent
pub record SameColumns (old new : Routes) : Type 0 where
  pub keys : new.keys.ghost_name ≡ old.keys.ghost_name
  pub words : new.words.ghost_name ≡ old.words.ghost_name
  pub usage : new.usage.ghost_name ≡ old.usage.ghost_name

-- each destination stands in its place
pub record SameKeys (old new : Routes) : Type 0 where
  pub keys : new.keys.now ≡ old.keys.now
  pub count : new.count ≡ old.count

-- the same memory is lent, and its routes are now xs
pub record Becomes (old new : Routes) (xs : List RouteEntry) : Type 0 where
  pub same : SameColumns old new
  pub routes : routes_of new ≡ xs

-- the same for a table whose values alone are lent for change: its keys and its count stay
pub record ValuesBecome (old new : RouteValues) (xs : List RouteEntry) : Type 0 where
  pub keys : new.keys ≡ old.keys
  pub words : new.words.ghost_name ≡ old.words.ghost_name
  pub usage : new.usage.ghost_name ≡ old.usage.ghost_name
  pub count : new.count ≡ old.count
  pub routes : value_routes new ≡ xs
