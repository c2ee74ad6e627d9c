-- How many lines each table has, and how many there are in all; and which line stands at a place in use.
-- Only the number of places counts: a table is read to its count or its last place, whatever its columns hold.
use Prim.Native.Nat.{ℕ, ◌<◌, min}
use mathlib.Core.List.{List, [], ◌∷◌}
use mathlib.Core.Path.{◌≡◌, ap, ◌∙◌}
use native.Mathlib.Omega.{arith}
use lib.ListN.{length, get_or, length-append}
use Rattle.numbers.specs.Said.{ok}
use Rattle.standard.specs.declared.RouteEntry.{RouteEntry}
use Rattle.standard.specs.declared.DiscoveryEntry.{DiscoveryEntry}
use Rattle.standard.specs.declared.RecordEntry.{RecordEntry}
use Rattle.lines.specs.Lines.{line_said}
use Rattle.lines.proofs.Lines.{many-lines, each-lines, line-here, each-here}
use Rattle.columns.specs.Columns.{entries}
use Rattle.columns.proofs.Places.{entries-length, entry_at}
use Rattle.route_table.specs.Codec.{route_of, route_in}
use Rattle.route_table.specs.Table as routes
use Rattle.discovery_table.specs.Codec.{discovery_of, discovery_in}
use Rattle.discovery_table.specs.Table as discoveries
use Rattle.record_table.specs.Codec.{record_of, record_in}
use Rattle.record_table.specs.Table as records
use Rattle.routing.specs.declared.Routing.{Routing}
use Rattle.routing.specs.State.{route_table, discovery_table, record_table}
use Rattle.route_loads.specs.Prints.{route_line, discovery_line, record_line, route_lines, discovery_lines, record_lines, after_routes, routing_lines, line_count}

-- the routes
module _ (t : routes.RouteTable) where
  abbrev route_entries : List RouteEntry
  route_entries = entries route_of 64 (t.keys ∷ t.words ∷ t.usage ∷ [])

  pub route-count : length (route_lines t) ≡ min t.count 64
  unfolding route_lines
  route-count = many-lines route_line t.count route_entries ∙ ap (min t.count) (entries-length route_of 64 (t.keys ∷ t.words ∷ t.usage ∷ []))

  pub route-here : (i : ℕ) → i < min t.count 64 → line_said (route_lines t) i ≡ ok (route_line (route_in (get_or t.keys i 0) (get_or t.words i 0) (get_or t.usage i 0)))
  unfolding route_lines
  route-here i h =
      line-here routes.blank_route route_line t.count route_entries i (rw (entries-length route_of 64 (t.keys ∷ t.words ∷ t.usage ∷ [])) h)
      ∙ ap (λ e. ok (route_line e)) (entry_at route_of 64 (t.keys ∷ t.words ∷ t.usage ∷ []) i routes.blank_route (omega arith))

-- the discoveries
module _ (t : discoveries.DiscoveryTable) where
  abbrev discovery_entries : List DiscoveryEntry
  discovery_entries = entries discovery_of 32 (t.keys ∷ t.words ∷ t.ends ∷ [])

  pub discovery-count : length (discovery_lines t) ≡ min t.count 32
  unfolding discovery_lines
  discovery-count = many-lines discovery_line t.count discovery_entries ∙ ap (min t.count) (entries-length discovery_of 32 (t.keys ∷ t.words ∷ t.ends ∷ []))

  pub discovery-here : (i : ℕ) → i < min t.count 32
      → line_said (discovery_lines t) i ≡ ok (discovery_line (discovery_in (get_or t.keys i 0) (get_or t.words i 0) (get_or t.ends i 0)))
  unfolding discovery_lines
  discovery-here i h =
      line-here discoveries.blank_discovery discovery_line t.count discovery_entries i (rw (entries-length discovery_of 32 (t.keys ∷ t.words ∷ t.ends ∷ [])) h)
      ∙ ap (λ e. ok (discovery_line e)) (entry_at discovery_of 32 (t.keys ∷ t.words ∷ t.ends ∷ []) i discoveries.blank_discovery (omega arith))

-- the records, whose relays are in a store
module _ (t : records.RecordTable) (store : List ℕ) where
  abbrev record_entries : List RecordEntry
  record_entries = entries record_of 64 (t.keys ∷ t.lengths ∷ [])

  pub record-count : length (record_lines t store) ≡ min t.count 64
  unfolding record_lines
  record-count = each-lines (record_line store) t.count record_entries ∙ ap (min t.count) (entries-length record_of 64 (t.keys ∷ t.lengths ∷ []))

  pub record-here : (i : ℕ) → i < min t.count 64 → line_said (record_lines t store) i ≡ ok (record_line store i (record_in (get_or t.keys i 0) (get_or t.lengths i 0)))
  unfolding record_lines
  record-here i h =
      each-here records.blank_record (record_line store) t.count record_entries i (rw (entries-length record_of 64 (t.keys ∷ t.lengths ∷ [])) h)
      ∙ ap (λ e. ok (record_line store i e)) (entry_at record_of 64 (t.keys ∷ t.lengths ∷ []) i records.blank_record (omega arith))

pub line-count : (s : Routing) (store : List ℕ) → length (routing_lines s store) ≡ line_count s
unfolding routing_lines after_routes
line-count s store =
    let r = route_lines (route_table s) in
    let d = discovery_lines (discovery_table s) in
    let k = record_lines (record_table s) store in
    omega (arith, length-append r (after_routes s store), length-append d k, route-count (route_table s), discovery-count (discovery_table s), record-count (record_table s) store)
