-- A table that is not well formed and one with no room are told; else the entry is put at its place, and the columns are those of the rows.
-- Assumes nothing.
use mathlib.Core.Bool.{true}
use mathlib.Core.Path.{◌≡◌, sym, ap, ◌∙◌}
use lib.Dec.{leb}
use lib.ListN.{length}
use borrow.Author.Tests.{not-true, not-false, leb-true}
use Rattle.standard.specs.Ordered.{count_with}
use Rattle.standard.specs.Discovery.{discovery_key}
use Rattle.discovery_table.specs.Table.{DiscoveryTable, well_formed, rows_of}
use Rattle.discovery_table.specs.Lent.{place_in}
use Rattle.discovery_table.proofs.Lent.{holds}
use Rattle.discovery_table.proofs.Rows.{well-formed-told}
use Rattle.route_loads.proofs.Room.{discovery-room, held-discoveries}
use Rattle.routing.specs.State.{discovery_table}
use Rattle.route_loads.specs.Loads.{loaded, discovery_put}
use borrow.Author.Rules.{rules}
use Rattle.route_loads.proofs.load_discovery.Goals as goal
use Rattle.route_loads.proofs.load_discovery.Goals.{Start, Else-not-well_formed, After-has_room}

long : (c : Start) → (length c.args.s.discovery_keys ≡ 32) × (length c.args.s.discovery_words ≡ 32) × (length c.args.s.discovery_ends ≡ 32)
long c = (search rules, search rules, search rules)

good : (c : Else-not-well_formed) → well_formed (discovery_table c.args.s) ≡ true
good c = sym c.well_formed-2.ensures ∙ not-false _ c.if-not-well_formed.false-raw

room : (c : After-has_room) → leb (count_with discovery_key (discovery_key c.args.e) (rows_of (discovery_table c.args.s))) 32 ≡ c.has_room.result
room c = discovery-room (discovery_table c.args.s) ((well-formed-told (discovery_table c.args.s)).fact (sym c.well_formed-2.ensures ∙ not-false _ c.if-not-well_formed.false-raw)) (discovery_key c.args.e) c.place_of-place.result (c.place_of-place.ensures ∙ ap (λ (t : DiscoveryTable). place_in t (discovery_key c.args.e)) c.seen.ensures) ∙ sym c.has_room.ensures

pub slice_bounds-well_formed-end : goal.slice_bounds-well_formed-end
slice_bounds-well_formed-end c = sym (long (goal.at.slice_bounds-well_formed-end c).Start).0

pub slice_bounds-well_formed-end-2 : goal.slice_bounds-well_formed-end-2
slice_bounds-well_formed-end-2 c = sym (long (goal.at.slice_bounds-well_formed-end-2 c).Start).1

pub slice_bounds-well_formed-end-3 : goal.slice_bounds-well_formed-end-3
slice_bounds-well_formed-end-3 c = sym (long (goal.at.slice_bounds-well_formed-end-3 c).Start).2

pub returns-then-not-well_formed : goal.returns-then-not-well_formed
unfolding discovery_put
returns-then-not-well_formed c = rw (sym c.well_formed-2.ensures ∙ not-true _ c.if-not-well_formed.true-raw) c.no_call.ensures

pub returns-then-not-has_room : goal.returns-then-not-has_room
unfolding discovery_put
returns-then-not-has_room c = rw (good (goal.at.returns-then-not-has_room c).Else-not-well_formed, room (goal.at.returns-then-not-has_room c).After-has_room ∙ not-true _ c.if-not-has_room.true-raw) c.no_call-then-not-has_room.ensures

pub invariant_of-discoveries : goal.invariant_of-discoveries
invariant_of-discoveries c = record { formed = good (goal.at.invariant_of-discoveries c).Else-not-well_formed }

pub put_at-requires : goal.put_at-requires
put_at-requires c = (c.place_of-place.ensures ∙ ap (λ (t : DiscoveryTable). place_in t (discovery_key c.args.e)) c.seen.ensures, leb-true _ 32 (room (goal.at.put_at-requires c).After-has_room ∙ not-false _ c.if-not-has_room.false-raw))

pub returns : goal.returns
unfolding discovery_put
returns c =
    rw (good (goal.at.returns c).Else-not-well_formed, room (goal.at.returns c).After-has_room ∙ not-false _ c.if-not-has_room.false-raw)
    (c.load.ensures ∙ ap (λ x. loaded x) (held-discoveries c.args.s _ _ (holds c.put_at.new.self _ c.put_at.ensures.discoveries)))
