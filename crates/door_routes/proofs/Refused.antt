-- A refused call leaves the columns: what is refused for want of room leaves the rows, and rows of well-formed columns are the columns.
use Prim.Native.Nat.{ℕ, ◌<◌}
use native.Mathlib.Omega.{arith}
use mathlib.Core.List.{List}
use mathlib.Core.Path.{◌≡◌, refl, sym, ap}
use lib.Dec.{leb}
use lib.ListN.{length}
use Rattle.types.specs.declared.Nwk.{Nwk}
use Rattle.standard.specs.declared.RouteEntry.{RouteEntry}
use Rattle.standard.specs.Calls as calls
use Rattle.standard.proofs.Picked.{by-test}
use Rattle.route_table.specs.Table.{RouteTable}
use Rattle.route_table.proofs.Rows.{table-view}
use Rattle.route_calls.specs.Answer.{RouteStep, step_to}
use Rattle.routing.specs.declared.Routing.{Routing}
use Rattle.routing.specs.declared.DoneOutcome.{DoneOutcome}
use Rattle.routing.specs.Routes.{routes_in, with_routes, stepped_to, restore_route, note_relayed_discovery, remove_route}
use Rattle.routing.specs.State.{WellFormed, well_formed, route_table, discovery_table, record_table, with_tables}
use Rattle.routing.proofs.State.{state-told}
use Rattle.door.specs.Lent.{Counters}
use Rattle.door.specs.Places.{DoneMade, ToldMade, done_status}
use Rattle.door.proofs.Lent.{hands-first, refused-made, done-keeps, told-keeps}

-- a well-formed state is its routes, put back
whole : (s : Routing) → WellFormed s → s ≡ with_routes s (routes_in s)
whole s w = ap (λ (t : RouteTable). with_tables s t (discovery_table s) (record_table s)) (table-view (route_table s) w.routes)

-- what a call for a new route hands back where it is refused
abbrev Back : Routing → DoneOutcome → Type 0
Back s x = 0 < done_status x.answer → x.state ≡ s

stepped : (s : Routing) (xs : List RouteEntry) → WellFormed s → Back s (stepped_to s (step_to (routes_in s) xs))
unfolding step_to
stepped s xs w = by-test (λ (x : RouteStep). Back s (stepped_to s x)) (leb (length xs) 64) _ _ (λ _ p. absurd (omega arith)) (λ _. sym (whole s w))

module _ (before after : Counters → Routing) (r : ℕ) (p : 0 < r) (destination : Nwk) where
  pub restore-route-refused : (hop : Nwk) (cost : ℕ) → DoneMade (λ (s : Routing). restore_route s destination hop cost) before after r → (c : Counters) → after c ≡ before c
  unfolding restore_route
  restore-route-refused hop cost x c = (refused-made done-keeps (record { back = hands }) x p c).0 where
    hands : (s : Routing) → Back s (restore_route s destination hop cost)
    hands s = by-test (Back s) (well_formed s) _ _ (λ e. stepped s (calls.restore_route destination hop cost (routes_in s)) ((state-told s).fact e)) (λ _. refl)

  pub note-relayed-discovery-refused : DoneMade (λ (s : Routing). note_relayed_discovery s destination) before after r → (c : Counters) → after c ≡ before c
  unfolding note_relayed_discovery
  note-relayed-discovery-refused x c = (refused-made done-keeps (record { back = hands }) x p c).0 where
    hands : (s : Routing) → Back s (note_relayed_discovery s destination)
    hands s = by-test (Back s) (well_formed s) _ _ (λ e. stepped s (calls.note_relayed destination (routes_in s)) ((state-told s).fact e)) (λ _. refl)

  pub remove-route-refused : (old new : ℕ) → ToldMade (λ (s : Routing). remove_route s destination) before after old new r → (c : Counters) → (after c ≡ before c) × (new ≡ old)
  unfolding remove_route
  remove-route-refused old new x = refused-made told-keeps (hands-first well_formed _ _ (λ _. refl) (λ _. refl)) x p
