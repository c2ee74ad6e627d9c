-- The variant decides, as the definition goes; a status and a flag by their numbers.
use mathlib.Core.Path.{sym, ap, ◌∙◌}
use Rattle.door_rows.specs.Rows.{route_places, route_at_places}
use Rattle.door_rows.proofs.route_places.Goals as goal

pub returns-in-None : goal.returns-in-None
returns-in-None c = ap route_places (sym c.in-None.is)

pub returns-in-Some : goal.returns-in-Some
returns-in-Some c =
    let e = c.in-Some.e in
    (λ z. route_at_places 1 e.destination.0 (c.status_number.ensures z) (c.flag.ensures z) (c.flag-in-Some.ensures z) (c.flag-in-Some-2.ensures z) (c.flag-in-Some-3.ensures z) e.next_hop_address.0 e.path_cost e.total_usage_count e.recent_activity)
    ∙ ap route_places (sym c.in-Some.is)
