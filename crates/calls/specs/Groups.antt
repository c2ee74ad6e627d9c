-- The call of each number: its group by a table, and the call in its group. And the lines that print the world.
-- Assumes nothing.
use Rattle.std.specs.Prelude.{ℕ, cond, List, [], ◌∷◌, ◌++◌, eqb, ltb, get_or}
use Rattle.numbers.specs.Said.{Said, ok, bad, spoken}
use Rattle.routing.specs.declared.Routing.{Routing}
use Rattle.neighbors.specs.declared.Neighbors.{Neighbors}
use Rattle.route_loads.specs.declared.RoutingReply.{RoutingReply}
use Rattle.route_loads.specs.Prints.{routing_lines}
use Rattle.neighbor_loads.specs.declared.NeighborsReply.{NeighborsReply}
use Rattle.neighbor_loads.specs.Prints.{neighbor_lines}
use Rattle.world.specs.declared.World.{World}
use Rattle.world.specs.declared.Reply.{Reply}
use Rattle.world.specs.Worlds.{fresh_world, asked, routed, neighboured}
use Rattle.routing_groups.specs.Groups.{ask_routing, ask_records, change_routes, change_searches, load_routes, change_records, store_after_call}
use Rattle.neighbor_groups.specs.Groups.{ask_neighbors, ask_children, list_neighbors, note_neighbors, change_children, load_neighbors}
use Rattle.decision_lines.specs.Lines.{decide_by}

-- the group of each number: 1 to 6 ask, 7 to 10 change the routing state, 11 to 13 the neighbours, and 14 makes both fresh; 0 for what is no call here
unfoldable pub groups : List ℕ
groups = 14 ∷ 0 ∷ 1 ∷ 10 ∷ 10 ∷ 10 ∷ 7 ∷ 13 ∷ 13 ∷ 8 ∷ 8 ∷ 8 ∷ 1 ∷ 1 ∷ 1 ∷ 1 ∷ 8 ∷ 8 ∷ 8 ∷ 8 ∷ 8 ∷ 9 ∷ 7 ∷ 7 ∷ 9 ∷ 9 ∷ 1 ∷ 5 ∷ 5 ∷ 9 ∷ 9 ∷ 9 ∷ 9 ∷ 2 ∷ 11 ∷ 2 ∷ 2 ∷ 2 ∷ 4 ∷ 4 ∷ 4 ∷ 2 ∷ 2 ∷ 2 ∷ 4 ∷ 3 ∷ 3 ∷ 3 ∷ 12 ∷ 12 ∷ 11 ∷ 12 ∷ 4 ∷ 3 ∷ 12 ∷ 12 ∷ 12 ∷ 3 ∷ 12 ∷ 11 ∷ 3 ∷ 4 ∷ 4 ∷ 11 ∷ 11 ∷ 11 ∷ 11 ∷ 12 ∷ 6 ∷ 6 ∷ 6 ∷ 1 ∷ 1 ∷ 1 ∷ 5 ∷ 10 ∷ 10 ∷ 10 ∷ 13 ∷ 13 ∷ 10 ∷ 10 ∷ 10 ∷ 13 ∷ 13 ∷ 0 ∷ 0 ∷ []

unfoldable pub group_of : ℕ → ℕ
group_of n = get_or groups n 0

-- a call that asks
unfoldable pub ask_by : World → ℕ → ℕ → List ℕ → List ℕ → Said
ask_by w g n args store =
    cond (eqb g 1) (ask_routing w.routing n args)
    (cond (eqb g 2) (ask_neighbors w.neighbors n args)
    (cond (eqb g 3) (ask_children w.neighbors n args)
    (cond (eqb g 4) (list_neighbors w.neighbors n args)
    (cond (eqb g 5) (ask_records w.routing n args store)
    (cond (eqb g 6) (decide_by w.routing w.neighbors n args store)
    bad)))))

-- a call that changes the routing state and is not lent the store
unfoldable pub routes_by : Routing → ℕ → ℕ → List ℕ → RoutingReply
routes_by s g n args = cond (eqb g 8) (change_routes s n args) (cond (eqb g 9) (change_searches s n args) (load_routes s n args))

-- a call that changes the neighbours
unfoldable pub neighbors_by : Neighbors → ℕ → ℕ → List ℕ → NeighborsReply
neighbors_by s g n args = cond (eqb g 11) (note_neighbors s n args) (cond (eqb g 12) (change_children s n args) (load_neighbors s n args))

-- what a call on one state leaves of the world
abbrev pub routed_by : World → RoutingReply → Reply
routed_by w x = routed w x.state x.answer

abbrev pub neighboured_by : World → NeighborsReply → Reply
neighboured_by w x = neighboured w x.state x.answer

-- a call by its group
unfoldable pub call_by : World → ℕ → ℕ → List ℕ → List ℕ → Reply
call_by w g n args store =
    cond (ltb g 7) (asked w (spoken (ask_by w g n args store)))
    (cond (eqb g 7) (routed_by w (change_records w.routing n args store))
    (cond (ltb g 11) (routed_by w (routes_by w.routing g n args))
    (cond (ltb g 14) (neighboured_by w (neighbors_by w.neighbors g n args))
    (asked fresh_world (spoken (ok []))))))

-- The call of a number, and the store after it.
unfoldable pub call_of : World → ℕ → List ℕ → List ℕ → Reply
call_of w n args store = call_by w (group_of n) n args store

unfoldable pub store_of : World → ℕ → List ℕ → List ℕ → List ℕ
store_of w n args store = cond (eqb (group_of n) 7) (store_after_call w.routing n args store) store

-- the lines that print the world: counters, routes, discoveries, records, neighbours, waiting
unfoldable pub world_lines : World → List ℕ → List (List ℕ)
world_lines w store = routing_lines w.routing store ++ neighbor_lines w.neighbors
