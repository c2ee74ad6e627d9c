-- The two states side by side, and what a call leaves of them.
-- Assumes nothing.
use Rattle.routing.specs.declared.Routing.{Routing}
use Rattle.routing.specs.State as routing
use Rattle.neighbors.specs.declared.Neighbors.{Neighbors}
use Rattle.neighbors.specs.State as neighbors
use Rattle.numbers.specs.declared.Answer.{Answer}
use Rattle.world.specs.declared.World.{World}
use Rattle.world.specs.declared.Reply.{Reply}

-- both states fresh
abbrev pub fresh_world : World
fresh_world = record { routing = routing.fresh; neighbors = neighbors.fresh }

-- a question: the world stays
abbrev pub asked : World → Answer → Reply
asked w answer = record { world = w; answer = answer }

-- a call on the routing state
abbrev pub routed : World → Routing → Answer → Reply
routed w s answer = record { world = record { routing = s; neighbors = w.neighbors }; answer = answer }

-- a call on the neighbours
abbrev pub neighboured : World → Neighbors → Answer → Reply
neighboured w s answer = record { world = record { routing = w.routing; neighbors = s }; answer = answer }
