-- Each state is its fresh one.
use Rattle.world.proofs.fresh.Goals as goal

pub returns : goal.returns
returns c = λ z. record { routing = c.new-routing.ensures z; neighbors = c.new-neighbors.ensures z }
