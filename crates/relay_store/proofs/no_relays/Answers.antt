-- An array of zero addresses names no relay.
-- Assumes nothing.
use mathlib.Core.Path.{refl}
use Rattle.relay_store.specs.Store.{relay_list}
use Rattle.relay_store.proofs.no_relays.Goals as goal

pub returns : goal.returns
unfolding relay_list
returns c = refl
