-- P9: "relays [S] from S, twice: changed both times."
-- S as a relay gets the empty record, so that S's record after the relays are written always differs from [S]: so it is whatever
-- records are held, those after the first time among them.
use mathlib.Core.Bool.{true}
use mathlib.Core.List.{List, [], ◌∷◌}
use mathlib.Core.Path.{◌≡◌, ap}
use Rattle.types.specs.declared.Nwk.{Nwk}
use Rattle.standard.specs.Records.{RouteRecord, address_key, record_for, relays_stored, other_relays, record_changed}
use Rattle.flat_map.proofs.Ordered.{lookup-put-same}

pub p9-changed : (s : Nwk) (xs : List RouteRecord) → record_changed s (s ∷ []) xs ≡ true
unfolding record_changed relays_stored
p9-changed s xs = ap (other_relays (s ∷ [])) (lookup-put-same address_key (record_for s []) xs)
