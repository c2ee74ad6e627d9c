-- Worked rows of the record rules: duplicates in one list, a source among its relays, an empty list, 33 new addresses at once,
-- a full table with known addresses.
use Prim.Native.Nat.{ℕ, zero, suc, ◌+◌}
use mathlib.Core.Bool.{true, false}
use mathlib.Core.List.{List, [], ◌∷◌}
use mathlib.Core.Path.{◌≡◌, refl}
use lib.ListN.{length}
use Rattle.types.specs.declared.Nwk.{Nwk}
use Rattle.standard.specs.Ordered.{lookup, put}
use Rattle.standard.specs.Records.{RouteRecord, record_for, relays_stored, record_stored, record_changed}
use Rattle.standard.specs.Route.{nwk}

-- duplicates in one list, [1,2,1] from 9: the last occurrence wins
pub twice : record_stored (nwk 9) (nwk 1 ∷ nwk 2 ∷ nwk 1 ∷ []) [] ≡ record_for (nwk 1) [] ∷ record_for (nwk 2) (nwk 1 ∷ []) ∷ record_for (nwk 9) (nwk 1 ∷ nwk 2 ∷ nwk 1 ∷ []) ∷ []
unfolding record_stored relays_stored put
twice = refl

-- the source in the middle of its relays: it keeps the whole, and is changed each time
abbrev looped : List RouteRecord
looped = record_stored (nwk 2) (nwk 1 ∷ nwk 2 ∷ nwk 3 ∷ []) []

pub source-among : record_changed (nwk 2) (nwk 1 ∷ nwk 2 ∷ nwk 3 ∷ []) looped ≡ true
unfolding record_changed record_stored relays_stored put lookup
source-among = refl

-- an empty list is changed the first time only
pub empty-first : record_changed (nwk 7) [] [] ≡ true
unfolding record_changed relays_stored lookup
empty-first = refl

pub empty-again : record_changed (nwk 7) [] (record_stored (nwk 7) [] []) ≡ false
unfolding record_changed record_stored relays_stored put lookup
empty-again = refl

-- n addresses, one after the other
abbrev run : ℕ → ℕ → List Nwk
run zero k = []
run (suc n) k = nwk k ∷ run n (k + 1)

-- 33 new addresses at once
abbrev many : List RouteRecord
many = record_stored (nwk 33) (run 32 1) []

pub new-33 : length many ≡ 33
unfolding record_stored relays_stored put
new-33 = refl

-- 31 more fill the table; known addresses want no place, and one new address one too many
abbrev full : List RouteRecord
full = record_stored (nwk 90) (run 30 40) many

pub full-64 : length full ≡ 64
unfolding record_stored relays_stored put
full-64 = refl

pub known-64 : length (record_stored (nwk 33) (run 32 1) full) ≡ 64
unfolding record_stored relays_stored put
known-64 = refl

pub new-65 : length (record_stored (nwk 34) (run 32 1) full) ≡ 65
unfolding record_stored relays_stored put
new-65 = refl
