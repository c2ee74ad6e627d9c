-- The words that change the relay store itself, and `reset`.
-- The page of the language: "The script starts from the fresh state and a relay store of 2,048 zeros." Here a store may have more places
-- than are lent, so that a store of a wrong length can be lent on purpose.
-- Assumes nothing.
use Rattle.std.specs.Prelude.{ℕ, cond, List, [], ltb, leb, length, set, replicate}
use Rattle.numbers.specs.Said.{ok, bad, spoken}
use Rattle.numbers.specs.Read.{number_at, nwk_at}
use Rattle.world.specs.declared.World.{World}
use Rattle.world.specs.Worlds.{fresh_world}
use Rattle.store_words.specs.declared.Turn.{Turn}

-- `reset`: the fresh world, 2,048 places lent, and each place 0
abbrev pub reset_turn : Turn
reset_turn = record { world = fresh_world; length = 2048; answer = spoken (ok []) }

abbrev pub cleared : List ℕ → List ℕ
cleared store = replicate (length store) 0

-- `set_store place number`: a place that the store has
unfoldable pub set_turn : World → ℕ → List ℕ → List ℕ → Turn
set_turn w n args store = record { world = w; length = n; answer = cond (ltb (number_at args 0) (length store)) (spoken (ok [])) (spoken bad) }

abbrev pub stored : List ℕ → List ℕ → List ℕ
stored args store = set store (number_at args 0) (nwk_at args 1).0

-- `set_store_length n`: at most as many as the store has
unfoldable pub length_turn : World → ℕ → List ℕ → List ℕ → Turn
length_turn w n args store =
    cond (leb (number_at args 0) (length store))
    (record { world = w; length = number_at args 0; answer = spoken (ok []) })
    (record { world = w; length = n; answer = spoken bad })
