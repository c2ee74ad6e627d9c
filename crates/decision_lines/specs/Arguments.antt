-- The mode and the policy of a decision, read from numbers.
-- MODE: 0 direct | 1 stack | 2 hop (hint) | 3 LIST (hint) | 4 hop (force) | 5 LIST (force). A number past the last is as the last.
-- Assumes nothing.
use Rattle.std.specs.Prelude.{ℕ, ◌+◌, min, List, [], ◌∷◌, get_or}
use Rattle.types.specs.declared.Nwk.{Nwk}
use Rattle.numbers.specs.Read.{number_at, byte_at, flag_at, nwk_at}
use Rattle.route_args.specs.Read.{relays_at}
use Rattle.hop_choice.specs.declared.HostRoute.TheVariants.{NextHop, SourceRoute}
use Rattle.hop_choice.specs.declared.RouteDirective.TheVariants.{StackDecides, Hint, Force}
use Rattle.hop_choice.specs.declared.SendKind.{SendKind}
use Rattle.hop_choice.specs.declared.SendKind.TheVariants.{Direct, Route}
use Rattle.next_hop.specs.declared.SendMode.{SendMode}
use Rattle.hop_choice.specs.declared.Policy.{Policy}

-- the kinds in the order of their numbers, for a hop that may be named
abbrev pub kinds : Nwk → List SendKind
kinds hop =
    Direct
    ∷ Route StackDecides
    ∷ Route (Hint (NextHop hop))
    ∷ Route (Hint SourceRoute)
    ∷ Route (Force (NextHop hop))
    ∷ Route (Force SourceRoute)
    ∷ []

abbrev pub kind_of : ℕ → Nwk → SendKind
kind_of n hop = get_or (kinds hop) (min n 5) Direct

-- the relays count only where a source route is named
abbrev pub mode_at : List ℕ → ℕ → SendMode
mode_at args i = record { kind = kind_of (number_at args i) (nwk_at args (i + 1)); relays = relays_at args (i + 1) }

-- how many numbers each kind takes, where a list has c; a script's list has 80 at most
abbrev pub lengths : ℕ → List ℕ
lengths c = 1 ∷ 1 ∷ 2 ∷ (2 + c) ∷ 2 ∷ (2 + c) ∷ []

abbrev pub length_of : ℕ → ℕ → ℕ
length_of n c = get_or (lengths c) (min n 5) 0

-- the place after a mode
unfoldable pub past_mode : List ℕ → ℕ → ℕ
past_mode args i = i + length_of (number_at args i) (min (number_at args (i + 1)) 80)

-- CONC FORCE MAX
abbrev pub policy_of : List ℕ → Policy
policy_of args = record { is_concentrator = flag_at args 0; force_route_discovery = flag_at args 1; max_source_route = byte_at args 2 }
