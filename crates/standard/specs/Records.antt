-- Route records as mathematics: an ordered map from an address to the relays of the way to it, the one next to that address first.
-- Document 01, "Route rules", "Route record" and "Route to D"; 05-3474 sections 3.6.4.5.5 (route record) and 3.6.4.3.1 (source routes).
-- Assumes nothing.
use Rattle.std.specs.Prelude.{ℕ, ◌≤◌, Bool, true, false, cond, not, ◌&&◌, List, [], ◌∷◌, eqb, ltb, length, Option, Some, None}
use Rattle.types.specs.declared.Nwk.{Nwk}
use Rattle.standard.specs.declared.RecordRoute.{RecordRoute}
use Rattle.standard.specs.declared.RecordRoute.TheVariants.{Direct, SourceRoute}
use Rattle.standard.specs.Ordered.{lookup, put}

pub record RouteRecord : Type 0 where
  pub destination : Nwk
  pub relays : List Nwk

-- records are ordered by address
abbrev pub address_key : RouteRecord → ℕ
address_key x = x.destination.0

abbrev pub record_for : Nwk → List Nwk → RouteRecord
record_for d relays = record { destination = d; relays = relays }

-- a record has at most 32 relays
abbrev pub ShortWay : RouteRecord → Type 0
ShortWay x = length x.relays ≤ 32

-- "each r(i) gets r(i+1)..rn in order of i"
unfoldable pub relays_stored : List Nwk → List RouteRecord → List RouteRecord
relays_stored [] xs = xs
relays_stored (r ∷ rs) xs = relays_stored rs (put address_key (record_for r rs) xs)

-- "then S gets the whole"
unfoldable pub record_stored : Nwk → List Nwk → List RouteRecord → List RouteRecord
record_stored source relays xs = put address_key (record_for source relays) (relays_stored relays xs)

abbrev pub same_relays : List Nwk → List Nwk → Bool
same_relays [] [] = true
same_relays [] (b ∷ s) = false
same_relays (a ∷ r) [] = false
same_relays (a ∷ r) (b ∷ s) = eqb a.0 b.0 && same_relays r s

-- there is no record, or it names other relays
abbrev pub other_relays : List Nwk → Option RouteRecord → Bool
other_relays relays None = true
other_relays relays (Some x) = not (same_relays x.relays relays)

-- "'Changed' compares S's record after the relays are written."
unfoldable pub record_changed : Nwk → List Nwk → List RouteRecord → Bool
record_changed source relays xs = other_relays relays (lookup address_key source.0 (relays_stored relays xs))

-- what a record says of the way, and the relays of a source route
pub record Way : Type 0 where
  pub route : Option RecordRoute
  pub relays : List Nwk

abbrev pub no_way : Way
no_way = record { route = None; relays = [] }

-- "an empty record is direct; fewer relays than the limit give a source route; else the Active route", which no record names
abbrev pub way_by : ℕ → Option RouteRecord → Way
way_by limit None = no_way
way_by limit (Some x) =
    cond (eqb (length x.relays) 0)
    (record { route = Some Direct; relays = [] })
    (cond (ltb (length x.relays) limit) (record { route = Some SourceRoute; relays = x.relays }) no_way)
