-- The choice of the way of a unicast, from rows: the first of six steps that chooses, and what is left where none does. The header and the relays are not
-- read for it. What is made of the choice is the decision of document 01, which stands in next_hop/specs/Decision.antt: next_hop/proofs/Chosen.antt.
-- Assumes nothing.
use Rattle.std.specs.Prelude.{ℕ, Bool, cond, not, ◌&&◌, List, [], ◌∷◌, eqb, ltb, take, get_or, Option, Some, None, Result, Ok, Err}
use Rattle.types.specs.declared.Nwk.{Nwk}
use Rattle.types.specs.declared.Refusal.TheVariants.{EmptySourceRoute}
use Rattle.standard.specs.declared.RouteEntry.{RouteEntry}
use Rattle.standard.specs.Calls.{hop_at}
use Rattle.standard.specs.Query.{some_fits}
use Rattle.flat_map.specs.Seek.{place_of}
use Rattle.record_table.specs.Table.{RecordTable}
use Rattle.route_calls.specs.Answer.{hop_answer}
use Rattle.neighbor_table.specs.declared.NeighborEntry.{NeighborEntry}
use Rattle.neighbor_queries.specs.declared.Filter.TheVariants.{EndDeviceChildAt}
use Rattle.neighbor_queries.specs.Filter.{fits}
use Rattle.hop_choice.specs.declared.HostRoute.{HostRoute}
use Rattle.hop_choice.specs.declared.HostRoute.TheVariants as host
use Rattle.hop_choice.specs.declared.RouteDirective.{RouteDirective}
use Rattle.hop_choice.specs.declared.RouteDirective.TheVariants.{StackDecides, Hint, Force}
use Rattle.hop_choice.specs.declared.SendKind.{SendKind}
use Rattle.hop_choice.specs.declared.SendKind.TheVariants.{Direct, Route}
use Rattle.hop_choice.specs.declared.Policy.{Policy}
use Rattle.hop_choice.specs.declared.RecordSays.{RecordSays}
use Rattle.hop_choice.specs.declared.RecordSays.TheVariants as says
use Rattle.hop_choice.specs.declared.Choice.{Choice}
use Rattle.hop_choice.specs.declared.Choice.TheVariants.{Hop, ByRecord, ByHost, NeedDiscovery, Discard}
use Rattle.types.specs.declared.Refusal.{Refusal}

-- the first step that gives an answer, or what is left
abbrev pub first_of : {X : Type 0} → List (Option X) → X → X
first_of [] last = last
first_of (None ∷ steps) last = first_of steps last
first_of (Some x ∷ steps) last = x

-- a host route of a number of relays; 7, "an empty host source route is the one to be applied (the Rust unwraps)"
abbrev pub host_choice : ℕ → HostRoute → Result Choice Refusal
host_choice relays (host.NextHop n) = Ok (Hop n)
host_choice relays host.SourceRoute = cond (eqb relays 0) (Err EmptySourceRoute) (Ok ByHost)

abbrev pub direct_step : Nwk → SendKind → Option (Result Choice Refusal)
direct_step d Direct = Some (Ok (Hop d))
direct_step d (Route w) = None

abbrev pub forced_step : ℕ → SendKind → Option (Result Choice Refusal)
forced_step relays Direct = None
forced_step relays (Route StackDecides) = None
forced_step relays (Route (Hint r)) = None
forced_step relays (Route (Force r)) = Some (host_choice relays r)

abbrev pub child_step : List NeighborEntry → Nwk → Option (Result Choice Refusal)
child_step neighbors d = cond (some_fits (fits (EndDeviceChildAt d)) neighbors) (Some (Ok (Hop d))) None

-- "an empty record is direct; fewer relays than the limit give a source route", by the row of the record and the column of lengths
abbrev pub says_at : ℕ → List ℕ → Result ℕ ℕ → RecordSays
says_at limit lengths (Err i) = says.Nothing
says_at limit lengths (Ok i) = cond (eqb (get_or lengths i 0) 0) says.Direct (cond (ltb (get_or lengths i 0) limit) (says.Row i) says.Nothing)

-- what the record of a destination says, where it is asked: "Force-discovery skips the two table steps only."
unfoldable pub record_says : Policy → RecordTable → Nwk → RecordSays
record_says p t d =
    cond (p.is_concentrator && not p.force_route_discovery)
    (says_at p.max_source_route t.lengths (place_of (take t.count t.keys) d.0))
    says.Nothing

abbrev pub record_step : Nwk → RecordSays → Option (Result Choice Refusal)
record_step d says.Nothing = None
record_step d says.Direct = Some (Ok (Hop d))
record_step d (says.Row i) = Some (Ok (ByRecord i))

-- what the look-up of an Active route says: a hop, 6 for 0xFFFF, or nothing
abbrev pub hop_step : Result (Option Nwk) Refusal → Option (Result Choice Refusal)
hop_step (Ok None) = None
hop_step (Ok (Some n)) = Some (Ok (Hop n))
hop_step (Err why) = Some (Err why)

unfoldable pub active_step : List RouteEntry → Nwk → Policy → Option (Result Choice Refusal)
active_step routes d p = cond p.force_route_discovery None (hop_step (hop_answer (hop_at d.0 routes)))

abbrev pub hint_step : ℕ → SendKind → Option (Result Choice Refusal)
hint_step relays Direct = None
hint_step relays (Route StackDecides) = None
hint_step relays (Route (Hint r)) = Some (host_choice relays r)
hint_step relays (Route (Force r)) = None

abbrev pub undiscovered : Bool → Result Choice Refusal
undiscovered suppressed = cond suppressed (Ok Discard) (Ok NeedDiscovery)

-- what is left after the first steps: the answers of the functions that the code is made of
abbrev pub hinted : ℕ → Bool → RouteDirective → Result Choice Refusal
hinted relays suppressed w = first_of (hint_step relays (Route w) ∷ []) (undiscovered suppressed)

abbrev pub hopped : ℕ → Bool → RouteDirective → Result (Option Nwk) Refusal → Result Choice Refusal
hopped relays suppressed w found = first_of (hop_step found ∷ hint_step relays (Route w) ∷ []) (undiscovered suppressed)

abbrev pub routed : List RouteEntry → Nwk → Policy → ℕ → Bool → RouteDirective → Result Choice Refusal
routed routes d p relays suppressed w = first_of (active_step routes d p ∷ hint_step relays (Route w) ∷ []) (undiscovered suppressed)

abbrev pub tabled : List RouteEntry → RecordTable → Nwk → Policy → ℕ → Bool → RouteDirective → Result Choice Refusal
tabled routes t d p relays suppressed w =
    first_of (record_step d (record_says p t d) ∷ active_step routes d p ∷ hint_step relays (Route w) ∷ []) (undiscovered suppressed)

-- the whole choice: routes, records and neighbours; the destination, the policy, how many relays the host names, whether discovery is suppressed, and the kind
-- of sending
unfoldable pub chosen : List RouteEntry → RecordTable → List NeighborEntry → Nwk → Policy → ℕ → Bool → SendKind → Result Choice Refusal
chosen routes t neighbors d p relays suppressed kind =
    first_of
    (direct_step d kind
    ∷ forced_step relays kind
    ∷ child_step neighbors d
    ∷ record_step d (record_says p t d)
    ∷ active_step routes d p
    ∷ hint_step relays kind
    ∷ [])
    (undiscovered suppressed)
