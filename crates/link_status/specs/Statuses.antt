-- What the statuses of a command add up to.
-- Document 01, "Decision (001) and neighbours (003)": "Entries with outgoing cost above 0 add 7 less the larger cost, stopping at
-- 255; diversity adds only for addresses without a live link before the call. A mention of the own address makes its incoming cost
-- our outgoing cost; the last mention wins."
-- Assumes nothing.
use Rattle.std.specs.Prelude.{ℕ, ◌+◌, ◌-◌, ◌*◌, min, max, Bool, cond, not, ◌&&◌, List, [], ◌∷◌, eqb, leb, ltb, take}
use Rattle.types.specs.declared.Nwk.{Nwk}
use Rattle.standard.specs.Query.{some_fits}
use Rattle.neighbor_table.specs.declared.NeighborEntry.{NeighborEntry}
use Rattle.neighbor_queries.specs.declared.Filter.TheVariants.{LiveLinkAt}
use Rattle.neighbor_queries.specs.declared.LinkStatus.{LinkStatus}
use Rattle.neighbor_queries.specs.Filter.{fits, is_live}
use Rattle.link_status.specs.declared.LinkStatusCommand.{LinkStatusCommand}
use Rattle.link_status.specs.declared.Tally.{Tally}

-- the statuses that a command holds
abbrev pub statuses_of : LinkStatusCommand → List LinkStatus
statuses_of command = take command.count command.statuses

-- both costs are at most 7
unfoldable pub costs_fit : LinkStatus → Bool
costs_fit status = leb status.incoming_cost 7 && leb status.outgoing_cost 7

-- "7 less the larger cost"
abbrev pub worth : LinkStatus → ℕ
worth status = 7 - max status.incoming_cost status.outgoing_cost

-- an address has a live link
abbrev pub is_live_at : List NeighborEntry → Nwk → Bool
is_live_at xs nwk = some_fits (fits (LiveLinkAt nwk)) xs

-- an address doubled, and one more where the link to it is live
abbrev pub live_number : NeighborEntry → ℕ
live_number e = cond (is_live e) (e.network_address.0 * 2 + 1) (e.network_address.0 * 2)

-- a number is among numbers
abbrev pub among : ℕ → List ℕ → Bool
among x xs = some_fits (λ y. eqb y x) xs

-- one status more
unfoldable pub counted : Nwk → Bool → LinkStatus → Tally → Tally
counted own live status x = record {
  connectivity = cond (ltb 0 status.outgoing_cost) (min (x.connectivity + worth status) 255) x.connectivity;
  diversity = cond (ltb 0 status.outgoing_cost && not live) (min (x.diversity + worth status) 255) x.diversity;
  cost = cond (eqb status.address.0 own.0) status.incoming_cost x.cost;
}

-- all of a list, in its order
abbrev pub tallied : Nwk → (Nwk → Bool) → List LinkStatus → Tally → Tally
tallied own live [] x = x
tallied own live (status ∷ rest) x = tallied own live rest (counted own (live status.address) status x)
