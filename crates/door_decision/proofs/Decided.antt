-- The choice on rows can be made, and what is made of it is the decision in every header that has the fields that are lent: of the header the choice read the
-- number of a field, and of the host's relays how many there are.
use Rattle.std.specs.Prelude.{Result}
use Prim.Native.Nat.{ℕ}
use mathlib.Core.Bool.{false}
use mathlib.Core.List.{List}
use mathlib.Core.Path.{◌≡◌, refl, sym, ap, ◌∙◌}
use lib.Dec.{eqb}
use lib.ListN.{length}
use Rattle.types.specs.declared.Nwk.{Nwk}
use Rattle.standard.specs.declared.RouteEntry.{RouteEntry}
use Rattle.record_table.specs.Table.{RecordTable}
use Rattle.relay_store.specs.Packed.{Together}
use Rattle.neighbor_table.specs.declared.NeighborEntry.{NeighborEntry}
use Rattle.frame.specs.declared.NwkHeader.{NwkHeader}
use Rattle.hop_choice.specs.declared.Choice.{Choice}
use Rattle.hop_choice.specs.declared.Policy.{Policy}
use Rattle.hop_choice.specs.declared.SendKind.{SendKind}
use Rattle.hop_choice.specs.Choice.{chosen}
use Rattle.next_hop.specs.Decision.{kind_long, decided_on}
use Rattle.next_hop.specs.Made.{made, Makeable}
use Rattle.next_hop.proofs.Chosen.{made-decides}
use Rattle.next_hop.proofs.Makeable.{told-makeable}
use Rattle.door_records.specs.Records.{given}
use Rattle.door_decision.specs.Header.{HeaderPlaces, Values, header_in}
use Rattle.door_decision.proofs.Fields.{shut_by}
use Rattle.door_decision.proofs.Routed.{given-count}
use Rattle.types.specs.declared.Refusal.{Refusal}

module _ (routes : List RouteEntry) (t : RecordTable) (store : List ℕ) (g : Together t store) (near : List NeighborEntry) (d : Nwk) (host : List ℕ) (policy : Policy) (kind : SendKind) (p : HeaderPlaces) (x : Result Choice Refusal) (e : x ≡ chosen routes t near d policy (length host) (eqb p.discovery 0) kind) where
  as-given : x ≡ chosen routes t near d policy (given host).count (eqb p.discovery 0) kind
  as-given = e ∙ ap (λ (n : ℕ). chosen routes t near d policy n (eqb p.discovery 0) kind) (sym (given-count host))

  pub choice-makeable : kind_long (given host) kind ≡ false → Makeable (given host) t.lengths x
  choice-makeable short = told-makeable routes t g.formed d (given host) policy near (eqb p.discovery 0) kind short x as-given

  pub choice-decides : Values p → (h : NwkHeader)
      → made (header_in d p h) (given host) t.lengths store x ≡ decided_on routes t near (header_in d p h) (record { kind = kind; relays = given host }) policy store
  choice-decides v h =
      made-decides routes t store g near (header_in d p h) (record { kind = kind; relays = given host }) policy
      (eqb p.discovery 0) (shut_by p.discovery v.discovery) x as-given (made (header_in d p h) (given host) t.lengths store x) refl
