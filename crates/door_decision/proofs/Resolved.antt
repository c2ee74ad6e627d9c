-- Columns that are lent: what their tests told, and what was answered, is the decision on every state and in every header that has what is lent.
use Prim.Native.Nat.{ℕ, ◌≤◌}
use mathlib.Core.Bool.{Bool, true, false, ◌&&◌, ◌||◌}
use mathlib.Core.List.{List}
use mathlib.Core.Path.{◌≡◌, refl, sym, ap, ◌∙◌}
use lib.Dec.{eqb, ltb}
use lib.ListN.{length}
use Rattle.types.specs.declared.Nwk.{Nwk}
use Rattle.standard.specs.Tells.{Tells}
use Rattle.standard.proofs.Tells.{tells-true, tells_both, tells-so}
use Rattle.route_table.specs.Table as route
use Rattle.discovery_table.specs.Table as discovery
use Rattle.record_table.specs.Table as record_of
use Rattle.relay_store.specs.Store.{agrees_by}
use Rattle.relay_store.specs.Packed.{Together}
use Rattle.relay_store.proofs.Agree.{agrees-told}
use Rattle.routing.specs.declared.Routing.{Routing}
use Rattle.routing.specs.State as routing
use Rattle.routing.proofs.State as routing-of
use Rattle.neighbor_columns.specs.Table as neighbours
use Rattle.waiting_columns.specs.Table as waits
use Rattle.neighbors.specs.State as neighbors
use Rattle.neighbors.proofs.State as neighbors-of
use Rattle.frame.specs.declared.NwkHeader.{NwkHeader}
use Rattle.next_hop.specs.Decision.{kind_long, decided_on, resolve}
use Rattle.decision_lines.specs.Arguments.{kind_of}
use Rattle.door.specs.Lent.{Counters, Asked}
use Rattle.door.proofs.Lent as door
use Rattle.door_neighbors.proofs.Lent as near-door
use Rattle.door_records.specs.Records.{given}
use Rattle.door_decision.specs.Header.{header_in}
use Rattle.door_decision.specs.Decision.{ResolvePlaces, resolve_numbers, mode_of, policy_of, sending, resolve_on, Resolvable, ResolveAsked}
use Rattle.door_decision.proofs.Fields.{long-by}
use Rattle.door_decision.proofs.Routed.{given-count}

-- the numbers of a call are values of their fields: one test after another, and all of them by name
pub resolvable : (concentrator force kind : ℕ) (old : ResolvePlaces) {answer : Bool}
    → Tells ((concentrator ≤ 1) × ((force ≤ 1) × ((kind ≤ 5) × ((old.header.discovery ≤ 2) × ((old.header.bit ≤ 1) × ((old.header.has ≤ 1) × (length old.header.relays ≡ 32))))))) answer
    → Tells (Resolvable concentrator force kind old) answer
resolvable concentrator force kind old =
    tells-so
    (λ v.
    let w = v.1.1.1 in
    record { first = v.0; second = v.1.0; rest = record { mode = v.1.1.0; header = record { discovery = w.0; bit = w.1.0; has = w.1.1.0; places = w.1.1.1 } } })
    (λ v. let w = v.rest.header in (v.first, (v.second, (v.rest.mode, (w.discovery, (w.bit, (w.has, w.places)))))))

neither : (a b : Bool) → (a || b) ≡ false → a ≡ false
neither true b e = e
neither false b e = refl

module _ (r : route.RouteTable) (d : discovery.DiscoveryTable) (t : record_of.RecordTable) (b : Bool) (told-routes : b ≡ routing.formed_in r d t) (n : neighbours.NeighborTable) (w : waits.WaitingTable) (k : Bool) (told-near : k ≡ neighbors.formed_in n w) where
  abbrev routes : Counters → Routing
  routes c = routing.state_of c.errors c.failures c.id r d t

  both : (b && k) ≡ true → (b ≡ true) × (k ≡ true)
  both = (tells_both (tells-true b) (tells-true k)).fact

  pub routes-formed : (b && k) ≡ true → routing.WellFormed (routing.state_of 0 0 0 r d t)
  routes-formed p = door.formed-in r d t b told-routes (both p).0

  pub near-formed : (b && k) ≡ true → neighbors.WellFormed (neighbors.state_in n w)
  near-formed p = near-door.formed-in n w k told-near (both p).1

  pub together : (b && k) ≡ true → (store : List ℕ) → agrees_by t.lengths store ≡ true → Together t store
  together p store a = record { formed = (routes-formed p).records; agrees = (agrees-told t.lengths store).fact a }

  formed : (x : Bool) → (b && k) ≡ x → (c : Counters) → (routing.well_formed (routes c) && neighbors.well_formed (neighbors.state_in n w)) ≡ x
  formed x p c = sym (λ z. routing-of.columns-told (routes c) told-routes z && neighbors-of.columns-told (neighbors.state_in n w) told-near z) ∙ p

  module _ (store : List ℕ) (concentrator force limit kind : ℕ) (hop : Nwk) (host : List ℕ) (to : Nwk) (old : ResolvePlaces) where
    abbrev Answered : ResolvePlaces → ℕ → Type 0
    Answered new status = ResolveAsked routes (λ _. neighbors.state_in n w) store concentrator force limit kind hop host to old new status

    -- a call: its numbers are values of their fields
    module _ (v : Resolvable concentrator force kind old) where
      asked : (new : ResolvePlaces) (status : ℕ)
          → Asked resolve_numbers (resolve_on (mode_of kind hop host) (policy_of concentrator force limit) store) (sending routes (λ _. neighbors.state_in n w) to old.header) old new status
          → Answered new status
      asked new status x = record { call = λ _. x; none = λ no. absurd (no v) }

      -- the test of the two lists, the host's and the header's own
      abbrev long : Bool
      long = ((eqb kind 3 || eqb kind 5) && ltb 32 (length host)) || (eqb old.header.has 1 && ltb 32 old.header.count)

      host-long : kind_long (given host) (kind_of kind hop) ≡ ((eqb kind 3 || eqb kind 5) && ltb 32 (length host))
      host-long = long-by kind v.rest.mode hop (given host) ∙ ap (λ (m : ℕ). (eqb kind 3 || eqb kind 5) && ltb 32 m) (given-count host)

      pub host-short : long ≡ false → kind_long (given host) (kind_of kind hop) ≡ false
      host-short e = host-long ∙ neither _ _ e

      pub ill-answered : (b && k) ≡ false → Answered old 10
      unfolding resolve
      ill-answered p = asked old 10 (record { said = λ c. rw (formed false p c.counters) (record { status = refl; places = refl }) })

      module _ (p : (b && k) ≡ true) where
        pub apart-answered : agrees_by t.lengths store ≡ false → Answered old 9
        unfolding resolve
        apart-answered a = asked old 9 (record { said = λ c. rw (formed true p c.counters, a) (record { status = refl; places = refl }) })

        pub long-answered : agrees_by t.lengths store ≡ true → long ≡ true → Answered old 8
        unfolding resolve
        long-answered a e = asked old 8 (record { said = λ c. rw (formed true p c.counters, a, host-long, e) (record { status = refl; places = refl }) })

        pub rule-answered : agrees_by t.lengths store ≡ true → long ≡ false → (new : ResolvePlaces) (status : ℕ)
            → Asked resolve_numbers (λ (h : NwkHeader). decided_on (route.rows_of r) t (neighbours.rows_of n) h (mode_of kind hop host) (policy_of concentrator force limit) store) (header_in to old.header) old new status
            → Answered new status
        unfolding resolve
        rule-answered a e new status x = asked new status (record { said = λ c. rw (formed true p c.counters, a, host-long, e) (x.said c.header) })
