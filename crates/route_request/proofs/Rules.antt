-- A request's outcome by the room that its rows want once expiry is made, one under the originator in the routes and one under the pair in the discoveries;
-- and what columns hold after each way of the code.
use Rattle.std.specs.Prelude.{Option, Some, None, Result, Ok, Err}
use Prim.Native.Nat.{ℕ}
use mathlib.Core.Bool.{Bool, true, false, cond}
use mathlib.Core.Path.{◌≡◌, refl, sym, ap, ◌∙◌, subst}
use borrow.Author.Tests.{le-leb, leb-true}
use lib.Dec.{leb, ltb}
use lib.ListN.{length}
use Rattle.types.specs.declared.Nwk.{Nwk}
use Rattle.types.specs.declared.Refusal.{Refusal}
use Rattle.types.specs.declared.Refusal.TheVariants.{RouteTableFull, DiscoveryTableFull}
use Rattle.types.specs.Clock.{time_sum}
use Rattle.standard.specs.declared.DiscoveryEntry.{DiscoveryEntry}
use Rattle.standard.specs.declared.ManyToOne.{ManyToOne}
use Rattle.standard.specs.declared.RouteEntry.{RouteEntry}
use Rattle.standard.specs.Discovery.{pair_key, discovery_key, live}
use Rattle.standard.specs.Expiry.{expired}
use Rattle.standard.specs.Ordered.{lookup, put, count_with, keep}
use Rattle.standard.specs.Request.{Requested, new_discovery, reached, accepting, flagged, request_to, request}
use Rattle.standard.specs.Route.{route_key, route_or, considered, considering}
use Rattle.standard.specs.Tables.{Tables}
use Rattle.route_table.specs.Table as route
use Rattle.discovery_table.specs.Table as discovery
use Rattle.search_tables.specs.Packed.{SearchTables, WellFormed, tables_of, Fits, Holds, InKey}
use Rattle.search_tables.proofs.Packing.{search-fits, route-or-key, considered-key, flagged-key, routes-after, discoveries-after, both_hold, holds-itself}
use Rattle.expiry.proofs.Fit.{expired-fits}
use Rattle.route_request.specs.Answer.{RequestStep, refused, answered, by_time, requested_on, requested, Leaves, Room}
use Rattle.standard.specs.declared.RouteUpdate.{RouteUpdate}

-- what is said of a request that is not refused
abbrev answer_of : Bool → Option RouteUpdate → Result (Bool × Option RouteUpdate) Refusal
answer_of accepted u = Ok (accepted, u)

answered-by : (old : Tables) (x : Requested) (a b : Bool) → leb (length x.tables.routes) 64 ≡ a → leb (length x.tables.discoveries) 32 ≡ b
    → answered old x ≡ cond a (cond b (record { answer = Ok (x.accepted, x.update); tables = x.tables }) (refused old DiscoveryTableFull)) (refused old RouteTableFull)
unfolding answered
answered-by old x a b p q = rw (p, q)

-- a step that is another one
pub leaves-as : (s : SearchTables) (answer : Result (Bool × Option RouteUpdate) Refusal) (x y : RequestStep) → x ≡ y → Leaves s answer x → Leaves s answer y
leaves-as s answer x y q l = subst (λ (z : RequestStep). Leaves s answer z) q l

-- a refusal writes nothing
pub leaves-refused : (s : SearchTables) → WellFormed s → (why : Refusal) (x : RequestStep) → x ≡ refused (tables_of s) why → Leaves s (Err why) x
leaves-refused s w why x q = leaves-as s (Err why) (refused (tables_of s) why) x (sym q) (record { said = refl; left = holds-itself s w })

-- nothing but the expiry happens: what it leaves fits
pub leaves-unaccepted : (s : SearchTables) (old t : Tables) → Holds s t → Leaves s (Ok (false, None)) (answered old (record { accepted = false; update = None; tables = t }))
leaves-unaccepted s old t h =
    leaves-as s (Ok (false, None)) (record { answer = Ok (false, None); tables = t }) (answered old x)
    (sym (answered-by old x true true (le-leb (length t.routes) 64 f.routes.fit.small) (le-leb (length t.discoveries) 32 f.discoveries.fit.small)))
    (record { said = refl; left = h }) where
      x : Requested
      x = record { accepted = false; update = None; tables = t }

      f : Fits t
      f = subst Fits h.rows (search-fits s h.formed)

module _ (originator sender : Nwk) (cost : ℕ) (many_to_one : ManyToOne) where
  -- the originator's route after the request
  abbrev pub heard : Tables → RouteEntry
  heard t = flagged many_to_one (considered sender cost (route_or originator t.routes))

  pub heard-key : (t : Tables) → route_key (heard t) ≡ originator.0
  heard-key t = flagged-key many_to_one (considered sender cost (route_or originator t.routes)) ∙ considered-key sender cost (route_or originator t.routes) ∙ route-or-key originator t

  module _ (id : ℕ) (d : DiscoveryEntry) (k : InKey d originator id) where
    -- on rows whose expiry is done
    module _ (t : Tables) (f : Fits t) (old : Tables) where
      routes-room : leb (length (accepting originator sender cost many_to_one d t).tables.routes) 64 ≡ leb (count_with route_key originator.0 t.routes) 64
      routes-room = ap (λ (n : ℕ). leb n 64) (routes-after t f originator.0 (heard t) (heard-key t))

      discoveries-room : leb (length (accepting originator sender cost many_to_one d t).tables.discoveries) 32 ≡ leb (count_with discovery_key (pair_key originator id) t.discoveries) 32
      discoveries-room = ap (λ (n : ℕ). leb n 32) (discoveries-after t f (pair_key originator id) d k)

      with-room : Room originator id t
          → answered old (accepting originator sender cost many_to_one d t)
          ≡ record { answer = Ok (true, considering sender cost (route_or originator t.routes)); tables = (accepting originator sender cost many_to_one d t).tables }
      with-room r =
          answered-by old (accepting originator sender cost many_to_one d t) true true
          (routes-room ∙ le-leb _ 64 r.route) (discoveries-room ∙ le-leb _ 32 r.discovery)

      -- each table after its put
      pub leaves-accepted : Room originator id t → (s : SearchTables) (e : RouteEntry) (u : Option RouteUpdate) → e ≡ heard t → u ≡ considering sender cost (route_or originator t.routes)
          → route.Holds s.routes (put route_key e t.routes) → discovery.Holds s.discoveries (put discovery_key d t.discoveries)
          → Leaves s (Ok (true, u)) (answered old (accepting originator sender cost many_to_one d t))
      leaves-accepted r s e u p q held kept =
          leaves-as s (Ok (true, u)) _ _ (sym (with-room r)) (record {
            said = ap (answer_of true) q;
            left = both_hold s (accepting originator sender cost many_to_one d t).tables (subst (λ (x : RouteEntry). route.Holds s.routes (put route_key x t.routes)) p held) kept;
          })

    -- before the expiry, by what it would leave
    module _ (now : ℕ) (s : SearchTables) (w : WellFormed s) where
      left-fits : Fits (expired now (tables_of s))
      left-fits = expired-fits now (tables_of s) (search-fits s w)

      pub full-routes : leb (count_with route_key originator.0 (expired now (tables_of s)).routes) 64 ≡ false
          → answered (tables_of s) (accepting originator sender cost many_to_one d (expired now (tables_of s))) ≡ refused (tables_of s) RouteTableFull
      full-routes e =
          answered-by (tables_of s) (accepting originator sender cost many_to_one d (expired now (tables_of s))) false _
          (routes-room (expired now (tables_of s)) left-fits (tables_of s) ∙ e) refl

      module _ (free : leb (count_with route_key originator.0 (expired now (tables_of s)).routes) 64 ≡ true) where
        pub full-discoveries : leb (count_with discovery_key (pair_key originator id) (keep (live now) (tables_of s).discoveries)) 32 ≡ false
            → answered (tables_of s) (accepting originator sender cost many_to_one d (expired now (tables_of s))) ≡ refused (tables_of s) DiscoveryTableFull
        unfolding expired
        full-discoveries e =
            answered-by (tables_of s) (accepting originator sender cost many_to_one d (expired now (tables_of s))) true false
            (routes-room (expired now (tables_of s)) left-fits (tables_of s) ∙ free)
            (discoveries-room (expired now (tables_of s)) left-fits (tables_of s) ∙ e)

        pub has_room : leb (count_with discovery_key (pair_key originator id) (keep (live now) (tables_of s).discoveries)) 32 ≡ true → Room originator id (expired now (tables_of s))
        unfolding expired
        has_room e = record { route = leb-true _ 64 free; discovery = leb-true _ 32 e }

      -- stored in the tables that the expiry leaves: with room, what a refusal would hand back plays no part
      pub leaves-stored : (left : SearchTables) → Holds left (expired now (tables_of s)) → Room originator id (expired now (tables_of s)) → (u : SearchTables) (answer : Result (Bool × Option RouteUpdate) Refusal)
          → Leaves u answer (answered (tables_of left) (accepting originator sender cost many_to_one d (tables_of left)))
          → Leaves u answer (answered (tables_of s) (accepting originator sender cost many_to_one d (expired now (tables_of s))))
      leaves-stored left h r u answer l =
          leaves-as u answer _ _
          (ap (λ (t : Tables). answered t (accepting originator sender cost many_to_one d t)) h.rows
          ∙ with-room (expired now (tables_of s)) left-fits (expired now (tables_of s)) r
          ∙ sym (with-room (expired now (tables_of s)) left-fits (tables_of s) r)) l

-- the rule, by what stands under the pair
module _ (originator : Nwk) (id : ℕ) (destination sender : Nwk) (cost : ℕ) (many_to_one : ManyToOne) where
  module _ (expires : ℕ) (t : Tables) where
    pub rule-new : request_to originator id destination sender cost many_to_one expires t None ≡ accepting originator sender cost many_to_one (new_discovery originator id sender cost expires destination) t
    unfolding request_to
    rule-new = refl

    pub rule-dearer : (d : DiscoveryEntry) → ltb d.forward_cost cost ≡ true
        → request_to originator id destination sender cost many_to_one expires t (Some d) ≡ record { accepted = false; update = None; tables = t }
    unfolding request_to
    rule-dearer d e = rw e

    pub rule-better : (d : DiscoveryEntry) → ltb d.forward_cost cost ≡ false
        → request_to originator id destination sender cost many_to_one expires t (Some d) ≡ accepting originator sender cost many_to_one (reached sender cost d) t
    unfolding request_to
    rule-better d e = rw e

  -- the whole, by what the expiry leaves under the pair
  module _ (now span : ℕ) (old : Tables) where
    pub requested-known : (d : DiscoveryEntry) → lookup discovery_key (pair_key originator id) (keep (live now) old.discoveries) ≡ Some d
        → requested old originator id destination sender cost many_to_one now span ≡ answered old (request_to originator id destination sender cost many_to_one 0 (expired now old) (Some d))
    unfolding requested requested_on request expired
    requested-known d e = rw e

    pub requested-new : lookup discovery_key (pair_key originator id) (keep (live now) old.discoveries) ≡ None
        → requested old originator id destination sender cost many_to_one now span
        ≡ by_time old (time_sum now span) (λ (expires : ℕ). request_to originator id destination sender cost many_to_one expires (expired now old) None)
    unfolding requested requested_on request expired
    requested-new e = rw e
