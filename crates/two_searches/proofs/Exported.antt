-- A well-formed state is its rows, put in their place; there the exported call is the rule on the rows, since the test passes and
-- there is room. So what `calls-promise` says of any such call holds of this one.
use Prim.Native.Nat.{◌≤◌}
use mathlib.Core.Bool.{true}
use mathlib.Core.List.{List}
use mathlib.Core.Logic.{◌⊎◌}
use mathlib.Core.Path.{◌≡◌, sym}
use lib.ListN.{length}
use borrow.Author.Tests.{le-leb}
use Rattle.types.specs.declared.Nwk.{Nwk}
use Rattle.standard.specs.Reply.{reply}
use Rattle.standard.specs.Tables.{Tables, InOrder}
use Rattle.search_tables.specs.Packed as search
use Rattle.search_tables.proofs.Packing.{search-fits, packed-formed, packed-rows}
use Rattle.route_reply.specs.Answer.{answered}
use Rattle.routing.specs.declared.Routing.{Routing}
use Rattle.routing.specs.Search.{accept_route_reply}
use Rattle.routing.specs.State.{WellFormed, well_formed, search_of, rows_in, with_rows}
use Rattle.routing.proofs.State.{state-told, search-formed, put_back, search-whole}
use Rattle.two_searches.specs.Conditions.{Conditions, Ranged, Fits}
use Rattle.two_searches.specs.Exported.{call, say, ExportedPromise}
use Rattle.two_searches.specs.Promise.{CallsPromise}
use Rattle.two_searches.specs.Streams.{Search, Heard, hear, Merge}
use Rattle.two_searches.proofs.Lift.{calls-promise}

module _ (s : Routing) (w : WellFormed s) where
  fit-tables : (t : Tables) → InOrder t → Ranged t → length t.routes ≤ 64 → length t.discoveries ≤ 32 → search.Fits t
  fit-tables t o r m n = record {
    routes = record { fit = record { small = m; ascending = o.routes }; ranged = r.routes };
    discoveries = record { fit = record { small = n; ascending = o.discoveries }; ranged = r.discoveries };
  }

  -- the state with such rows passes the test
  passes : (t : Tables) → search.Fits t → well_formed (with_rows s t) ≡ true
  passes t f = (state-told (with_rows s t)).flag (put_back s (search.packed t) w (packed-formed t f))

  as-ruled : (own : Nwk) (q : Search) (x : Heard) (t : Tables) → InOrder t → Ranged t → length t.routes ≤ 64 → length t.discoveries ≤ 32
      → length (hear own q x t).1.routes ≤ 64 → call own q x (with_rows s t) ≡ (say (hear own q x t).0, with_rows s (hear own q x t).1)
  unfolding call hear answered accept_route_reply
  as-ruled own q x t o r m n l =
      let f : search.Fits t = fit-tables t o r m n in
      let back : search.tables_of (search.packed t) ≡ t = packed-rows t f in
      rw (passes t f, back, le-leb (length (reply own q.originator q.id q.responder x.sender x.cost t).tables.routes) 64 l)

  -- two searches, however merged: the exported call, from any well-formed state that meets the conditions
  pub two-searches-exported : (own : Nwk) (a b : Search) → Conditions own a b (rows_in s)
      → {xs ys : List Heard} {zs : List (Heard ⊎ Heard)} → Merge xs ys zs → ExportedPromise own a b xs ys zs s
  two-searches-exported own a b c {xs} {ys} {zs} m = go (calls-promise (with_rows s) say own 64 32 (call own) (as-ruled own) a b (rows_in s) fits m) where
    f : search.Fits (rows_in s)
    f = search-fits (search_of s) (search-formed s w)

    fits : Fits own a b 64 32 (rows_in s)
    fits = record {
      conditions = c;
      in_order = record { routes = f.routes.fit.ascending; discoveries = f.discoveries.fit.ascending };
      in-range = record { routes = f.routes.ranged; discoveries = f.discoveries.ranged };
      routes-fit = f.routes.fit.small;
      discoveries-fit = f.discoveries.fit.small;
    }

    go : CallsPromise (with_rows s) say (call own) own a b xs ys zs (rows_in s) → ExportedPromise own a b xs ys zs s
    go p = record {
      as-alone = rw (sym (search-whole s w)) at p.as-alone;
      answered = rw (sym (search-whole s w)) at p.answered;
      ended = rw (sym (search-whole s w)) at p.ended;
      rows = p.rows;
    }
