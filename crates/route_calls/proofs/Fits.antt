-- Each call leaves routes that a table can hold: a put over a row that is there wants no room, a removal wants none, a step that would
-- want more than 64 places is refused; and every field that a call writes is within its width.
use Rattle.std.specs.Prelude.{Option, Some, None, unwrap_or}
use Prim.Native.Nat.{ℕ, ◌<◌}
use mathlib.Core.Bool.{Bool, true, false, cond}
use mathlib.Core.List.{List}
use mathlib.Core.Path.{◌≡◌, refl, sym, ◌∙◌}
use native.Mathlib.Omega.{arith}
use borrow.Author.Tests.{leb-true}
use lib.Dec.{leb}
use lib.ListN.{length}
use Rattle.types.specs.declared.Nwk.{Nwk}
use Rattle.standard.specs.declared.RouteEntry.{RouteEntry}
use Rattle.standard.specs.declared.Status.{Status}
use Rattle.standard.specs.declared.Status.TheVariants.{DiscoveryUnderway, DiscoveryFailed, Inactive}
use Rattle.standard.specs.Rows.{put_back}
use Rattle.standard.specs.Calls.{change_route, restored, restore_route, sought, note_relayed}
use Rattle.standard.specs.Ordered.{lookup, put, remove}
use Rattle.standard.specs.Route.{is_active, unknown_hop, route_key, new_route, route_or, with_status, used, record_known}
use Rattle.flat_map.proofs.Fits.{room-known}
use Rattle.flat_map.proofs.Mapped.{each-found}
use Rattle.flat_map.proofs.Ordered.{lookup_key}
use Rattle.route_table.specs.Codec.{InRange}
use Rattle.route_table.specs.Table.{blank_route, Fits}
use Rattle.route_table.proofs.Rows.{fits-put, fits-remove}
use Rattle.route_calls.specs.Answer.{step_to}
use Rattle.route_calls.proofs.Rules.{KeepsKey, status-key, used-key, known-key, step_by, put-room}

-- a change that keeps every field within its width
abbrev pub KeepsRange : (RouteEntry → RouteEntry) → Type 0
KeepsRange change = (e : RouteEntry) → InRange e → InRange (change e)

pub status-in-range : (s : Status) → KeepsRange (with_status s)
status-in-range s e r = record { hop = r.hop; cost = r.cost; recent = r.recent }

pub used-in-range : KeepsRange used
used-in-range e r = record { hop = r.hop; cost = r.cost; recent = omega arith }

range-or : (b : Bool) (x y : RouteEntry) → InRange x → InRange y → InRange (cond b x y)
range-or true x y p q = p
range-or false x y p q = q

pub known-in-range : KeepsRange record_known
known-in-range e r = range-or e.no_route_cache e _ r (record { hop = r.hop; cost = r.cost; recent = r.recent })

pub sought-in-range : KeepsRange sought
sought-in-range e r = range-or (is_active e.status) e (with_status DiscoveryUnderway e) r (status-in-range DiscoveryUnderway e r)

pub restored-in-range : (d hop : Nwk) (cost : ℕ) → hop.0 < 65536 → cost < 256 → InRange (restored d hop cost)
restored-in-range d hop cost h c = record { hop = h; cost = c; recent = omega arith }

module _ (xs : List RouteEntry) (f : Fits xs) where
  pub found-in-range : (k : ℕ) (e : RouteEntry) → lookup route_key k xs ≡ Some e → InRange e
  found-in-range k e q = each-found route_key InRange k xs e f.ranged q

  pub route-or-in-range : (d : Nwk) → InRange (route_or d xs)
  route-or-in-range d = go (lookup route_key d.0 xs) refl where
    go : (o : Option RouteEntry) → lookup route_key d.0 xs ≡ o → InRange (unwrap_or o (new_route d Inactive unknown_hop))
    go None q = record { hop = omega arith; cost = omega arith; recent = omega arith }
    go (Some e) q = found-in-range d.0 e q

  -- one route changed, if it is there
  pub change-fits : (change : RouteEntry → RouteEntry) → KeepsKey change → KeepsRange change → (k : ℕ) → Fits (change_route k change xs)
  unfolding change_route
  change-fits change same within k = go (lookup route_key k xs) refl where
    go : (o : Option RouteEntry) → lookup route_key k xs ≡ o → Fits (put_back route_key change o xs)
    go None q = f
    go (Some e) q =
        fits-put xs f (change e) (within e (found-in-range k e q))
        (rw (same e ∙ lookup_key route_key k xs e q) (room-known 64 route_key blank_route xs f.fit k e q))

  -- a route put where there is room, or else the old routes
  pub step_fits : (e : RouteEntry) → InRange e → Fits (step_to xs (put route_key e xs)).rows
  step_fits e r = go (leb (length (put route_key e xs)) 64) refl where
    go : (b : Bool) → leb (length (put route_key e xs)) 64 ≡ b → Fits (step_to xs (put route_key e xs)).rows
    go true p = rw (step_by xs (put route_key e xs) true p) (fits-put xs f e r (leb-true _ 64 (sym (put-room xs f.fit.ascending e) ∙ p)))
    go false p = rw (step_by xs (put route_key e xs) false p) f

  pub mark-discovery-failed-fits : (k : ℕ) → Fits (change_route k (with_status DiscoveryFailed) xs)
  mark-discovery-failed-fits k = change-fits (with_status DiscoveryFailed) (status-key DiscoveryFailed) (status-in-range DiscoveryFailed) k

  pub record-usage-fits : (k : ℕ) → Fits (change_route k used xs)
  record-usage-fits k = change-fits used used-key used-in-range k

  pub note-source-routed-frame-fits : (k : ℕ) → Fits (change_route k record_known xs)
  note-source-routed-frame-fits k = change-fits record_known known-key known-in-range k

  pub remove-route-fits : (k : ℕ) → Fits (remove route_key k xs)
  remove-route-fits k = fits-remove xs f k

  pub restore-route-fits : (d hop : Nwk) (cost : ℕ) → hop.0 < 65536 → cost < 256 → Fits (step_to xs (restore_route d hop cost xs)).rows
  unfolding restore_route
  restore-route-fits d hop cost h c = step_fits (restored d hop cost) (restored-in-range d hop cost h c)

  pub note-relayed-discovery-fits : (d : Nwk) → Fits (step_to xs (note_relayed d xs)).rows
  unfolding note_relayed
  note-relayed-discovery-fits d = step_fits (sought (route_or d xs)) (sought-in-range (route_or d xs) (route-or-in-range d))
