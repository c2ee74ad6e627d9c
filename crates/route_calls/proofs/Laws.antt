-- What the calls mean: the route named changes as stated and every other stays; a new route is refused where no place is free; and the
-- check is sound exactly where no route is faulty. Each goes by what the look-up finds, or down the rows.
use Rattle.std.specs.Prelude.{Option, Some, None, Ok, Err, option_map}
use Prim.Native.Nat.{ℕ, ◌<◌}
use mathlib.Core.Bool.{Bool, true, false, cond}
use mathlib.Core.List.{List, [], ◌∷◌}
use mathlib.Core.Path.{◌≡◌, refl, sym, ap, ◌∙◌}
use native.Mathlib.Omega.{arith}
use borrow.Author.Tests.{le-leb, lt-leb}
use lib.Dec.{leb}
use lib.ListN.{length}
use Rattle.types.specs.declared.Nwk.{Nwk}
use Rattle.types.specs.declared.Refusal.TheVariants.{RouteTableFull}
use Rattle.standard.specs.declared.RouteEntry.{RouteEntry}
use Rattle.standard.specs.declared.DiscoveryEntry.{DiscoveryEntry}
use Rattle.standard.specs.Rows.{put_back}
use Rattle.standard.specs.Calls.{change_route, restored, restore_route, sought, note_relayed, lacks_hop, is_orphan, is_faulty, first_fault}
use Rattle.standard.specs.Ordered.{Ascending, lookup, put, count_with}
use Rattle.standard.specs.Route.{is_active, route_key, route_or}
use Rattle.flat_map.proofs.Ordered.{lookup_key, lookup-put-same, lookup-put-other, put_id, count-with-missing}
use Rattle.flat_map.proofs.Fits.{room-known}
use Rattle.flat_map.proofs.Query.{first-here, first_past, first_done}
use Rattle.flat_map.specs.Table.{Each}
use Rattle.route_table.specs.Table.{blank_route, Fits}
use Rattle.search_tables.proofs.Packing.{route-or-key}
use Rattle.route_calls.specs.declared.Checked.TheVariants.{Sound, UnknownHop, Orphan}
use Rattle.route_calls.specs.Answer.{RouteStep, step_to, fault_of, checked_by}
use Rattle.route_calls.proofs.Rules.{KeepsKey, sought-key, step_by, put-room}

module _ (change : RouteEntry → RouteEntry) (same : KeepsKey change) (k : ℕ) (xs : List RouteEntry) where
  -- the route named, after the change
  pub change-here : lookup route_key k (change_route k change xs) ≡ option_map change (lookup route_key k xs)
  unfolding change_route
  change-here = go (lookup route_key k xs) refl where
    go : (o : Option RouteEntry) → lookup route_key k xs ≡ o → lookup route_key k (put_back route_key change o xs) ≡ option_map change o
    go None q = q
    go (Some e) q = ap (λ (n : ℕ). lookup route_key n (put route_key (change e) xs)) (sym (same e ∙ lookup_key route_key k xs e q)) ∙ lookup-put-same route_key (change e) xs

  -- any other route
  pub change-elsewhere : (j : ℕ) → (k ≡ j → ⊥) → lookup route_key j (change_route k change xs) ≡ lookup route_key j xs
  unfolding change_route
  change-elsewhere j n = go (lookup route_key k xs) refl where
    go : (o : Option RouteEntry) → lookup route_key k xs ≡ o → lookup route_key j (put_back route_key change o xs) ≡ lookup route_key j xs
    go None q = refl
    go (Some e) q = lookup-put-other route_key j (change e) xs (λ p. n (sym (same e ∙ lookup_key route_key k xs e q) ∙ p))

-- "Noting a relayed discovery leaves Active alone"
pub active-left : (d : Nwk) (xs : List RouteEntry) (e : RouteEntry) → Ascending route_key xs → lookup route_key d.0 xs ≡ Some e → is_active e.status ≡ true → note_relayed d xs ≡ xs
unfolding note_relayed
active-left d xs e a q p =
    rw (q, p)
    (put_id route_key e xs a (ap (λ (n : ℕ). lookup route_key n xs) (lookup_key route_key d.0 xs e q) ∙ q))

-- "makes or sets DiscoveryUnderway otherwise", and a route restored is the one handed back
pub noted_here : (d : Nwk) (xs : List RouteEntry) → lookup route_key d.0 (note_relayed d xs) ≡ Some (sought (route_or d xs))
unfolding note_relayed
noted_here d xs =
    ap (λ (n : ℕ). lookup route_key n (put route_key (sought (route_or d xs)) xs))
    (sym (sought-key (route_or d xs) ∙ route-or-key d (record { routes = xs; discoveries = [] })))
    ∙ lookup-put-same route_key (sought (route_or d xs)) xs

pub restored-here : (d hop : Nwk) (cost : ℕ) (xs : List RouteEntry) → lookup route_key d.0 (restore_route d hop cost xs) ≡ Some (restored d hop cost)
unfolding restore_route
restored-here d hop cost xs = lookup-put-same route_key (restored d hop cost) xs

-- a route stored, by what stood under its destination and how many places are free
module _ (xs : List RouteEntry) (f : Fits xs) (e : RouteEntry) where
  abbrev stored : RouteStep
  stored = step_to xs (put route_key e xs)

  abbrev done : RouteStep
  done = record { answer = Ok tt; rows = put route_key e xs }

  room : leb (length (put route_key e xs)) 64 ≡ leb (count_with route_key (route_key e) xs) 64
  room = put-room xs f.fit.ascending e

  pub full-refused : lookup route_key (route_key e) xs ≡ None → length xs ≡ 64 → stored ≡ record { answer = Err RouteTableFull; rows = xs }
  full-refused q n = step_by xs _ false (room ∙ lt-leb (count_with route_key (route_key e) xs) 64 (omega (arith, count-with-missing route_key (route_key e) xs q)))

  pub known-done : (x : RouteEntry) → lookup route_key (route_key e) xs ≡ Some x → stored ≡ done
  known-done x q = step_by xs _ true (room ∙ le-leb _ 64 (room-known 64 route_key blank_route xs f.fit (route_key e) x q))

  pub free-done : length xs < 64 → stored ≡ done
  free-done n = go (lookup route_key (route_key e) xs) refl where
    go : (o : Option RouteEntry) → lookup route_key (route_key e) xs ≡ o → stored ≡ done
    go None q = step_by xs _ true (room ∙ le-leb (count_with route_key (route_key e) xs) 64 (omega (arith, count-with-missing route_key (route_key e) xs q)))
    go (Some x) q = known-done x q

-- a faulty route that has its hop is an orphan
pub orphan-told : (ds : List DiscoveryEntry) (e : RouteEntry) → is_faulty ds e ≡ true → lacks_hop e ≡ false → is_orphan ds e ≡ true
orphan-told ds e p q = sym (rw q) ∙ p

never-sound : (e : RouteEntry) → fault_of e ≡ Sound → ⊥
never-sound e = go (lacks_hop e) where
  go : (b : Bool) → cond b (UnknownHop e.destination) (Orphan e.destination) ≡ Sound → ⊥
  go true q = let z : ◌≡◌ {A = ℕ} 0 1 = cc in omega arith
  go false q = let z : ◌≡◌ {A = ℕ} 0 1 = cc in omega arith

module _ (ds : List DiscoveryEntry) where
  abbrev pub NoFault : List RouteEntry → Type 0
  NoFault xs = Each (λ (e : RouteEntry). is_faulty ds e ≡ false) xs

  pub sound-if : (xs : List RouteEntry) → NoFault xs → checked_by (first_fault ds xs) ≡ Sound
  unfolding first_fault
  sound-if [] n = ap checked_by (first_done (is_faulty ds) refl)
  sound-if (x ∷ xs) n = ap checked_by (first_past (is_faulty ds) refl n.0) ∙ sound-if xs n.1

  pub sound-only-if : (xs : List RouteEntry) → checked_by (first_fault ds xs) ≡ Sound → NoFault xs
  unfolding first_fault
  sound-only-if [] q = tt
  sound-only-if (x ∷ xs) q = go (is_faulty ds x) refl (λ p. sound-only-if xs p) where
    go : (b : Bool) → is_faulty ds x ≡ b → (checked_by (first_fault ds xs) ≡ Sound → NoFault xs) → NoFault (x ∷ xs)
    go true p ih = absurd (never-sound x (sym (ap checked_by (first-here (is_faulty ds) refl p)) ∙ q))
    go false p ih = (p, ih (sym (ap checked_by (first_past (is_faulty ds) refl p)) ∙ q))
