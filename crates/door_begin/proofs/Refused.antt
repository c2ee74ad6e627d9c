-- A refused call leaves the columns, the last id and the place: by value it hands the state back.
use Rattle.std.specs.Prelude.{Result, Ok, Err}
use Prim.Native.Nat.{ℕ, ◌<◌}
use native.Mathlib.Omega.{arith}
use mathlib.Core.Path.{◌≡◌, refl}
use Rattle.types.specs.declared.Nwk.{Nwk}
use Rattle.standard.proofs.Picked.{by-test}
use Rattle.route_begin.specs.Answer.{BeginStep, begun, advertised}
use Rattle.routing.specs.declared.Routing.{Routing}
use Rattle.routing.specs.declared.BeginOutcome.{BeginOutcome}
use Rattle.routing.specs.Search.{begun_by, begun_as, next_id, begin_discovery, begin_many_to_one_advertisement}
use Rattle.routing.specs.State.{well_formed, rows_in}
use Rattle.door.specs.Lent.{Counters}
use Rattle.door.proofs.Lent.{Keeps, refused-made}
use Rattle.door_begin.specs.Begin.{begin_status, begin_numbers, BeginMade, AdvertiseMade}
use Rattle.types.specs.declared.Refusal.{Refusal}

begin-keeps : Keeps begin_numbers
begin-keeps (Err why) old p = refl
begin-keeps (Ok i) old p = absurd (omega arith)

abbrev Back : Routing → BeginOutcome → Type 0
Back s o = 0 < begin_status o.answer → o.state ≡ s

back : (s : Routing) (id : ℕ) (x : BeginStep) → Back s (begun_as s id x)
back s id x = go x.answer where
  go : (a : Result ℕ Refusal) → Back s (begun_by a s id x.tables)
  go (Err why) p = refl
  go (Ok i) p = absurd (omega arith)

module _ (before after : Counters → Routing) (r : ℕ) (p : 0 < r) (own : Nwk) (now span old new : ℕ) where
  pub begin-refused : (destination : Nwk) → BeginMade before after own destination now span old new r → (c : Counters) → (after c ≡ before c) × (new ≡ old)
  unfolding begin_discovery
  begin-refused destination x = refused-made begin-keeps (record { back = hands }) x p where
    hands : (s : Routing) → Back s (begin_discovery s own destination now span)
    hands s = by-test (Back s) (well_formed s) _ _ (λ _. back s (next_id s) (begun (rows_in s) own (next_id s) destination now span)) (λ _. refl)

  pub advertise-refused : AdvertiseMade before after own now span old new r → (c : Counters) → (after c ≡ before c) × (new ≡ old)
  unfolding begin_many_to_one_advertisement
  advertise-refused x = refused-made begin-keeps (record { back = hands }) x p where
    hands : (s : Routing) → Back s (begin_many_to_one_advertisement s own now span)
    hands s = by-test (Back s) (well_formed s) _ _ (λ _. back s (next_id s) (advertised (rows_in s) own (next_id s) now span)) (λ _. refl)
