-- The samples that wait, as rows: after the lowest address goes there is room for any sender, since one of at most 64 has gone; a push keeps a ring
-- well formed; and the sender's samples are those that it had and one more, or one alone.
use Rattle.std.specs.Prelude.{Option, Some, None}
use Prim.Native.Nat.{ℕ, suc, ◌≤◌}
use native.Mathlib.Omega.{arith}
use mathlib.Core.Bool.{Bool, true, false, cond}
use mathlib.Core.List.{List, [], ◌∷◌}
use mathlib.Core.Path.{◌≡◌, refl, ap}
use borrow.Author.Tests.{leb-true}
use lib.Dec.{leb}
use lib.ListN.{length}
use Rattle.types.specs.declared.Nwk.{Nwk}
use Rattle.standard.specs.Ordered.{lookup, put, pop_first, count_with}
use Rattle.ring_buffer.specs.Ring.{fresh, after_push}
use Rattle.ring_buffer.proofs.Ring.{fresh-well-formed, push-well-formed}
use Rattle.ring_buffer.proofs.Shapes.{tells-well-formed}
use Rattle.flat_map.specs.Table.{every}
use Rattle.flat_map.proofs.Every.{every-lookup, every-put, every-pop}
use Rattle.flat_map.proofs.Ordered.{count-with-missing, count-with-found}
use Rattle.waiting_table.specs.declared.WaitingEntry.{WaitingEntry}
use Rattle.waiting_table.specs.Entry.{waiting_key, is_sound}
use Rattle.link_quality.specs.Rules.{room_for, one_more, waiting_after}

-- one more row at most
at_most_one : (k : ℕ) (xs : List WaitingEntry) → count_with waiting_key k xs ≤ suc (length xs)
at_most_one k xs = go (lookup waiting_key k xs) refl where
  go : (o : Option WaitingEntry) → lookup waiting_key k xs ≡ o → count_with waiting_key k xs ≤ suc (length xs)
  go None q = omega (arith, count-with-missing waiting_key k xs q)
  go (Some e) q = omega (arith, count-with-found waiting_key k e xs q)

popped-room : (k : ℕ) (xs : List WaitingEntry) → length xs ≤ 64 → count_with waiting_key k (pop_first xs) ≤ 64
popped-room k [] h = omega (arith, at_most_one k [])
popped-room k (x ∷ xs) h = omega (arith, at_most_one k xs)

module _ (nwk : Nwk) (xs : List WaitingEntry) where
  pub room-made : length xs ≤ 64 → count_with waiting_key nwk.0 (room_for nwk xs) ≤ 64
  room-made h = go (leb (count_with waiting_key nwk.0 xs) 64) refl where
    go : (b : Bool) → leb (count_with waiting_key nwk.0 xs) 64 ≡ b → count_with waiting_key nwk.0 (cond b xs (pop_first xs)) ≤ 64
    go true e = leb-true _ _ e
    go false e = popped-room nwk.0 xs h

  room-sound : every is_sound xs ≡ true → every is_sound (room_for nwk xs) ≡ true
  room-sound s = go (leb (count_with waiting_key nwk.0 xs) 64) where
    go : (b : Bool) → every is_sound (cond b xs (pop_first xs)) ≡ true
    go true = s
    go false = every-pop is_sound xs s

  module _ (lqi : ℕ) where
    -- the entry of the sender, by what it had
    pub first-sample : lookup waiting_key nwk.0 (room_for nwk xs) ≡ None → waiting_after nwk lqi xs ≡ put waiting_key (record { network_address = nwk; lqas = after_push fresh lqi }) (room_for nwk xs)
    first-sample q = ap (λ (o : Option WaitingEntry). put waiting_key (one_more o nwk lqi) (room_for nwk xs)) q

    pub next-sample : (e : WaitingEntry) → lookup waiting_key nwk.0 (room_for nwk xs) ≡ Some e
        → waiting_after nwk lqi xs ≡ put waiting_key (record { network_address = nwk; lqas = after_push e.lqas lqi }) (room_for nwk xs)
    next-sample e q = ap (λ (o : Option WaitingEntry). put waiting_key (one_more o nwk lqi) (room_for nwk xs)) q

    pub more-sound : every is_sound xs ≡ true → is_sound (one_more (lookup waiting_key nwk.0 (room_for nwk xs)) nwk lqi) ≡ true
    more-sound s = go (lookup waiting_key nwk.0 (room_for nwk xs)) refl where
      go : (o : Option WaitingEntry) → lookup waiting_key nwk.0 (room_for nwk xs) ≡ o → is_sound (one_more o nwk lqi) ≡ true
      go None q = (tells-well-formed _).flag (push-well-formed lqi _ fresh-well-formed)
      go (Some e) q = (tells-well-formed _).flag (push-well-formed lqi e.lqas ((tells-well-formed e.lqas).fact (every-lookup is_sound waiting_key nwk.0 (room_for nwk xs) e (room-sound s) q)))

    pub after-sound : every is_sound xs ≡ true → every is_sound (waiting_after nwk lqi xs) ≡ true
    after-sound s = every-put is_sound waiting_key (one_more (lookup waiting_key nwk.0 (room_for nwk xs)) nwk lqi) (room_for nwk xs) (more-sound s) (room-sound s)
