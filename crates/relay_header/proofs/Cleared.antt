-- The header is the given one, but for the bit, exactly where the answer is yes: the answer and the header come out of the same tests.
use Rattle.std.specs.Prelude.{Ok}
use Prim.Native.Nat.{ℕ}
use native.Mathlib.Omega.{arith}
use mathlib.Core.Bool.{Bool, true, false, cond, ◌&&◌}
use mathlib.Core.List.{List}
use mathlib.Core.Path.{◌≡◌, refl, sym, ap, ◌∙◌}
use Rattle.types.specs.declared.Refusal.TheVariants.{StateIllFormed, ListTooLong}
use Rattle.neighbor_table.specs.declared.NeighborEntry.{NeighborEntry}
use Rattle.neighbors.specs.declared.Neighbors.{Neighbors}
use Rattle.neighbors.specs.State.{well_formed, rows}
use Rattle.frame.specs.declared.NwkHeader.{NwkHeader}
use Rattle.frame.specs.Header.{carries_long, initiator_cleared}
use Rattle.relay_header.specs.declared.ClearOutcome.{ClearOutcome}
use Rattle.relay_header.specs.Relayed.{is_end_device_child, told, refused, cleared_on, cleared}

-- the rule at each exit of the code, by the bit and by whether an end device child sent the frame
module _ {A : Type 0} (a b : Bool) (x y : A) where
  neither : a ≡ false → cond (a && b) x y ≡ y
  neither p = rw p

  both : a ≡ true → b ≡ true → cond (a && b) x y ≡ x
  both p q = rw (p, q)

  first-only : a ≡ true → b ≡ false → cond (a && b) x y ≡ y
  first-only p q = rw (p, q)

module _ (near : List NeighborEntry) (h : NwkHeader) (x : ClearOutcome) where
  abbrev bit : Bool
  bit = h.frame_control.end_device_initiator

  abbrev child : Bool
  child = is_end_device_child near h.source

  pub bit-off : bit ≡ false → x ≡ told false h → x ≡ cleared_on near h
  unfolding cleared_on
  bit-off p e = e ∙ sym (neither bit child (told true (initiator_cleared h)) (told false h) p)

  pub by-child : bit ≡ true → child ≡ true → (k : NwkHeader) → k ≡ initiator_cleared h → x ≡ told true k → x ≡ cleared_on near h
  unfolding cleared_on
  by-child p q k o e = e ∙ ap (told true) o ∙ sym (both bit child (told true (initiator_cleared h)) (told false h) p q)

  pub by-other : bit ≡ true → child ≡ false → x ≡ told false h → x ≡ cleared_on near h
  unfolding cleared_on
  by-other p q e = e ∙ sym (first-only bit child (told true (initiator_cleared h)) (told false h) p q)

-- the three tests: the state, the list, and the bit with the child
abbrev tested : NwkHeader → Bool → Bool → Bool → ClearOutcome
tested h a b c = cond a (cond b (refused ListTooLong h) (cond c (told true (initiator_cleared h)) (told false h))) (refused StateIllFormed h)

module _ (h : NwkHeader) where
  yes-cleared : (a b c : Bool) → (tested h a b c).answer ≡ Ok true → (tested h a b c).header ≡ initiator_cleared h
  yes-cleared true false true e = refl
  yes-cleared true false false e = let z : ◌≡◌ {A = ℕ} 0 1 = cc in absurd (omega arith)
  yes-cleared true true c e = let z : ◌≡◌ {A = ℕ} 0 1 = cc in absurd (omega arith)
  yes-cleared false b c e = let z : ◌≡◌ {A = ℕ} 0 1 = cc in absurd (omega arith)

  else-kept : (a b c : Bool) → ((tested h a b c).answer ≡ Ok true → ⊥) → (tested h a b c).header ≡ h
  else-kept true false true off = absurd (off refl)
  else-kept true false false off = refl
  else-kept true true c off = refl
  else-kept false b c off = refl

module _ (n : Neighbors) (h : NwkHeader) where
  abbrev applies : Bool
  applies = h.frame_control.end_device_initiator && is_end_device_child (rows n) h.source

  pub cleared-where-told : (cleared n h).answer ≡ Ok true → (cleared n h).header ≡ initiator_cleared h
  unfolding cleared cleared_on
  cleared-where-told e = yes-cleared h (well_formed n) (carries_long h) applies e

  pub kept-elsewhere : ((cleared n h).answer ≡ Ok true → ⊥) → (cleared n h).header ≡ h
  unfolding cleared cleared_on
  kept-elsewhere off = else-kept h (well_formed n) (carries_long h) applies off
