-- What the code says at each of its exits, by the bit and by whether an end device child sent the frame, is the rule's answer in every header that has
-- what is lent; and so is a refusal of what the tests keep out.
use Prim.Native.Nat.{ℕ}
use mathlib.Core.Bool.{Bool, true, false, ◌&&◌}
use mathlib.Core.List.{List}
use mathlib.Core.Path.{◌≡◌, refl, sym, ◌∙◌}
use lib.Dec.{eqb, ltb}
use Rattle.types.specs.declared.Nwk.{Nwk}
use Rattle.neighbor_table.specs.declared.NeighborEntry.{NeighborEntry}
use Rattle.neighbor_columns.specs.Table as neighbours
use Rattle.waiting_columns.specs.Table as waits
use Rattle.neighbors.specs.State.{well_formed, formed_in, state_in}
use Rattle.neighbors.proofs.State.{columns-told}
use Rattle.frame.specs.declared.NwkHeader.{NwkHeader}
use Rattle.frame.specs.Header.{initiator_cleared}
use Rattle.relay_header.specs.Relayed.{is_end_device_child, told, cleared_on, cleared}
use Rattle.relay_header.proofs.Cleared.{bit-off, by-child, by-other}
use Rattle.door.specs.Lent.{Says, Asked}
use Rattle.door.proofs.Lent.{says-as}
use Rattle.door_relay_header.specs.Relayed.{header_in, ClearPlaces, clear_at, clear_numbers, relaying, clear_on}

module _ (near : List NeighborEntry) (source : Nwk) (has count : ℕ) (h : NwkHeader) (bit before : ℕ) where
  -- the header with the bit that is lent
  abbrev H : ℕ → NwkHeader
  H b = header_in source has count b h

  abbrev Said : ℕ → ℕ → Type 0
  Said after new = Says clear_numbers (cleared_on near (H bit)) (clear_at bit before) (clear_at after new) 0

  pub off-said : bit ≡ 0 → Said bit 0
  off-said e = rw e (says-as (bit-off near (H 0) (told false (H 0)) refl refl) (record { status = refl; places = refl }))

  pub child-said : bit ≡ 1 → is_end_device_child near source ≡ true → Said 0 1
  child-said e q = rw e (says-as (by-child near (H 1) (told true (initiator_cleared (H 1))) refl q (initiator_cleared (H 1)) refl refl) (record { status = refl; places = refl }))

  pub other-said : bit ≡ 1 → is_end_device_child near source ≡ false → Said bit 0
  other-said e q = rw e (says-as (by-other near (H 1) (told false (H 1)) refl q refl) (record { status = refl; places = refl }))

-- columns that are lent: what their test told, whether a source route of the header is too long, and what was answered
module _ (t : neighbours.NeighborTable) (w : waits.WaitingTable) (b : Bool) (told-formed : b ≡ formed_in t w) (source : Nwk) (has count : ℕ) (old : ClearPlaces) where
  abbrev Answered : ClearPlaces → ℕ → Type 0
  Answered new r = Asked clear_numbers clear_on (relaying (λ _. state_in t w) source has count old.bit) old new r

  formed : (x : Bool) → b ≡ x → well_formed (state_in t w) ≡ x
  formed x p = sym (columns-told (state_in t w) told-formed) ∙ p

  pub ill-answered : b ≡ false → Answered old 10
  unfolding cleared
  ill-answered p = record { said = λ h. rw (formed false p) (record { status = refl; places = refl }) }

  pub long-answered : b ≡ true → (eqb has 1 && ltb 32 count) ≡ true → Answered old 8
  unfolding cleared
  long-answered p l = record { said = λ h. rw (formed true p, l) (record { status = refl; places = refl }) }

  pub rule-answered : (new : ClearPlaces) (r : ℕ) → b ≡ true → (eqb has 1 && ltb 32 count) ≡ false
      → Asked clear_numbers (cleared_on (neighbours.rows_of t)) (header_in source has count old.bit) old new r → Answered new r
  unfolding cleared
  rule-answered new r p l x = record { said = λ h. rw (formed true p, l) (x.said h) }
