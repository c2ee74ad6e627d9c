-- A child taken out, and one that joins: what each way of the code leaves is what the rule says.
use Rattle.std.specs.Prelude.{Option, Some, None, Result, Ok, Err}
use Prim.Native.Nat.{ℕ, ◌<◌, ◌≤◌}
use mathlib.Core.Bool.{Bool, true, false, cond}
use mathlib.Core.Path.{◌≡◌, refl, sym, ap, ◌∙◌, subst}
use borrow.Author.Tests.{leb-true}
use lib.Dec.{leb}
use lib.ListN.{take, get_or}
use Rattle.types.specs.declared.Eui64.{Eui64}
use Rattle.types.specs.declared.Nwk.{Nwk}
use Rattle.types.specs.declared.Refusal.TheVariants.{TimePastEnd, NeighborTableFull}
use Rattle.standard.specs.Ordered.{lookup, put, remove, count_with}
use Rattle.flat_map.specs.Seek.{place_of}
use Rattle.flat_map.proofs.Every.{every-lookup}
use Rattle.neighbor_table.specs.declared.NeighborEntry.{NeighborEntry}
use Rattle.neighbor_table.specs.Entry.{neighbor_key, is_child_of, is_sound}
use Rattle.neighbor_columns.specs.Codec.{link_of, neighbor_from}
use Rattle.neighbor_columns.specs.Table.{NeighborTable, rows_of, row_at, WellFormed, Keeps, Holds, removed}
use Rattle.neighbor_columns.proofs.Rows.{taken_out, remove-holds, put_holds}
use Rattle.children.specs.declared.ChildDescriptor.{ChildDescriptor}
use Rattle.children.specs.Attach.{start_in, attached}
use Rattle.children.proofs.Found.{start-key}
use Rattle.children.proofs.Kept.{start-sound, attached-sound}
use Rattle.children_moves_lent.specs.Rules.{take_answer, taken, upsert_answer, upserted}
use Rattle.types.specs.declared.Refusal.{Refusal}

relation-read : (t : NeighborTable) (i : ℕ) → (row_at t i).relationship ≡ (link_of (get_or t.links i 0)).relationship
unfolding neighbor_from
relation-read t i = refl

address_read : (t : NeighborTable) (i : ℕ) → (row_at t i).network_address ≡ record { 0 = get_or t.nwks i 0 }
unfolding neighbor_from
address_read t i = refl

-- a child taken out
module _ (t : NeighborTable) (w : WellFormed t) (eui64 : Eui64) where
  abbrev found : Option NeighborEntry
  found = lookup neighbor_key eui64.0 (rows_of t)

  pub none-taken : found ≡ None → ((Ok None) ≡ take_answer found) × Holds t (taken eui64 found (rows_of t))
  none-taken q = (sym (ap take_answer q), record { formed = w; rows = sym (ap (λ (o : Option NeighborEntry). taken eui64 o (rows_of t)) q) })

  module _ (i : ℕ) (q : found ≡ Some (row_at t i)) where
    pub other-stays : is_child_of (link_of (get_or t.links i 0)).relationship ≡ false → ((Ok None) ≡ take_answer found) × Holds t (taken eui64 found (rows_of t))
    other-stays n =
        let b = ap is_child_of (relation-read t i) ∙ n in (
          sym (ap take_answer q ∙ ap (λ (x : Bool). cond x (Ok (Some (row_at t i).network_address)) (Ok None)) b),
          record {
            formed = w;
            rows = sym (ap (λ (o : Option NeighborEntry). taken eui64 o (rows_of t)) q ∙ ap (λ (x : Bool). cond x (remove neighbor_key eui64.0 (rows_of t)) (rows_of t)) b);
          },
        )

    pub child-goes : is_child_of (link_of (get_or t.links i 0)).relationship ≡ true → Ok i ≡ place_of (take t.count t.keys) eui64.0 → (u : NeighborTable) → u ≡ removed t i
        → ((Ok (Some (record { 0 = get_or t.nwks i 0 }))) ≡ take_answer found) × Holds u (taken eui64 found (rows_of t))
    child-goes y p u r =
        let b = ap is_child_of (relation-read t i) ∙ y in (
          sym (ap take_answer q ∙ ap (λ (x : Bool). cond x (Ok (Some (row_at t i).network_address)) (Ok None)) b ∙ ap (λ (a : Nwk). Ok (Some a)) (address_read t i)),
          subst (Holds u) (sym (ap (λ (o : Option NeighborEntry). taken eui64 o (rows_of t)) q ∙ ap (λ (x : Bool). cond x (remove neighbor_key eui64.0 (rows_of t)) (rows_of t)) b))
              (remove-holds t u eui64.0 w (subst (λ (x : NeighborTable). Keeps x (remove neighbor_key eui64.0 (rows_of t))) (sym r) (taken_out t w.formed eui64.0 i p))),
        )

-- a child that joins
module _ (t : NeighborTable) (w : WellFormed t) (child : ChildDescriptor) (at now : ℕ) where
  abbrev begun : NeighborEntry
  begun = start_in (lookup neighbor_key child.eui64.0 (rows_of t)) child.eui64 now

  pub no_room : leb (count_with neighbor_key child.eui64.0 (rows_of t)) 64 ≡ false
      → (Err NeighborTableFull ≡ upsert_answer child (Some at) (rows_of t)) × Holds t (upserted child now (Some at) (rows_of t))
  no_room n = (
    sym (ap (λ (x : Bool). cond x (Ok tt) (Err NeighborTableFull)) n),
    record { formed = w; rows = sym (ap (λ (x : Bool). cond x (put neighbor_key (attached child at begun) (rows_of t)) (rows_of t)) n) },
  )

  -- the entry that is stored: its key, the room for it, and what it leaves
  module _ (e : NeighborEntry) (q : e ≡ attached child at begun) (room : leb (count_with neighbor_key child.eui64.0 (rows_of t)) 64 ≡ true) where
    key-is : neighbor_key e ≡ child.eui64.0
    key-is = ap neighbor_key q ∙ start-key child.eui64 now (rows_of t)

    pub stored-place : (p : Result ℕ ℕ) → p ≡ place_of (take t.count t.keys) child.eui64.0 → p ≡ place_of (take t.count t.keys) (neighbor_key e)
    stored-place p h = h ∙ ap (place_of (take t.count t.keys)) (sym key-is)

    pub stored-room : count_with neighbor_key (neighbor_key e) (rows_of t) ≤ 64
    stored-room = subst (λ (k : ℕ). count_with neighbor_key k (rows_of t) ≤ 64) (sym key-is) (leb-true _ _ room)

    sound : is_sound e ≡ true
    sound =
        ap is_sound q
        ∙ attached-sound child at begun
        (start-sound (lookup neighbor_key child.eui64.0 (rows_of t)) child.eui64 now (λ x r. every-lookup is_sound neighbor_key child.eui64.0 (rows_of t) x w.sound r))

    pub child-stored : (u : NeighborTable) → Keeps u (put neighbor_key e (rows_of t))
        → ((Ok tt) ≡ upsert_answer child (Some at) (rows_of t)) × Holds u (upserted child now (Some at) (rows_of t))
    child-stored u k = (
      sym (ap (λ (x : Bool). cond x (Ok tt) (Err NeighborTableFull)) room),
      subst (Holds u)
          (ap (λ (x : NeighborEntry). put neighbor_key x (rows_of t)) q
          ∙ sym (ap (λ (x : Bool). cond x (put neighbor_key (attached child at begun) (rows_of t)) (rows_of t)) room)) (put_holds t u e w sound k),
    )

-- by the sum that was made
pub as-summed : (t : NeighborTable) (child : ChildDescriptor) (now : ℕ) (s due : Option ℕ) → s ≡ due → (r : Result Unit Refusal) (u : NeighborTable)
    → (r ≡ upsert_answer child s (rows_of t)) × Holds u (upserted child now s (rows_of t)) → (r ≡ upsert_answer child due (rows_of t)) × Holds u (upserted child now due (rows_of t))
as-summed t child now s due q r u h =
    subst (λ (x : Option ℕ). (r ≡ upsert_answer child x (rows_of t)) × Holds u (upserted child now x (rows_of t))) q h

pub past_end : (t : NeighborTable) → WellFormed t → (child : ChildDescriptor) (now : ℕ) (due : Option ℕ) → None ≡ due
    → (Err TimePastEnd ≡ upsert_answer child due (rows_of t)) × Holds t (upserted child now due (rows_of t))
past_end t w child now due q = as-summed t child now None due q (Err TimePastEnd) t (refl, record { formed = w; rows = refl })
