-- A list gone through, as rows and lists: what one address does by what stands under it, lists that grow by one at most, and one more in an array
-- with room as one more in its list.
use Rattle.std.specs.Prelude.{Option, Some, None}
use Prim.Native.Nat.{ℕ, ◌+◌, ◌<◌, ◌≤◌}
use native.Mathlib.Omega.{arith}
use mathlib.Core.Bool.{Bool, true, false, cond, ◌&&◌}
use mathlib.Core.List.{List, [], ◌∷◌, ◌++◌}
use mathlib.Core.Path.{◌≡◌, sym, ap}
use lib.ListN.{length, length-append}
use Rattle.types.specs.declared.Eui64.{Eui64}
use Rattle.standard.specs.Ordered.{lookup}
use Rattle.flat_map.proofs.Query.{push-pad}
use Rattle.neighbor_table.specs.declared.NeighborEntry.{NeighborEntry}
use Rattle.neighbor_table.specs.Entry.{neighbor_key, is_end_device}
use Rattle.neighbor_queries.specs.declared.Child.{Child}
use Rattle.neighbor_queries.specs.Lists.{no_name, no_child, eui_list, child_list, one_more_eui, one_more_child}
use Rattle.parent_annce.specs.Settle.{Settling, claim, drop_one, settle_in, settle_one}

pub one-more-eui : (xs : List Eui64) (x : Eui64) → length xs < 64 → one_more_eui (eui_list xs) x ≡ eui_list (xs ++ (x ∷ []))
unfolding eui_list
one-more-eui xs x h = λ z. record { count = sym (length-append xs (x ∷ [])) z; addresses = push-pad 64 no_name x xs h z }

pub one-more-child : (xs : List Child) (x : Child) → length xs < 64 → one_more_child (child_list xs) x ≡ child_list (xs ++ (x ∷ []))
unfolding child_list
one-more-child xs x h = λ z. record { count = sym (length-append xs (x ∷ [])) z; children = push-pad 64 no_child x xs h z }

module _ (confirm : Bool) (eui64 : Eui64) (x : Settling) where
  -- no neighbour has the address, or one has it
  pub settle-none : lookup neighbor_key eui64.0 x.rows ≡ None → settle_one confirm eui64 x ≡ x
  unfolding settle_one
  settle-none q = ap (λ (o : Option NeighborEntry). settle_in confirm eui64 o x) q

  pub settle-some : (e : NeighborEntry) → lookup neighbor_key eui64.0 x.rows ≡ Some e
      → settle_one confirm eui64 x ≡ cond (is_end_device e.device_type) (cond (confirm && e.keepalive_received) (claim eui64 x) (drop_one eui64 e x)) x
  unfolding settle_one
  settle-some e q = ap (λ (o : Option NeighborEntry). settle_in confirm eui64 o x) q

-- lists of no more than i
pub record Few (i : ℕ) (x : Settling) : Type 0 where
  pub claims : length x.claimed ≤ i
  pub removals : length x.removed ≤ i

pub step-few : (confirm : Bool) (eui64 : Eui64) (x : Settling) (i : ℕ) → Few i x → Few (i + 1) (settle_one confirm eui64 x)
unfolding settle_one
step-few confirm eui64 x i h = go (lookup neighbor_key eui64.0 x.rows) where
  stayed-few : Few (i + 1) x
  stayed-few = record { claims = omega (arith, h.claims); removals = omega (arith, h.removals) }

  claimed-few : Few (i + 1) (claim eui64 x)
  claimed-few = record { claims = omega (arith, h.claims, length-append x.claimed (eui64 ∷ [])); removals = omega (arith, h.removals) }

  dropped-few : (e : NeighborEntry) → Few (i + 1) (drop_one eui64 e x)
  dropped-few e = record {
    claims = omega (arith, h.claims);
    removals = omega (arith, h.removals, length-append x.removed (record { eui64 = eui64; network_address = e.network_address } ∷ []));
  }

  pick : (e : NeighborEntry) (a b : Bool) → Few (i + 1) (cond a (cond b (claim eui64 x) (drop_one eui64 e x)) x)
  pick e true true = claimed-few
  pick e true false = dropped-few e
  pick e false b = stayed-few

  go : (o : Option NeighborEntry) → Few (i + 1) (settle_in confirm eui64 o x)
  go None = stayed-few
  go (Some e) = pick e (is_end_device e.device_type) (confirm && e.keepalive_received)
