-- What the look-ups of a child say: a neighbour that is known stands under its own key, so there is a place for it;
-- and an entry that a joining child starts from stands under the child's address.
use Rattle.std.specs.Prelude.{Option, Some, None}
use Prim.Native.Nat.{ℕ}
use mathlib.Core.List.{List}
use mathlib.Core.Path.{◌≡◌, refl, sym, ◌∙◌, subst}
use Rattle.types.specs.declared.Eui64.{Eui64}
use Rattle.standard.specs.Ordered.{Ascending, lookup}
use Rattle.flat_map.proofs.Filter.{first-lookup}
use Rattle.flat_map.proofs.Ordered.{none-some, lookup_key}
use Rattle.neighbor_table.specs.declared.NeighborEntry.{NeighborEntry}
use Rattle.neighbor_table.specs.Entry.{neighbor_key}
use Rattle.neighbor_queries.specs.declared.Filter.TheVariants.{Address}
use Rattle.neighbor_queries.specs.Filter.{fits}
use Rattle.children.specs.Known.{by_name_of, by_address, or_else, known}
use Rattle.children.specs.Attach.{start_in}
use Rattle.types.specs.declared.Nwk.{Nwk}

module _ (xs : List NeighborEntry) (a : Ascending neighbor_key xs) where
  by_name-there : (m : Option Eui64) (e : NeighborEntry) → by_name_of m xs ≡ Some e → lookup neighbor_key (neighbor_key e) xs ≡ Some e
  by_name-there (Some eui64) e h = subst (λ (k : ℕ). lookup neighbor_key k xs ≡ Some e) (sym (lookup_key neighbor_key eui64.0 xs e h)) h
  by_name-there None e h = absurd (none-some e h)

  by-address-there : (m : Option Nwk) (e : NeighborEntry) → by_address m xs ≡ Some e → lookup neighbor_key (neighbor_key e) xs ≡ Some e
  by-address-there (Some nwk) e h = first-lookup neighbor_key (fits (Address nwk)) xs e a h
  by-address-there None e h = absurd (none-some e h)

  pub known-there : (m : Option Eui64) (n : Option Nwk) (e : NeighborEntry) → known m n xs ≡ Some e → lookup neighbor_key (neighbor_key e) xs ≡ Some e
  unfolding known
  known-there m n e h = go (by_name_of m xs) refl h where
    go : (o : Option NeighborEntry) → by_name_of m xs ≡ o → or_else o (by_address n xs) ≡ Some e → lookup neighbor_key (neighbor_key e) xs ≡ Some e
    go None q r = by-address-there n e r
    go (Some x) q r = by_name-there m e (q ∙ r)

-- an entry to start from stands under the child's address
pub start-key : (eui64 : Eui64) (now : ℕ) (xs : List NeighborEntry) → neighbor_key (start_in (lookup neighbor_key eui64.0 xs) eui64 now) ≡ eui64.0
start-key eui64 now xs = go (lookup neighbor_key eui64.0 xs) refl where
  go : (o : Option NeighborEntry) → lookup neighbor_key eui64.0 xs ≡ o → neighbor_key (start_in o eui64 now) ≡ eui64.0
  go None q = refl
  go (Some e) q = lookup_key neighbor_key eui64.0 xs e q
