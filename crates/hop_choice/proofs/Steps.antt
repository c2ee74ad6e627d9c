-- What a record says, and the whole choice, at each exit of the code: the steps before the one that answers give nothing, as the tests say.
use Rattle.std.specs.Prelude.{None, Result, Ok, Err}
use Prim.Native.Nat.{ℕ, ◌<◌, ◌≤◌}
use native.Mathlib.Omega.{arith}
use mathlib.Core.Bool.{Bool, true, false, not, ◌&&◌}
use mathlib.Core.List.{List, [], ◌∷◌}
use mathlib.Core.Logic.{⊎_elim}
use mathlib.Core.Path.{◌≡◌, refl}
use borrow.Author.Tests.{not-true, not-false, eq-eqb, ne_eqb, lt-ltb, le-ltb}
use lib.ListN.{take, get_or}
use types.Run.{OneOf}
use denote.Enum.Declared.{tag_of}
use Rattle.types.specs.declared.Nwk.{Nwk}
use Rattle.standard.specs.declared.RouteEntry.{RouteEntry}
use Rattle.standard.specs.Query.{some_fits}
use Rattle.flat_map.specs.Seek.{place_of}
use Rattle.record_table.specs.Table.{RecordTable}
use Rattle.neighbor_table.specs.declared.NeighborEntry.{NeighborEntry}
use Rattle.neighbor_queries.specs.declared.Filter.TheVariants.{EndDeviceChildAt}
use Rattle.neighbor_queries.specs.Filter.{fits}
use Rattle.hop_choice.specs.declared.HostRoute.{HostRoute}
use Rattle.hop_choice.specs.declared.RouteDirective.{RouteDirective}
use Rattle.hop_choice.specs.declared.RouteDirective.TheVariants.{StackDecides, Hint, Force}
use Rattle.hop_choice.specs.declared.SendKind.{SendKind}
use Rattle.hop_choice.specs.declared.SendKind.TheVariants.{Direct, Route}
use Rattle.hop_choice.specs.declared.Policy.{Policy}
use Rattle.hop_choice.specs.declared.RecordSays.TheVariants as says
use Rattle.hop_choice.specs.declared.Choice.{Choice}
use Rattle.hop_choice.specs.declared.Choice.TheVariants.{Hop}
use Rattle.hop_choice.specs.Choice.{host_choice, forced_step, record_says, tabled, chosen}
use Rattle.hop_choice.specs.contracts.RouteDirective as directive
use Rattle.types.specs.declared.Refusal.{Refusal}

-- the test of the policy, before a record is asked
abbrev asks : Policy → Bool
asks p = p.is_concentrator && not p.force_route_discovery

module _ (p : Policy) (t : RecordTable) (d : Nwk) where
  pub not-asked : not (asks p) ≡ true → says.Nothing ≡ record_says p t d
  unfolding record_says
  not-asked e = rw (not-true (asks p) e)

  -- by the place of the destination, and the number of the record's relays
  module _ (asked : not (asks p) ≡ false) (at : Result ℕ ℕ) (here : at ≡ place_of (take t.count t.keys) d.0) where
    pub no_record : (i : ℕ) → at ≡ Err i → says.Nothing ≡ record_says p t d
    unfolding record_says
    no_record i e = rw (not-false (asks p) asked, ← here, e)

    module _ (i : ℕ) (e : at ≡ Ok i) where
      pub empty-record : get_or t.lengths i 0 ≡ 0 → says.Direct ≡ record_says p t d
      unfolding record_says
      empty-record empty = rw (not-false (asks p) asked, ← here, e, eq-eqb (get_or t.lengths i 0) 0 empty)

      module _ (full : get_or t.lengths i 0 ≡ 0 → ⊥) where
        pub short-record : get_or t.lengths i 0 < p.max_source_route → says.Row i ≡ record_says p t d
        unfolding record_says
        short-record few = rw (not-false (asks p) asked, ← here, e, ne_eqb (get_or t.lengths i 0) 0 full, lt-ltb (get_or t.lengths i 0) p.max_source_route few)

        pub long-record : p.max_source_route ≤ get_or t.lengths i 0 → says.Nothing ≡ record_says p t d
        unfolding record_says
        long-record many = rw (not-false (asks p) asked, ← here, e, ne_eqb (get_or t.lengths i 0) 0 full, le-ltb (get_or t.lengths i 0) p.max_source_route many)

-- a directive whose tag is one of the first two is not forced
abbrev pub Unforced : RouteDirective → Type 0
Unforced w = OneOf (0 ∷ 1 ∷ []) (tag_of directive.the_type w)

unforced : (relays : ℕ) (w : RouteDirective) → Unforced w → forced_step relays (Route w) ≡ None
unforced relays StackDecides h = refl
unforced relays (Hint r) h = refl
unforced relays (Force r) h = absurd (⊎_elim (λ e. omega arith) (λ e. omega arith) h)

module _ (routes : List RouteEntry) (t : RecordTable) (neighbors : List NeighborEntry) (d : Nwk) (p : Policy) (relays : ℕ) (suppressed : Bool) (k : SendKind) where
  pub at_once : k ≡ Direct → (Ok (Hop d)) ≡ chosen routes t neighbors d p relays suppressed k
  unfolding chosen
  at_once e = rw e

  module _ (w : RouteDirective) (e : k ≡ Route w) where
    pub by-force : (r : HostRoute) → w ≡ Force r → (x : Result Choice Refusal) → x ≡ host_choice relays r → x ≡ chosen routes t neighbors d p relays suppressed k
    unfolding chosen
    by-force r o x q = rw (e, o) q

    module _ (free : Unforced w) where
      pub to-child : some_fits (fits (EndDeviceChildAt d)) neighbors ≡ true → (Ok (Hop d)) ≡ chosen routes t neighbors d p relays suppressed k
      unfolding chosen
      to-child b = rw (e, unforced relays w free, b)

      pub by-tables : some_fits (fits (EndDeviceChildAt d)) neighbors ≡ false → (x : Result Choice Refusal) → x ≡ tabled routes t d p relays suppressed w
          → x ≡ chosen routes t neighbors d p relays suppressed k
      unfolding chosen
      by-tables b x q = rw (e, unforced relays w free, b) q
