-- What an address does is what its verdict says, and each way of the code leaves it; the rest of a list, done from here, gives what the whole does.
use Rattle.std.specs.Prelude.{Result, Ok, Err}
use Prim.Native.Nat.{ℕ, ◌+◌, ◌<◌, ◌≤◌}
use native.Mathlib.Omega.{arith}
use mathlib.Core.Bool.{Bool, true, false, cond, ◌&&◌}
use mathlib.Core.List.{List, ◌∷◌}
use mathlib.Core.Path.{◌≡◌, refl, sym, ap, ◌∙◌, subst}
use borrow.Author.Tests.{lt-ltb, le-ltb}
use lib.Dec.{ltb}
use lib.ListN.{take, drop, get_or}
use Rattle.types.specs.declared.Eui64.{Eui64}
use Rattle.types.specs.declared.Refusal.TheVariants.{ListTooLong}
use Rattle.standard.specs.Ordered.{lookup, remove}
use Rattle.flat_map.specs.Seek.{place_of}
use Rattle.neighbor_table.specs.declared.NeighborEntry.{NeighborEntry}
use Rattle.neighbor_table.specs.Entry.{neighbor_key, is_end_device}
use Rattle.neighbor_columns.specs.Codec.{link_of, neighbor_from}
use Rattle.neighbor_columns.specs.Lent.{with_count}
use Rattle.neighbor_columns.specs.Table.{NeighborTable, rows_of, row_at, WellFormed, Holds}
use Rattle.neighbor_columns.specs.Table as table
use Rattle.neighbor_columns.proofs.Rows.{found-row, missing-row, taken_out, remove-holds}
use Rattle.neighbor_queries.specs.declared.ChildList.{ChildList}
use Rattle.neighbor_queries.specs.declared.Eui64List.{Eui64List}
use Rattle.neighbor_queries.specs.Lists.{eui_list, child_list, one_more_eui, one_more_child}
use Rattle.parent_annce.specs.Settle.{Settling, claim, drop_one, settle_one, settle_all, start}
use Rattle.parent_annce.proofs.Rows.{one-more-eui, one-more-child, settle-none, settle-some, Few, step-few}
use Rattle.parent_annce.specs.declared.Progress.{Progress}
use Rattle.parent_annce.specs.declared.Verdict.{Verdict}
use Rattle.parent_annce.specs.declared.Verdict.TheVariants.{Away, Claimed, Goes}
use Rattle.parent_annce.specs.Rules.{verdict_at, child, Reaches, Advances, list_answer, settled_by}

-- the place of an address that goes is where it was found
pub goes-found : (confirm : Bool) (links : List ℕ) (i : ℕ) (p : Result ℕ ℕ) → Goes i ≡ verdict_at confirm links p → Ok i ≡ p
goes-found confirm links i (Ok j) e = go (is_end_device (link_of (get_or links j 0)).device_type) (confirm && (link_of (get_or links j 0)).keepalive_received) e where
  go : (a b : Bool) → Goes i ≡ cond a (cond b Claimed (Goes j)) Away → ◌≡◌ {A = (Result ℕ ℕ)} (Ok i) (Ok j)
  go true true h = absurd (let z : ◌≡◌ {A = ℕ} 0 1 = cc in omega arith)
  go true false h = cc
  go false b h = absurd (let z : ◌≡◌ {A = ℕ} 0 1 = cc in omega arith)
goes-found confirm links i (Err j) e = absurd (let z : ◌≡◌ {A = ℕ} 0 1 = cc in omega arith)

module _ (t : NeighborTable) (w : WellFormed t) (confirm : Bool) (eui64 : Eui64) where
  -- where the address stands
  abbrev place : Result ℕ ℕ
  place = place_of (take t.count t.keys) eui64.0

  -- what a verdict does
  abbrev done : Verdict → Settling → Settling
  done Away x = x
  done Claimed x = claim eui64 x
  done (Goes i) x = drop_one eui64 (row_at t i) x

  settled : (x : Settling) → rows_of t ≡ x.rows → (p : Result ℕ ℕ) → p ≡ place → settle_one confirm eui64 x ≡ done (verdict_at confirm t.links p) x
  unfolding neighbor_from
  settled x q (Err i) e = settle-none confirm eui64 x (sym (ap (lookup neighbor_key eui64.0) q) ∙ missing-row t w.formed eui64.0 i e)
  settled x q (Ok i) e =
      settle-some confirm eui64 x (row_at t i) (sym (ap (lookup neighbor_key eui64.0) q) ∙ found-row t w.formed eui64.0 i e)
      ∙ pick (is_end_device (link_of (get_or t.links i 0)).device_type) (confirm && (link_of (get_or t.links i 0)).keepalive_received)
    where
      pick : (a b : Bool) → cond a (cond b (claim eui64 x) (drop_one eui64 (row_at t i) x)) x ≡ done (cond a (cond b Claimed (Goes i)) Away) x
      pick true true = refl
      pick true false = refl
      pick false b = refl

  module _ (claimed : Eui64List) (removed : ChildList) where
    told : (v : Verdict) → v ≡ verdict_at confirm t.links place → (x : Settling) → Reaches t claimed removed x → done v x ≡ settle_one confirm eui64 x
    told v e x r = sym (settled x r.neighbors.rows place refl ∙ ap (λ (y : Verdict). done y x) (sym e))

    pub stays : Away ≡ verdict_at confirm t.links place → Advances t claimed removed t claimed removed confirm eui64
    stays e x r = subst (Reaches t claimed removed) (told Away e x r) r

    pub claims : Claimed ≡ verdict_at confirm t.links place → claimed.count < 64 → (n : ℕ) (more : Eui64List) (same : ChildList)
        → (n ≡ t.count) × (more ≡ one_more_eui claimed eui64) × (same ≡ removed) → Advances t claimed removed (with_count n t) more same confirm eui64
    unfolding eui_list
    claims e room n more same (k, p, q) x r =
        subst (Reaches (with_count n t) more same) (told Claimed e x r)
        (record {
          neighbors = subst (λ (m : ℕ). Holds (with_count m t) x.rows) (sym k) r.neighbors;
          claims = p ∙ ap (λ (l : Eui64List). one_more_eui l eui64) r.claims ∙ one-more-eui x.claimed eui64 (omega (arith, room, ap (λ (l : Eui64List). l.count) r.claims));
          removals = q ∙ r.removals;
        })

    pub goes : (i : ℕ) → Goes i ≡ verdict_at confirm t.links place → removed.count < 64 → (u : NeighborTable) → u ≡ table.removed t i → (n : ℕ) (same : Eui64List) (more : ChildList)
        → (n ≡ u.count) × (same ≡ claimed) × (more ≡ one_more_child removed (child eui64 (record { 0 = get_or t.nwks i 0 })))
        → Advances t claimed removed (with_count n u) same more confirm eui64
    unfolding child_list neighbor_from
    goes i e room u m n same more (k, p, q) x r =
        subst (Reaches (with_count n u) same more) (told (Goes i) e x r)
        (record {
          neighbors =
              subst (λ (xs : List NeighborEntry). Holds (with_count n u) (remove neighbor_key eui64.0 xs)) r.neighbors.rows
              (remove-holds t (with_count n u) eui64.0 w
              (subst (λ (y : NeighborTable). table.Keeps y (remove neighbor_key eui64.0 (rows_of t))) (sym (ap (λ (l : ℕ). with_count l u) k ∙ m))
              (taken_out t w.formed eui64.0 i (goes-found confirm t.links i place e))));
          claims = p ∙ r.claims;
          removals =
              q ∙ ap (λ (l : ChildList). one_more_child l (child eui64 (record { 0 = get_or t.nwks i 0 }))) r.removals
              ∙ one-more-child x.removed (child eui64 (record { 0 = get_or t.nwks i 0 })) (omega (arith, room, ap (λ (l : ChildList). l.count) r.removals));
        })

-- a loop that has gone through i addresses
pub record Settles (confirm : Bool) (list : List Eui64) (xs : List NeighborEntry) (t : NeighborTable) (s : Progress) (i : ℕ) : Type 0 where
  pub now : Settling
  pub reaches : Reaches t s.claimed s.removed now
  pub few : Few i now
  pub rest : settle_all confirm (drop i list) now ≡ settle_all confirm list (start xs)

module _ (confirm : Bool) (list : List Eui64) (xs : List NeighborEntry) (t : NeighborTable) (s : Progress) (i : ℕ) (h : Settles confirm list xs t s i) where
  -- what a step asks of the lists
  pub ready : i < 64 → WellFormed t × (s.claimed.count < 64) × (s.removed.count < 64)
  unfolding eui_list child_list
  ready room = (
    h.reaches.neighbors.formed,
    omega (arith, room, ap (λ (l : Eui64List). l.count) h.reaches.claims, h.few.claims),
    omega (arith, room, ap (λ (l : ChildList). l.count) h.reaches.removals, h.few.removals),
  )

  pub settles-more : (a : Eui64) → drop i list ≡ a ∷ drop (i + 1) list → (u : NeighborTable) (r : Progress) → Advances t s.claimed s.removed u r.claimed r.removed confirm a
      → Settles confirm list xs u r (i + 1)
  settles-more a next u r g = record {
    now = settle_one confirm a h.now;
    reaches = g h.now h.reaches;
    few = step-few confirm a h.now i h.few;
    rest = sym (ap (λ (l : List Eui64). settle_all confirm l h.now) next) ∙ h.rest;
  }

-- by the length of the list
module _ (confirm : Bool) (list : Eui64List) (xs : List NeighborEntry) (t : NeighborTable) (claimed : Eui64List) (removed : ChildList) where
  abbrev left : Bool → Settling
  left b = cond b (start xs) (settle_all confirm (take list.count list.addresses) (start xs))

  by_length : (b : Bool) → ltb 64 list.count ≡ b → Reaches t claimed removed (left b)
      → (cond b (Err ListTooLong) (Ok tt) ≡ list_answer list) × Reaches t claimed removed (settled_by confirm list xs)
  by_length b e r = (ap (λ (x : Bool). cond x (Err ListTooLong) (Ok tt)) (sym e), subst (λ (x : Bool). Reaches t claimed removed (left x)) (sym e) r)

  pub too_long : 64 < list.count → Reaches t claimed removed (start xs) → (Err ListTooLong ≡ list_answer list) × Reaches t claimed removed (settled_by confirm list xs)
  too_long h r = by_length true (lt-ltb 64 list.count h) r

  pub gone-through : list.count ≤ 64 → Reaches t claimed removed (settle_all confirm (take list.count list.addresses) (start xs))
      → ((Ok tt) ≡ list_answer list) × Reaches t claimed removed (settled_by confirm list xs)
  gone-through h r = by_length false (le-ltb 64 list.count h) r
