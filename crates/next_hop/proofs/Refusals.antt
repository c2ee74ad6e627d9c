-- The refusals 10, 9 and 8 are given exactly when their tests say so, in that order: the decision itself refuses with 6 and 7 alone,
-- since each of its outcomes does.
use Rattle.std.specs.Prelude.{Result, Ok, Err}
use Prim.Native.Nat.{ℕ}
use native.Mathlib.Omega.{arith}
use mathlib.Core.Bool.{Bool, true, false, cond, not, ◌&&◌, ◌||◌}
use mathlib.Core.List.{List}
use mathlib.Core.Path.{◌≡◌, refl, ap}
use lib.Dec.{leb}
use Rattle.types.specs.Refusal.{refusal_number}
use Rattle.types.specs.declared.Refusal.TheVariants.{ListTooLong, StoreDisagrees, StateIllFormed}
use Rattle.standard.specs.Tells.{Tells}
use Rattle.standard.proofs.Tells.{yes-so, not_so}
use Rattle.relay_store.specs.Store.{agrees}
use Rattle.routing.specs.State.{record_table}
use Rattle.routing.specs.declared.Routing.{Routing}
use Rattle.routing.specs.State as routes
use Rattle.neighbors.specs.declared.Neighbors.{Neighbors}
use Rattle.neighbors.specs.State as neighbours
use Rattle.frame.specs.declared.NwkHeader.{NwkHeader}
use Rattle.frame.specs.Header.{carries_long, is_suppressed}
use Rattle.next_hop.specs.declared.SendMode.{SendMode}
use Rattle.next_hop.specs.declared.NextHop.{NextHop}
use Rattle.next_hop.specs.declared.NextHop.TheVariants.{Resolved, NeedDiscovery, Discard}
use Rattle.hop_choice.specs.declared.Policy.{Policy}
use Rattle.next_hop.specs.declared.ResolveOutcome.{ResolveOutcome}
use Rattle.next_hop.specs.Decision.{refused_with, decided, names_long, resolve}
use Rattle.next_hop.proofs.Outcomes.{decided-by}
use Rattle.types.specs.declared.Refusal.{Refusal}

-- no refusal, or 6 or 7
abbrev pub on_path : Result NextHop Refusal → Bool
on_path (Err why) = leb 6 (refusal_number why) && leb (refusal_number why) 7
on_path (Ok (Resolved n)) = true
on_path (Ok NeedDiscovery) = true
on_path (Ok Discard) = true

ends-on-path : (b : Bool) → on_path (cond b (Ok Discard) (Ok NeedDiscovery)) ≡ true
ends-on-path true = refl
ends-on-path false = refl

pub decided-on-path : (r : Routing) (n : Neighbors) (h : NwkHeader) (m : SendMode) (p : Policy) (store : List ℕ) → on_path (decided r n h m p store).answer ≡ true
decided-on-path r n h m p store =
    decided-by r h m p store (λ x. on_path x.answer ≡ true) (λ next. refl) refl refl refl refl
    (ends-on-path (is_suppressed h.frame_control.discover_route))
    n

-- the answer after the three tests, whatever the decision is
abbrev tested : NwkHeader → Bool → Bool → Bool → ResolveOutcome → Result NextHop Refusal
tested h a b c x = (cond a (cond b (cond c (refused_with h ListTooLong) x) (refused_with h StoreDisagrees)) (refused_with h StateIllFormed)).answer

module _ (h : NwkHeader) (x : ResolveOutcome) (mild : on_path x.answer ≡ true) where
  -- the decision gives none of the three
  never : {a : (Result NextHop Refusal)} → on_path a ≡ false → x.answer ≡ a → ⊥
  never off e = let z : ◌≡◌ {A = Bool} true false = cc (ap on_path e) in let y : ◌≡◌ {A = ℕ} 0 1 = cc in omega arith

  ten : (a b c : Bool) → Tells (tested h a b c x ≡ Err StateIllFormed) (not a)
  ten false b c = yes-so refl
  ten true false c = not_so (λ e. let z : ◌≡◌ {A = ℕ} 0 1 = cc in omega arith)
  ten true true true = not_so (λ e. let z : ◌≡◌ {A = ℕ} 0 1 = cc in omega arith)
  ten true true false = not_so (λ e. never refl e)

  nine : (a b c : Bool) → Tells (tested h a b c x ≡ Err StoreDisagrees) (a && not b)
  nine false b c = not_so (λ e. let z : ◌≡◌ {A = ℕ} 0 1 = cc in omega arith)
  nine true false c = yes-so refl
  nine true true true = not_so (λ e. let z : ◌≡◌ {A = ℕ} 0 1 = cc in omega arith)
  nine true true false = not_so (λ e. never refl e)

  eight : (a b c : Bool) → Tells (tested h a b c x ≡ Err ListTooLong) (a && (b && c))
  eight false b c = not_so (λ e. let z : ◌≡◌ {A = ℕ} 0 1 = cc in omega arith)
  eight true false c = not_so (λ e. let z : ◌≡◌ {A = ℕ} 0 1 = cc in omega arith)
  eight true true true = yes-so refl
  eight true true false = not_so (λ e. never refl e)

module _ (r : Routing) (n : Neighbors) (h : NwkHeader) (m : SendMode) (p : Policy) (store : List ℕ) where
  abbrev formed : Bool
  formed = routes.well_formed r && neighbours.well_formed n

  abbrev agree : Bool
  agree = agrees (record_table r) store

  abbrev long : Bool
  long = names_long m || carries_long h

  pub refused-10 : Tells ((resolve r n h m p store).answer ≡ Err StateIllFormed) (not formed)
  unfolding resolve
  refused-10 = ten h (decided r n h m p store) (decided-on-path r n h m p store) formed agree long

  pub refused-9 : Tells ((resolve r n h m p store).answer ≡ Err StoreDisagrees) (formed && not agree)
  unfolding resolve
  refused-9 = nine h (decided r n h m p store) (decided-on-path r n h m p store) formed agree long

  pub refused-8 : Tells ((resolve r n h m p store).answer ≡ Err ListTooLong) (formed && (agree && long))
  unfolding resolve
  refused-8 = eight h (decided r n h m p store) (decided-on-path r n h m p store) formed agree long
