-- A refused call hands back the state that it was given: an ill-formed one goes back as it came, and any other refusal leaves the rows, of which a
-- well-formed state is made. "All hand back the given state .. unchanged" (document 01, "Refusal numbers"), of the exported calls.
use Rattle.std.specs.Prelude.{Option, Some, None, Result, Ok, Err}
use Prim.Native.Nat.{ℕ}
use mathlib.Core.Bool.{Bool, true, false, cond, not, ◌&&◌}
use mathlib.Core.List.{List}
use mathlib.Core.Path.{◌≡◌, refl, sym, ap, ◌∙◌}
use lib.Dec.{leb, ltb, eqb}
use lib.ListN.{take}
use Rattle.types.specs.declared.Nwk.{Nwk}
use Rattle.types.specs.declared.Eui64.{Eui64}
use Rattle.types.specs.declared.Refusal.{Refusal}
use Rattle.types.specs.declared.Refusal.TheVariants.{NeighborTableFull, TimePastEnd, ListTooLong, LinkCostTooHigh}
use Rattle.types.specs.Clock.{time_sum}
use Rattle.standard.specs.Ordered.{lookup, put, remove, count_with}
use Rattle.standard.specs.Query.{first}
use Rattle.standard.proofs.Picked.{by-test, both_by}
use Rattle.flat_map.specs.Table.{every}
use Rattle.neighbor_table.specs.declared.NeighborEntry.{NeighborEntry}
use Rattle.neighbor_table.specs.Entry.{neighbor_key}
use Rattle.waiting_table.specs.declared.WaitingEntry.{WaitingEntry}
use Rattle.waiting_table.specs.Entry.{waiting_key}
use Rattle.neighbor_queries.specs.declared.Filter.TheVariants.{EndDeviceChildAt}
use Rattle.neighbor_queries.specs.Filter.{fits}
use Rattle.neighbor_queries.specs.declared.Eui64List.{Eui64List}
use Rattle.children.specs.declared.ChildDescriptor.{ChildDescriptor}
use Rattle.children.specs.Known.{known}
use Rattle.children_lent.specs.Rules as deadlines
use Rattle.children_moves_lent.specs.Rules as moves
use Rattle.link_status.specs.declared.LinkStatusCommand.{LinkStatusCommand}
use Rattle.link_status.specs.declared.Tally.{Tally}
use Rattle.link_status.specs.Statuses.{costs_fit, statuses_of}
use Rattle.link_status.specs.Digest.{finished, new_router, samples_of, tally_by, forever, digested_rows, admitted_rows, heard_rows}
use Rattle.link_status_lent.specs.Columns.{RowsLeft, refused_rows, left_rows, on_link_status_rows}
use Rattle.parent_annce.specs.Settle.{Settling, settle_all, start}
use Rattle.parent_annce.specs.Rules.{list_answer, settled_by}
use Rattle.neighbors.specs.declared.Neighbors.{Neighbors}
use Rattle.neighbors.specs.declared.Outcome.{Outcome}
use Rattle.neighbors.specs.State.{WellFormed, well_formed, table_in, waiting_in, rows, waits, state_of, with_rows}
use Rattle.neighbors.proofs.State.{state-told, rows-kept, held_both}
use Rattle.neighbor_calls.specs.declared.TruthOutcome.{TruthOutcome}
use Rattle.neighbor_calls.specs.declared.NwkOutcome.{NwkOutcome}
use Rattle.neighbor_calls.specs.declared.Removal.{Removal}
use Rattle.neighbor_calls.specs.declared.Announced.{Announced}
use Rattle.neighbor_calls.specs.Children.{refresh_child_timeout, set_child_timeout, upsert_child}
use Rattle.neighbor_calls.specs.Announcements.{remove_claimed_children, process_parent_annce}
use Rattle.neighbor_calls.specs.LinkStatus.{on_link_status}

-- the rules on rows: where the answer is a refusal, the rows are left
module _ (xs : List NeighborEntry) (n : Refusal) where
  refreshed-left : (now : ℕ) (o : Option NeighborEntry) → deadlines.refresh_answer now o ≡ Err n → deadlines.refreshed now o xs ≡ xs
  refreshed-left now None q = refl
  refreshed-left now (Some e) q = by (time_sum now e.device_timeout) q where
    by : (u : Option ℕ) → deadlines.timed u ≡ Err n → deadlines.kept_by e u xs ≡ xs
    by (Some t) r = cc
    by None r = refl

  retimed-left : (nwk : Nwk) (timeout configuration : ℕ) (u : Option ℕ) (o : Option NeighborEntry) → deadlines.set_answer u o ≡ Err n
      → deadlines.retimed nwk timeout configuration u xs ≡ xs
  retimed-left nwk timeout configuration (Some t) None q = cc
  retimed-left nwk timeout configuration (Some t) (Some e) q = cc
  retimed-left nwk timeout configuration None o q = refl

  upserted-left : (child : ChildDescriptor) (now : ℕ) (u : Option ℕ) → moves.upsert_answer child u xs ≡ Err n → moves.upserted child now u xs ≡ xs
  upserted-left child now (Some at) =
      both_by (λ (a : Result Unit Refusal) (ys : List NeighborEntry). a ≡ Err n → ys ≡ xs) (leb (count_with neighbor_key child.eui64.0 xs) 64) _ _ _ _
      (λ _ q. cc) (λ _ q. refl)
  upserted-left child now None = λ q. refl

  settled-left : (confirm : Bool) (list : Eui64List) → list_answer list ≡ Err n → (settled_by confirm list xs).rows ≡ xs
  settled-left confirm list =
      both_by (λ (a : Result Unit Refusal) (x : Settling). a ≡ Err n → x.rows ≡ xs) (ltb 64 list.count) _ _ (start xs) (settle_all confirm (take list.count list.addresses) (start xs))
      (λ _ q. refl) (λ _ q. cc)

-- a link status, on the rows of both tables
module _ (xs : List NeighborEntry) (ws : List WaitingEntry) (n : Refusal) where
  abbrev Left : RowsLeft → Type 0
  Left x = x.answer ≡ Err n → (x.neighbors ≡ xs) × (x.waiting ≡ ws)

  refused-left : (r : Refusal) → Left (refused_rows xs ws r)
  refused-left r q = (refl, refl)

  module _ (own : Nwk) (name : Eui64) (nwk : Nwk) (lqi : ℕ) (command : LinkStatusCommand) (now : ℕ) where
    digested-left : (e : NeighborEntry) (x : Tally) → Left (digested_rows left_rows xs ws nwk now e x)
    digested-left e x =
        by-test (λ (a : Result (Option Nwk) Refusal). Left (left_rows a (put neighbor_key (finished now x e) xs) (remove waiting_key nwk.0 ws))) (ltb 0 e.outgoing_cost && eqb x.cost 0)
        (Ok (Some e.network_address)) (Ok None)
        (λ _ q. (cc, cc)) (λ q. (cc, cc))

    admitted-left : (u : Option ℕ) → Left (admitted_rows (refused_rows xs ws) left_rows xs ws own name nwk lqi command now u)
    admitted-left (Some at) =
        let e = new_router name nwk at now (samples_of nwk lqi ws) in
        by-test Left (leb (count_with neighbor_key name.0 xs) 64) (digested_rows left_rows xs ws nwk now e (tally_by xs own command e)) (refused_rows xs ws NeighborTableFull)
        (λ _. digested-left e (tally_by xs own command e)) (refused-left NeighborTableFull)
    admitted-left None = refused-left TimePastEnd

    heard-left : (o : Option NeighborEntry) → Left (heard_rows (refused_rows xs ws) left_rows xs ws own name nwk lqi command now o)
    heard-left None = admitted-left (time_sum now forever)
    heard-left (Some e) = digested-left e (tally_by xs own command e)

    status-left : Left (on_link_status_rows xs ws own name nwk lqi command now)
    status-left =
        by-test Left (ltb 31 command.count) (refused_rows xs ws ListTooLong) _ (λ _. refused-left ListTooLong)
        (by-test Left (not (every costs_fit (statuses_of command))) (refused_rows xs ws LinkCostTooHigh) _ (λ _. refused-left LinkCostTooHigh)
        (heard-left (lookup neighbor_key name.0 xs)))

-- the exported calls
module _ (s : Neighbors) (n : Refusal) where
  -- of two outcomes by the test of the state, the second hands it back, and the first does where it is refused
  stays : {O A : Type 0} (answer : O → A) (state : O → Neighbors) (a : A) (x y : O) → (WellFormed s → answer x ≡ a → state x ≡ s) → state y ≡ s
      → answer (cond (well_formed s) x y) ≡ a → state (cond (well_formed s) x y) ≡ s
  stays {O} answer state a x y f e = by-test (λ (z : O). answer z ≡ a → state z ≡ s) (well_formed s) x y (λ t. f ((state-told s).fact t)) (λ _. e)

  rows_back : (xs : List NeighborEntry) → WellFormed s → xs ≡ rows s → with_rows s xs ≡ s
  rows_back xs w q = ap (with_rows s) q ∙ sym (rows-kept s w)

  pub refresh-child-timeout-refused : (m : Option Eui64) (k : Option Nwk) (now : ℕ) → (refresh_child_timeout s m k now).answer ≡ Err n → (refresh_child_timeout s m k now).state ≡ s
  unfolding refresh_child_timeout
  refresh-child-timeout-refused m k now =
      stays (λ (x : TruthOutcome). x.answer) (λ x. x.state) (Err n) _ _ (λ w q. rows_back _ w (refreshed-left (rows s) n now (known m k (rows s)) q)) refl

  pub set-child-timeout-refused : (nwk : Nwk) (timeout configuration now : ℕ) → (set_child_timeout s nwk timeout configuration now).answer ≡ Err n
      → (set_child_timeout s nwk timeout configuration now).state ≡ s
  unfolding set_child_timeout
  set-child-timeout-refused nwk timeout configuration now =
      stays (λ (x : TruthOutcome). x.answer) (λ x. x.state) (Err n) _ _
      (λ w q. rows_back _ w (retimed-left (rows s) n nwk timeout configuration (time_sum now timeout) (first (fits (EndDeviceChildAt nwk)) (rows s)) q)) refl

  pub upsert-child-refused : (child : ChildDescriptor) (now : ℕ) → (upsert_child s child now).answer ≡ Err n → (upsert_child s child now).state ≡ s
  unfolding upsert_child
  upsert-child-refused child now =
      stays (λ (x : Outcome). x.answer) (λ x. x.state) (Err n) _ _
      (λ w q. rows_back _ w (upserted-left (rows s) n child now (time_sum now child.device_timeout) q)) refl

  pub remove-claimed-children-refused : (list : Eui64List) → (remove_claimed_children s list).answer ≡ Err n → (remove_claimed_children s list).state ≡ s
  unfolding remove_claimed_children
  remove-claimed-children-refused list =
      stays (λ (x : Removal). x.answer) (λ x. x.state) (Err n) _ _ (λ w q. rows_back _ w (settled-left (rows s) n false list q)) refl

  pub process-parent-annce-refused : (list : Eui64List) → (process_parent_annce s list).answer ≡ Err n → (process_parent_annce s list).state ≡ s
  unfolding process_parent_annce
  process-parent-annce-refused list =
      stays (λ (x : Announced). x.answer) (λ x. x.state) (Err n) _ _ (λ w q. rows_back _ w (settled-left (rows s) n true list q)) refl

  pub on-link-status-refused : (own : Nwk) (name : Eui64) (nwk : Nwk) (lqi : ℕ) (command : LinkStatusCommand) (now : ℕ)
      → (on_link_status s own name nwk lqi command now).answer ≡ Err n → (on_link_status s own name nwk lqi command now).state ≡ s
  unfolding on_link_status
  on-link-status-refused own name nwk lqi command now =
      stays (λ (x : NwkOutcome). x.answer) (λ x. x.state) (Err n) _ _
      (λ w q. let p = status-left (rows s) (waits s) n own name nwk lqi command now q in
      (λ z. state_of (p.0 z) (p.1 z))
      ∙ sym (held_both (table_in s) (rows s) (waiting_in s) (waits s) (record { formed = w.table; rows = refl }) (record { formed = w.pending; rows = refl }))) refl
