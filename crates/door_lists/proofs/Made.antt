-- What a call that is answered with lists leaves of lent columns, by its tests: places that have no room for the lists are no call, columns that are
-- not well formed are left and refused, and in any others columns that hold the rule's rows are the call's state, as long as those that were lent.
use Prim.Native.Nat.{ℕ}
use mathlib.Core.Bool.{Bool, true, false, cond}
use mathlib.Core.List.{List}
use mathlib.Core.Path.{◌≡◌, refl, sym, ◌∙◌}
use lib.ListN.{length}
use Rattle.neighbor_table.specs.declared.NeighborEntry.{NeighborEntry}
use Rattle.neighbor_columns.specs.Table as neighbours
use Rattle.waiting_columns.specs.Table as waits
use Rattle.neighbors.specs.declared.Neighbors.{Neighbors}
use Rattle.neighbors.specs.State.{well_formed, formed_in, table_in, waiting_in, state_in, with_rows}
use Rattle.neighbors.proofs.State.{held}
use Rattle.door.specs.Lent.{Reading, Says, no_call}
use Rattle.door.proofs.Lent.{ill-made, rule-made}
use Rattle.door_neighbors.proofs.Lent.{test_of, formed-in}
use Rattle.door_lists.specs.Answers.{ListsMade}

module _ {O A P : Type 0} {Room : P → Type 0} {reading : Reading A P} {answer : O → A} {next : O → Neighbors} where
  pub no_room : (rule : Neighbors → O) (state : Unit {0} → Neighbors) (old : P) → (Room old → ⊥) → ListsMade Room reading answer next rule state state old old no_call
  no_room rule state old n = record { call = λ h. absurd (n h); none = λ _. record { state = λ _. refl; places = refl; status = refl } }

  module _ (core ill : Neighbors → O) (s : Neighbors) {b : Bool} (told : b ≡ formed_in (table_in s) (waiting_in s)) (old : P) (room : Room old) where
    pub left : b ≡ false → ((x : Neighbors) → next (ill x) ≡ x) → Says reading (answer (ill s)) old old 10
        → ListsMade Room reading answer next (λ (x : Neighbors). cond (well_formed x) (core x) (ill x)) (λ _. s) (λ _. s) old old 10
    left e k x = record { call = λ _. ill-made well_formed core ill (test_of (λ _. s) b false told e) (λ _. sym (k s)) (λ _. x); none = λ n. absurd (n room) }

    pub made : (xs : Neighbors → List NeighborEntry) → ((x : Neighbors) → next (core x) ≡ with_rows x (xs x))
        → b ≡ true → (t : neighbours.NeighborTable) → neighbours.Holds t (xs s) → (new : P) (r : ℕ) → Says reading (answer (core s)) old new r
        → ListsMade Room reading answer next (λ (x : Neighbors). cond (well_formed x) (core x) (ill x)) (λ _. s) (λ _. state_in t (waiting_in s)) old new r
    made xs k e t h new r x = record {
      call = λ _. rule-made well_formed core ill (test_of (λ _. s) b true told e) (λ _. held s t (xs s) h ∙ sym (k s)) (λ _. x);
      none = λ n. absurd (n room);
    }

-- the columns of a table are as long as another's
pub record SameLong (t u : neighbours.NeighborTable) : Type 0 where
  pub keys : length u.keys ≡ length t.keys
  pub nwks : length u.nwks ≡ length t.nwks
  pub links : length u.links ≡ length t.links
  pub counts : length u.counts ≡ length t.counts
  pub deadlines : length u.deadlines ≡ length t.deadlines
  pub periods : length u.periods ≡ length t.periods
  pub heard : length u.heard ≡ length t.heard
  pub added : length u.added ≡ length t.added
  pub beacons : length u.beacons ≡ length t.beacons
  pub bytes : length u.bytes ≡ length t.bytes

pub same-long : (t : neighbours.NeighborTable) (w : waits.WaitingTable) (b : Bool) (u : neighbours.NeighborTable) → b ≡ formed_in t w → b ≡ true → neighbours.WellFormed u → SameLong t u
same-long t w b u e p f =
    let l = f.formed.ordered.long in
    let k = (formed-in t w b e p).table.formed.ordered.long in
    record {
      keys = l.0 ∙ sym k.0;
      nwks = l.1.0 ∙ sym k.1.0;
      links = l.1.1.0 ∙ sym k.1.1.0;
      counts = l.1.1.1.0 ∙ sym k.1.1.1.0;
      deadlines = l.1.1.1.1.0 ∙ sym k.1.1.1.1.0;
      periods = l.1.1.1.1.1.0 ∙ sym k.1.1.1.1.1.0;
      heard = l.1.1.1.1.1.1.0 ∙ sym k.1.1.1.1.1.1.0;
      added = l.1.1.1.1.1.1.1.0 ∙ sym k.1.1.1.1.1.1.1.0;
      beacons = l.1.1.1.1.1.1.1.1.0 ∙ sym k.1.1.1.1.1.1.1.1.0;
      bytes = l.1.1.1.1.1.1.1.1.1.0 ∙ sym k.1.1.1.1.1.1.1.1.1.0;
    }
