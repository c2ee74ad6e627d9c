-- A call by value is refused where its state is not well formed and has its rule's outcome elsewhere; what it leaves of lent columns follows from
-- either, whatever the counters are. What a call leaves, and what a question leaves, is one outcome only, and a refused call leaves all as it was.
use Rattle.std.specs.Prelude.{Ok, Err}
use Prim.Native.Nat.{ℕ, ◌<◌}
use native.Mathlib.Omega.{arith}
use mathlib.Core.List.{List}
use mathlib.Core.Bool.{Bool, true, false, cond}
use mathlib.Core.Path.{◌≡◌, refl, sym, ap, subst, ◌∙◌}
use Rattle.standard.specs.declared.RouteEntry.{RouteEntry}
use Rattle.standard.specs.Records.{RouteRecord}
use Rattle.standard.specs.Tables.{Tables}
use Rattle.standard.proofs.Picked.{by-test}
use Rattle.route_table.specs.Table as routes
use Rattle.discovery_table.specs.Table as discoveries
use Rattle.record_table.specs.Table as records
use Rattle.route_table.proofs.Rows.{holds-table}
use Rattle.relay_store.specs.Packed.{table_for, store_for}
use Rattle.route_record.specs.Answer.{HoldsRecords}
use Rattle.route_record.proofs.Kept.{holds-view}
use Rattle.search_tables.specs.Packed.{SearchTables}
use Rattle.search_tables.specs.Packed as search
use Rattle.search_tables.proofs.Packing.{holds-packed}
use Rattle.routing.specs.declared.Routing.{Routing}
use Rattle.routing.specs.State.{WellFormed, well_formed, formed_in, route_table, discovery_table, record_table, state_of}
use Rattle.routing.proofs.State.{state-told, columns-told}
use Rattle.door.specs.Places.{done_numbers, told_numbers}
use Rattle.door.specs.Lent.{Counters, Reading, Says, Made, Asked, Stored}

-- the test of lent columns is that of every state that has them
pub test_of : (state : Counters → Routing) (b x : Bool) → ((c : Counters) → b ≡ formed_in (route_table (state c)) (discovery_table (state c)) (record_table (state c))) → b ≡ x
    → (c : Counters) → well_formed (state c) ≡ x
test_of state b x e p c = sym (columns-told (state c) (e c)) ∙ p

-- and tells that such a state is well formed, and its tables
pub formed-of : (s : Routing) (b : Bool) → b ≡ formed_in (route_table s) (discovery_table s) (record_table s) → b ≡ true → WellFormed s
formed-of s b e p = (state-told s).fact (sym (columns-told s e) ∙ p)

pub formed-in : (t : routes.RouteTable) (d : discoveries.DiscoveryTable) (u : records.RecordTable) (b : Bool) → b ≡ formed_in t d u → b ≡ true → WellFormed (state_of 0 0 0 t d u)
formed-in t d u b e p = formed-of (state_of 0 0 0 t d u) b e p

-- the same numbers, of an answer that is the same
pub says-as : {A P : Type 0} {reading : Reading A P} {a b : A} {old new : P} {r : ℕ} → a ≡ b → Says reading a old new r → Says reading b old new r
says-as {reading = reading} {old = old} e x = record { status = x.status ∙ ap reading.status e; places = x.places ∙ ap (λ a. reading.places a old) e }

-- columns that hold rows are the rows put into columns, beside counters and tables that are as they were
module _ (errors failures id : ℕ) where
  pub search-left : (u : records.RecordTable) (w : SearchTables) (t : Tables) → search.Holds w t
      → state_of errors failures id w.routes w.discoveries u ≡ state_of errors failures id (routes.table_of t.routes) (discoveries.table_of t.discoveries) u
  search-left u w t h = ap (λ (v : SearchTables). state_of errors failures id v.routes v.discoveries u) (holds-packed w t h)

  pub records-left : (t : routes.RouteTable) (d : discoveries.DiscoveryTable) (u : records.RecordTable) (store : List ℕ) (xs : List RouteRecord) → HoldsRecords u store xs
      → state_of errors failures id t d u ≡ state_of errors failures id t d (table_for xs)
  records-left t d u store xs h = ap (state_of errors failures id t d) (holds-view u store xs h).0

  pub routes-left : (t : routes.RouteTable) (d : discoveries.DiscoveryTable) (u : records.RecordTable) (xs : List RouteEntry) → routes.Holds t xs
      → state_of errors failures id t d u ≡ state_of errors failures id (routes.table_of xs) d u
  routes-left t d u xs h = ap (λ (v : routes.RouteTable). state_of errors failures id v d u) (holds-table t xs h)

-- and the store with the records is theirs
pub store-left : (u : records.RecordTable) (store : List ℕ) (xs : List RouteRecord) → HoldsRecords u store xs → store ≡ store_for xs
store-left u store xs h = (holds-view u store xs h).1

-- A call by value is a test of the state, the rule's outcome and a refusal.
module _ {C S A P : Type 0} (test : S → Bool) (core ill : S → A) {reading : Reading A P} {state : C → S} {old new : P} {r : ℕ} where
  pub ill-asked : ((c : C) → test (state c) ≡ false) → ((c : C) → Says reading (ill (state c)) old new r)
      → Asked reading (λ (s : S). cond (test s) (core s) (ill s)) state old new r
  ill-asked e x = record { said = λ c. rw (e c) (x c) }

  pub rule-asked : ((c : C) → test (state c) ≡ true) → ((c : C) → Says reading (core (state c)) old new r)
      → Asked reading (λ (s : S). cond (test s) (core s) (ill s)) state old new r
  rule-asked e x = record { said = λ c. rw (e c) (x c) }

module _ {C S O A P : Type 0} (test : S → Bool) (core ill : S → O) {reading : Reading A P} {answer : O → A} {next : O → S} {before after : C → S} {old new : P} {r : ℕ} where
  pub ill-made : ((c : C) → test (before c) ≡ false)
      → ((c : C) → after c ≡ next (ill (before c))) → ((c : C) → Says reading (answer (ill (before c))) old new r)
      → Made reading answer next (λ (s : S). cond (test s) (core s) (ill s)) before after old new r
  ill-made e s x = record { state = λ c. rw (e c) (s c); said = λ c. rw (e c) (x c) }

  pub rule-made : ((c : C) → test (before c) ≡ true)
      → ((c : C) → after c ≡ next (core (before c))) → ((c : C) → Says reading (answer (core (before c))) old new r)
      → Made reading answer next (λ (s : S). cond (test s) (core s) (ill s)) before after old new r
  rule-made e s x = record { state = λ c. rw (e c) (s c); said = λ c. rw (e c) (x c) }

-- and so for the store that a call leaves
module _ {O A P : Type 0} (core ill : Routing → O) (core_store ill_store : Routing → List ℕ) {reading : Reading A P} {answer : O → A} {next : O → Routing} {before after : Counters → Routing} {later : List ℕ} {old new : P} {r : ℕ} where
  pub ill-stored : ((c : Counters) → well_formed (before c) ≡ false)
      → ((c : Counters) → after c ≡ next (ill (before c))) → ((c : Counters) → later ≡ ill_store (before c)) → ((c : Counters) → Says reading (answer (ill (before c))) old new r)
      → Stored reading answer next (λ (s : Routing). cond (well_formed s) (core s) (ill s)) (λ (s : Routing). cond (well_formed s) (core_store s) (ill_store s)) before after later old new r
  ill-stored e s k x = record { made = ill-made well_formed core ill e s x; kept = λ c. rw (e c) (k c) }

  pub rule-stored : ((c : Counters) → well_formed (before c) ≡ true)
      → ((c : Counters) → after c ≡ next (core (before c))) → ((c : Counters) → later ≡ core_store (before c)) → ((c : Counters) → Says reading (answer (core (before c))) old new r)
      → Stored reading answer next (λ (s : Routing). cond (well_formed s) (core s) (ill s)) (λ (s : Routing). cond (well_formed s) (core_store s) (ill_store s)) before after later old new r
  rule-stored e s k x = record { made = rule-made well_formed core ill e s x; kept = λ c. rw (e c) (k c) }

-- one outcome only
pub asked-one : {C S A P : Type 0} {reading : Reading A P} {ask : S → A} {state : C → S} {old new new' : P} {r r' : ℕ}
    → Asked reading ask state old new r → Asked reading ask state old new' r' → C → (new ≡ new') × (r ≡ r')
asked-one x y c = ((x.said c).places ∙ sym (y.said c).places, (x.said c).status ∙ sym (y.said c).status)

pub made_one : {C S O A P : Type 0} {reading : Reading A P} {answer : O → A} {next : O → S} {call : S → O} {before after after' : C → S} {old new new' : P} {r r' : ℕ}
    → Made reading answer next call before after old new r → Made reading answer next call before after' old new' r'
    → (c : C) → (after c ≡ after' c) × (new ≡ new') × (r ≡ r')
made_one x y c = (x.state c ∙ sym (y.state c), (x.said c).places ∙ sym (y.said c).places, (x.said c).status ∙ sym (y.said c).status)

pub stored_one : {O A P : Type 0} {reading : Reading A P} {answer : O → A} {next : O → Routing} {call : Routing → O} {store : Routing → List ℕ} {before after after' : Counters → Routing} {later later' : List ℕ} {old new new' : P} {r r' : ℕ}
    → Stored reading answer next call store before after later old new r → Stored reading answer next call store before after' later' old new' r'
    → (c : Counters) → (after c ≡ after' c) × (later ≡ later') × (new ≡ new') × (r ≡ r')
stored_one x y c = let z = made_one x.made y.made c in (z.0, x.kept c ∙ sym (y.kept c), z.1, z.2)

-- A refused call changes nothing that is lent: its numbers keep the places, and by value it hands back the state.
abbrev pub Keeps : {A P : Type 0} → Reading A P → Type 0
Keeps {A = A} {P = P} reading = (a : A) (old : P) → 0 < reading.status a → reading.places a old ≡ old

pub record Hands {S O A P : Type 0} (reading : Reading A P) (answer : O → A) (next : O → S) (call : S → O) : Type 0 where
  pub back : (s : S) → 0 < reading.status (answer (call s)) → next (call s) ≡ s

-- a call that its test alone refuses
pub hands-first : {S O A P : Type 0} (test : S → Bool) (core ill : S → O) {reading : Reading A P} {answer : O → A} {next : O → S}
    → ((s : S) → reading.status (answer (core s)) ≡ 0) → ((s : S) → next (ill s) ≡ s)
    → Hands reading answer next (λ (s : S). cond (test s) (core s) (ill s))
hands-first {S = S} {O = O} test core ill {reading} {answer} {next} z h = record { back = go } where
  go : (s : S) → 0 < reading.status (answer (cond (test s) (core s) (ill s))) → next (cond (test s) (core s) (ill s)) ≡ s
  go s = by-test (λ (x : O). 0 < reading.status (answer x) → next x ≡ s) (test s) (core s) (ill s) (λ _ p. absurd (omega (arith, z s))) (λ _. h s)

module _ {C S A P : Type 0} {reading : Reading A P} {ask : S → A} {state : C → S} {old new : P} {r : ℕ} where
  pub refused-asked : Keeps reading → Asked reading ask state old new r → 0 < r → C → new ≡ old
  refused-asked keeps x p c = (x.said c).places ∙ keeps (ask (state c)) old (subst (λ (n : ℕ). 0 < n) (x.said c).status p)

module _ {C S O A P : Type 0} {reading : Reading A P} {answer : O → A} {next : O → S} {call : S → O} {before after : C → S} {old new : P} {r : ℕ} where
  pub refused-made : Keeps reading → Hands reading answer next call → Made reading answer next call before after old new r → 0 < r
      → (c : C) → (after c ≡ before c) × (new ≡ old)
  refused-made keeps hands x p c =
      let q : 0 < reading.status (answer (call (before c))) = subst (λ (n : ℕ). 0 < n) (x.said c).status p in
      (x.state c ∙ hands.back (before c) q, (x.said c).places ∙ keeps (answer (call (before c))) old q)

-- the answers that are done or told
pub done-keeps : Keeps done_numbers
done-keeps a old p = refl

pub told-keeps : Keeps told_numbers
told-keeps (Err why) old p = refl
told-keeps (Ok b) old p = absurd (omega arith)
