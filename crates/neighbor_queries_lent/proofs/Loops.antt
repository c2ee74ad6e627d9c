-- A walk over the places in use, for any test of the rows: what the first that fits, the count and the collected list are after each turn,
-- and at the end. The rest of the rows is `drop i`.
use Rattle.std.specs.Prelude.{Option, Some, None}
use Prim.Native.Nat.{ℕ, zero, suc, ◌+◌, ◌<◌, ◌≤◌}
use native.Mathlib.Numerals.{add-one}
use native.Mathlib.Omega.{arith}
use mathlib.Core.Bool.{Bool, true, false}
use mathlib.Core.List.{List, [], map}
use mathlib.Core.Logic.{◌⊎◌, inl, inr, ⊎_elim}
use mathlib.Core.Path.{◌≡◌, refl, sym, ap, ◌∙◌, subst}
use mir.Val.{bool_byte}
use borrow.Author.Tests.{lt-ltb, le-ltb}
use lib.Dec.{ltb}
use lib.ListN.{drop, length, get_or, set}
use Rattle.standard.specs.Ordered.{keep}
use Rattle.standard.specs.Query.{first, some_fits, count_fits, entry_at}
use Rattle.standard.specs.Rows.{lesser, least}
use Rattle.types.specs.declared.Nwk.{Nwk}
use Rattle.flat_map.specs.Rows.{pad}
use Rattle.flat_map.proofs.Compare.{below_or_not}
use Rattle.flat_map.proofs.Ordered.{none-some}
use Rattle.flat_map.proofs.Filter.{some_first, some-none, Collects, collect-start, collect-take, collect-skip, collect-out, collect-count, lesser-assoc}
use Rattle.flat_map.proofs.Query.{first-here, first_past, first_done, count-here, count_past, count-done, keep-here, keep-past}
use Rattle.neighbor_table.specs.declared.NeighborEntry.{NeighborEntry}
use Rattle.columns.specs.Columns.{FirstAt}
use Rattle.columns.proofs.First.{first-before, first-there}
use Rattle.neighbor_columns.specs.Codec.{neighbor_from}
use Rattle.neighbor_columns.specs.Table.{NeighborTable, rows_of, row_at, Formed64}
use Rattle.neighbor_columns.proofs.Rows.{next-read, none_left, many, row-in-use, row-not-in-use}
use Rattle.neighbor_queries.specs.Filter.{fits, has_address}
use Rattle.neighbor_queries.specs.Lists.{deadline_of}
use Rattle.neighbor_queries.specs.declared.Filter.{Filter}
use Rattle.neighbor_queries.specs.declared.Filter.TheVariants.{Address, EndDeviceChild, EndDeviceChildAt, SleepyChild, SleepyChildAt, LiveRouter, LiveLinkAt, SampledRouter, TimedOut}
use Rattle.neighbor_queries_lent.specs.Read.{InRow, InTime, Gathered}

-- what holds of every row with the numbers in a place holds of the row there
pub in_row : (t : NeighborTable) (i : ℕ) (P : NeighborEntry → Type 0) → InRow (get_or t.nwks i 0) (get_or t.links i 0) P → P (row_at t i)
in_row t i P q =
    q (get_or t.keys i 0) (get_or t.counts i 0) (get_or t.deadlines i 0) (get_or t.periods i 0) (get_or t.heard i 0) (get_or t.added i 0) (get_or t.beacons i 0)
    (get_or t.bytes i 0)

pub in-time : (t : NeighborTable) (i : ℕ) (P : NeighborEntry → Type 0) → InTime (get_or t.links i 0) (get_or t.deadlines i 0) P → P (row_at t i)
in-time t i P q =
    q (get_or t.keys i 0) (get_or t.nwks i 0) (get_or t.counts i 0) (get_or t.periods i 0) (get_or t.heard i 0) (get_or t.added i 0) (get_or t.beacons i 0)
    (get_or t.bytes i 0)

pub bit-small : (b : Bool) → bool_byte b ≤ 1
bit-small true = omega arith
bit-small false = omega arith

module _ (t : NeighborTable) (f : Formed64 t) (fit : NeighborEntry → Bool) where
  -- the first that fits is still to come
  abbrev pub Ahead : ℕ → Type 0
  Ahead i = first fit (drop i (rows_of t)) ≡ first fit (rows_of t)

  pub ahead_more : (i : ℕ) → i < t.count → fit (row_at t i) ≡ false → Ahead i → Ahead (i + 1)
  ahead_more i h q s = sym (first_past fit (next-read t f i h) q) ∙ s

  -- none of the first r places fits
  pub ahead_of : (r : ℕ) → r ≤ t.count → ((j : ℕ) → j < r → fit (row_at t j) ≡ false) → Ahead r
  ahead_of zero h q = refl
  ahead_of (suc r) h q =
      subst Ahead (add-one r) (ahead_more r (omega (arith, h)) (q r (omega arith)) (ahead_of r (omega (arith, h)) (λ j l. q j (omega (arith, l)))))

  pub first_found : (i : ℕ) → i < t.count → fit (row_at t i) ≡ true → Ahead i → entry_at i (rows_of t) ≡ first fit (rows_of t)
  first_found i h q s = row-in-use t f i h ∙ sym (first-here fit (next-read t f i h) q) ∙ s

  pub first_ended : (i r : ℕ) → t.count ≤ i → t.count ≤ r → Ahead i → entry_at r (rows_of t) ≡ first fit (rows_of t)
  first_ended i r h l s = row-not-in-use t f r l ∙ sym (first_done fit (none_left t f i h)) ∙ s

  -- what stands in such a place
  pub first_some : (r : ℕ) → r < t.count → entry_at r (rows_of t) ≡ first fit (rows_of t) → first fit (rows_of t) ≡ Some (row_at t r)
  first_some r h e = sym e ∙ row-in-use t f r h

  pub first-no : (r : ℕ) → t.count ≤ r → entry_at r (rows_of t) ≡ first fit (rows_of t) → first fit (rows_of t) ≡ None
  first-no r h e = sym e ∙ row-not-in-use t f r h

  -- whether it is before the count says whether there is one
  pub any_told : (r : ℕ) → entry_at r (rows_of t) ≡ first fit (rows_of t) → (r < t.count) ⊎ (t.count ≤ r) → ltb r t.count ≡ some_fits fit (rows_of t)
  any_told r e (inl h) = lt-ltb r t.count h ∙ sym (some_first fit (rows_of t) _ (first_some r h e))
  any_told r e (inr h) = le-ltb r t.count h ∙ sym (some-none fit (rows_of t) (first-no r h e))

  -- n of the rows passed fit
  abbrev pub Counted : ℕ → ℕ → Type 0
  Counted i n = n + count_fits fit (drop i (rows_of t)) ≡ count_fits fit (rows_of t)

  pub counted-more : (i n : ℕ) (b : Bool) → i < t.count → b ≡ fit (row_at t i) → Counted i n → Counted (i + 1) (n + bool_byte b)
  counted-more i n true h e s = omega (arith, s, count-here fit (next-read t f i h) (sym e))
  counted-more i n false h e s = omega (arith, s, count_past fit (next-read t f i h) (sym e))

  pub counted-all : (i n : ℕ) → t.count ≤ i → Counted i n → n ≡ count_fits fit (rows_of t)
  counted-all i n h s = omega (arith, s, count-done fit (none_left t f i h))

-- the earliest deadline of the rows that fit
back-time : (o : Option ℕ) → (o) ≡ o
back-time None = refl
back-time (Some at) = refl

module _ (t : NeighborTable) (f : Formed64 t) (fit : NeighborEntry → Bool) where
  -- m is the earliest of the rows passed
  abbrev pub Earliest : ℕ → Option ℕ → Type 0
  Earliest i m = lesser (m) (least (map deadline_of (keep fit (drop i (rows_of t))))) ≡ least (map deadline_of (keep fit (rows_of t)))

  module _ (i : ℕ) (h : i < t.count) (m next : Option ℕ) (s : Earliest i m) where
    pub earliest-taken : fit (row_at t i) ≡ true → next ≡ (lesser (m) (Some (deadline_of (row_at t i)))) → Earliest (i + 1) next
    earliest-taken q e =
        let rest = least (map deadline_of (keep fit (drop (i + 1) (rows_of t)))) in
        ap (λ (x : Option ℕ). lesser (x) rest) e
        ∙ ap (λ (o : Option ℕ). lesser o rest) (back-time (lesser (m) (Some (deadline_of (row_at t i)))))
        ∙ lesser-assoc (m) (Some (deadline_of (row_at t i))) rest
        ∙ ap (λ (l : List NeighborEntry). lesser (m) (least (map deadline_of l))) (sym (keep-here fit (next-read t f i h) q))
        ∙ s

    pub earliest-passed : fit (row_at t i) ≡ false → next ≡ m → Earliest (i + 1) next
    earliest-passed q e =
        ap (λ (x : Option ℕ). lesser (x) (least (map deadline_of (keep fit (drop (i + 1) (rows_of t)))))) e
        ∙ ap (λ (l : List NeighborEntry). lesser (m) (least (map deadline_of l))) (sym (keep-past fit (next-read t f i h) q))
        ∙ s

-- what g reads off the rows that fit, collected in an array of 64 places
module _ {A : Type 0} (blank : A) (g : NeighborEntry → A) (fit : NeighborEntry → Bool) (t : NeighborTable) (f : Formed64 t) where
  abbrev pub Collected : ℕ → List A → ℕ → Type 0
  Collected i out n = Collects 64 blank g fit (rows_of t) (drop i (rows_of t)) out n

  pub collected-none : (out : List A) → out ≡ pad 64 blank [] → Collected 0 out 0
  collected-none out e = collect-start 64 blank g fit (rows_of t) e (omega (arith, many t f, f.ordered.small))

  module _ (i : ℕ) (h : i < t.count) (out : List A) (n : ℕ) (s : Collected i out n) where
    pub collected-taken : (more : List A) (m : ℕ) → fit (row_at t i) ≡ true → more ≡ set out n (g (row_at t i)) → m ≡ n + 1 → Collected (i + 1) more m
    collected-taken more m q e l =
        subst (λ (k : ℕ). Collected (i + 1) more k) (sym l)
        (subst (λ (o : List A). Collected (i + 1) o (n + 1)) (sym e) (collect-take 64 blank g fit (rows_of t) s (next-read t f i h) q))

    pub collected-passed : (more : List A) (m : ℕ) → fit (row_at t i) ≡ false → more ≡ out → m ≡ n → Collected (i + 1) more m
    collected-passed more m q e l =
        subst (λ (k : ℕ). Collected (i + 1) more k) (sym l)
        (subst (λ (o : List A). Collected (i + 1) o n) (sym e) (collect-skip 64 blank g fit (rows_of t) s (next-read t f i h) q))

  module _ (i : ℕ) (h : t.count ≤ i) (out : List A) (n : ℕ) (s : Collected i out n) where
    pub collected-out : out ≡ pad 64 blank (map g (keep fit (rows_of t)))
    collected-out = collect-out 64 blank g fit (rows_of t) s (none_left t f i h)

    pub collected-count : n ≡ length (map g (keep fit (rows_of t)))
    collected-count = collect-count 64 blank g fit (rows_of t) s (none_left t f i h)

-- the address that a filter names
abbrev pub named : Filter → Option Nwk
named (Address nwk) = Some nwk
named EndDeviceChild = None
named (EndDeviceChildAt nwk) = Some nwk
named SleepyChild = None
named (SleepyChildAt nwk) = Some nwk
named LiveRouter = None
named (LiveLinkAt nwk) = Some nwk
named SampledRouter = None
named (TimedOut now) = None

-- a row with another address does not fit
elsewhere : (filter : Filter) (nwk : Nwk) (e : NeighborEntry) → named filter ≡ Some nwk → has_address nwk e ≡ false → fits filter e ≡ false
unfolding fits
elsewhere (Address n) nwk e p q = let s : n ≡ nwk = cc in rw (s, q)
elsewhere EndDeviceChild nwk e p q = absurd (none-some nwk p)
elsewhere (EndDeviceChildAt n) nwk e p q = let s : n ≡ nwk = cc in rw (s, q)
elsewhere SleepyChild nwk e p q = absurd (none-some nwk p)
elsewhere (SleepyChildAt n) nwk e p q = let s : n ≡ nwk = cc in rw (s, q)
elsewhere LiveRouter nwk e p q = absurd (none-some nwk p)
elsewhere (LiveLinkAt n) nwk e p q = let s : n ≡ nwk = cc in rw (s, q)
elsewhere SampledRouter nwk e p q = absurd (none-some nwk p)
elsewhere (TimedOut now) nwk e p q = absurd (none-some nwk p)

module _ (t : NeighborTable) (f : Formed64 t) (nwk : Nwk) (r : ℕ) (q : FirstAt t.nwks t.count nwk.0 r) where
  -- no row before the first with the address fits
  pub start-ahead : (filter : Filter) → named filter ≡ Some nwk → Ahead t f (fits filter) r
  unfolding neighbor_from
  start-ahead filter p =
      ahead_of t f (fits filter) r q.within
      (λ j l. elsewhere filter nwk (row_at t j) p (first-before t.nwks t.count nwk.0 r q j l))

  -- it is the first row that has it
  pub address-first : entry_at r (rows_of t) ≡ first (fits (Address nwk)) (rows_of t)
  unfolding fits neighbor_from
  address-first =
      ⊎_elim (λ h. first_found t f (fits (Address nwk)) r h (first-there t.nwks t.count nwk.0 r q h) (start-ahead (Address nwk) refl))
      (λ h. first_ended t f (fits (Address nwk)) r r h h (start-ahead (Address nwk) refl)) (below_or_not r t.count)

-- what is written after the first i places, of any table: what `Gathered` says, with what the rows to come still give
module _ {A : Type 0} (tests : ℕ → Bool → Type 0) (reads : ℕ → A → Type 0) (count : ℕ) (old : List A) where
  abbrev pub Gathering : ℕ → List A → ℕ → Type 0
  Gathering i out n =
      (t : NeighborTable) (fit : NeighborEntry → Bool) (g : NeighborEntry → A) (blank : A) (f : Formed64 t) → t.count ≡ count → old ≡ pad 64 blank []
      → ((j : ℕ) (b : Bool) → j < count → tests j b → b ≡ fit (row_at t j)) → ((j : ℕ) (x : A) → j < count → reads j x → x ≡ g (row_at t j))
      → Collected blank g fit t f i out n

  pub gathering-none : Gathering 0 old 0
  gathering-none t fit g blank f z e p q = collected-none blank g fit t f old e

  module _ (i : ℕ) (h : i < count) (out : List A) (n : ℕ) (s : Gathering i out n) (b : Bool) (said : tests i b) where
    pub gathering-taken : b ≡ true → (x : A) → reads i x → (more : List A) (m : ℕ) → more ≡ set out n x → m ≡ n + 1 → Gathering (i + 1) more m
    gathering-taken k x r more m o l t fit g blank f z e p q =
        collected-taken blank g fit t f i (omega arith) out n (s t fit g blank f z e p q) more m (sym (p i b h said) ∙ k) (o ∙ ap (λ (y : A). set out n y) (q i x h r)) l

    pub gathering-passed : b ≡ false → (more : List A) (m : ℕ) → more ≡ out → m ≡ n → Gathering (i + 1) more m
    gathering-passed k more m o l t fit g blank f z e p q = collected-passed blank g fit t f i (omega arith) out n (s t fit g blank f z e p q) more m (sym (p i b h said) ∙ k) o l

  pub gathering-all : (i : ℕ) (out : List A) (n : ℕ) → count ≤ i → Gathering i out n → Gathered tests reads count old out n
  gathering-all i out n h s t fit g blank f z e p q =
      let all = s t fit g blank f z e p q in
      (collected-count blank g fit t f i (omega arith) out n all, collected-out blank g fit t f i (omega arith) out n all)
