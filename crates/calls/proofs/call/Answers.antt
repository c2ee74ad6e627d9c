-- The number's group is found, and its call made; only a call that changes the route records changes the store.
use mathlib.Core.Bool.{true, false}
use mathlib.Core.Path.{◌≡◌, sym, ◌∙◌}
use native.Mathlib.Omega.{arith}
use lib.Dec.{eqb, ltb}
use borrow.Author.Tests.{eq-eqb, ne_eqb, lt-ltb, le-ltb}
use Rattle.calls.specs.Groups.{group_of, call_by, call_of, store_of}
use Rattle.calls.proofs.call.Goals as goal

pub returns-then-g-lt7 : goal.returns-then-g-lt7
unfolding call_of call_by store_of
returns-then-g-lt7 c =
    let n = c.args.number in
    let e = c.group-g.ensures in
    let small = c.if-g-lt7.true in
    let hit : ltb (group_of n) 7 ≡ true = lt-ltb (group_of n) 7 (omega (arith, e, small)) in
    let kept : eqb (group_of n) 7 ≡ false = ne_eqb (group_of n) 7 (λ d. omega (arith, e, small, d)) in
    record { value = rw hit (c.asked.ensures ∙ rw (c.ask-answer.ensures, e)); store_after = rw kept }

pub returns-then-g-eq7 : goal.returns-then-g-eq7
unfolding call_of call_by store_of
returns-then-g-eq7 c =
    let n = c.args.number in
    let e = c.group-g.ensures in
    let big = c.if-g-lt7.false in
    let miss : ltb (group_of n) 7 ≡ false = le-ltb (group_of n) 7 (omega (arith, e, big)) in
    let hit : eqb (group_of n) 7 ≡ true = eq-eqb (group_of n) 7 (sym e ∙ c.if-g-eq7.true) in
    record { value = rw (miss, hit) (c.routed.ensures ∙ rw c.change_records.ensures.value); store_after = rw hit c.change_records.ensures.store_after }

pub returns-then-g-lt11 : goal.returns-then-g-lt11
unfolding call_of call_by store_of
returns-then-g-lt11 c =
    let n = c.args.number in
    let e = c.group-g.ensures in
    let big = c.if-g-lt7.false in
    let small = c.if-g-lt11.true in
    let miss : ltb (group_of n) 7 ≡ false = le-ltb (group_of n) 7 (omega (arith, e, big)) in
    let kept : eqb (group_of n) 7 ≡ false = ne_eqb (group_of n) 7 (λ d. c.if-g-eq7.false (e ∙ d)) in
    let hit : ltb (group_of n) 11 ≡ true = lt-ltb (group_of n) 11 (omega (arith, e, small)) in
    record { value = rw (miss, kept, hit) (c.routed-then-g-lt11.ensures ∙ rw (c.change_routing.ensures, e)); store_after = rw kept }

pub returns-then-g-lt14 : goal.returns-then-g-lt14
unfolding call_of call_by store_of
returns-then-g-lt14 c =
    let n = c.args.number in
    let e = c.group-g.ensures in
    let miss : ltb (group_of n) 7 ≡ false = le-ltb (group_of n) 7 (omega (arith, e, c.if-g-lt7.false)) in
    let kept : eqb (group_of n) 7 ≡ false = ne_eqb (group_of n) 7 (λ d. c.if-g-eq7.false (e ∙ d)) in
    let past : ltb (group_of n) 11 ≡ false = le-ltb (group_of n) 11 (omega (arith, e, c.if-g-lt11.false)) in
    let hit : ltb (group_of n) 14 ≡ true = lt-ltb (group_of n) 14 (omega (arith, e, c.if-g-lt14.true)) in
    record { value = rw (miss, kept, past, hit) (c.neighboured.ensures ∙ rw (c.change_neighbors.ensures, e)); store_after = rw kept }

pub returns : goal.returns
unfolding call_of call_by store_of
returns c =
    let n = c.args.number in
    let e = c.group-g.ensures in
    let miss : ltb (group_of n) 7 ≡ false = le-ltb (group_of n) 7 (omega (arith, e, c.if-g-lt7.false)) in
    let kept : eqb (group_of n) 7 ≡ false = ne_eqb (group_of n) 7 (λ d. c.if-g-eq7.false (e ∙ d)) in
    let past : ltb (group_of n) 11 ≡ false = le-ltb (group_of n) 11 (omega (arith, e, c.if-g-lt11.false)) in
    let last : ltb (group_of n) 14 ≡ false = le-ltb (group_of n) 14 (omega (arith, e, c.if-g-lt14.false)) in
    record { value = rw (miss, kept, past, last) (c.asked-2.ensures ∙ rw (c.done.ensures, c.fresh.ensures)); store_after = rw kept }
