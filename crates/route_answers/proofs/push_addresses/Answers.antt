-- What is put already, and the rest of the relays put after it, is all of them put; no place is past the 32nd.
use Prim.Native.Nat.{◌+◌, min}
use mathlib.Core.List.{map}
use mathlib.Core.Path.{◌≡◌, refl, sym, ◌∙◌, ap}
use lib.ListN.{length, take, drop, drop_of_length-le}
use borrow.Author.Rules.{rules}
use Rattle.numbers.specs.declared.Numbers.{Numbers}
use Rattle.numbers.specs.Said.{pushed_all}
use Rattle.numbers.proofs.Pushed.{put_next}
use Rattle.std.proofs.lemmas.List.{take_min}
use Rattle.standard.specs.Route.{nwk}
use Rattle.flat_map.proofs.Shift.{unmapped}
use Rattle.relay_store.specs.Store.{number}
use Rattle.route_answers.proofs.push_addresses.Goals as goal

pub loop-a-init : goal.loop-a-init
loop-a-init c = refl

pub loop-a-preserved : goal.loop-a-preserved
loop-a-preserved c =
    let v = c.loop-a in
    let xs = take c.min-count.result c.args.l.addresses in
    ap (λ (m : Numbers). pushed_all m (map number (drop (v.a-index + 1) xs))) c.push-m.ensures
    ∙ put_next number (nwk 0) v.m xs v.a-index c.loop-a-test.true
    ∙ v.invariant

pub returns : goal.returns
returns c =
    let l = c.args.l in
    let v = c.loop-a in
    let long : length l.addresses ≡ 32 = search (rules, unmapped) in
    let xs = take c.min-count.result l.addresses in
    ap (λ ys. pushed_all v.m (map number ys)) (sym (drop_of_length-le xs {i = v.a-index} c.loop-a-test.false))
    ∙ v.invariant
    ∙ ap (λ ys. pushed_all c.args.n (map number ys)) (ap (λ k. take k l.addresses) c.min-count.ensures ∙ ap (λ k. take (min l.count k) l.addresses) (sym long) ∙ take_min l.count l.addresses)
