-- At each turn the answer is that of the relays passed.
use mathlib.Core.Bool.{Bool, ◌||◌}
use mathlib.Core.Path.{sym, ap, ◌∙◌}
use lib.Dec.{eqb}
use lib.ListN.{take, get_or}
use Rattle.std.proofs.lemmas.List.{take_more}
use Rattle.standard.specs.Route.{nwk}
use Rattle.route_record.specs.Answer.{among}
use Rattle.route_record.proofs.Room.{among-more}
use Rattle.route_record.proofs.is_among.Goals as goal

pub loop-b-preserved : goal.loop-b-preserved
loop-b-preserved c =
    let v = c.loop-b in
    let k = c.args.a.0 in
    let xs = take c.args.count c.args.l.addresses in
    let b = get_or xs v.b-index (nwk 0) in
    ap (λ (e : Bool). v.found || e) c.eq-found.ensures ∙ ap (λ (e : Bool). e || eqb b.0 k) v.invariant ∙ sym (among-more k (take v.b-index xs) b) ∙ ap (among k) (sym (take_more xs v.b-index (nwk 0) c.loop-b-test.true))
