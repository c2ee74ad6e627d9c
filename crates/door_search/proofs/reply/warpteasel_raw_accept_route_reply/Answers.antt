-- Columns that are not well formed are refused; in any others what the rule leaves is the call's state, and its answer is said.
use mathlib.Core.Path.{refl}
use borrow.Author.Tests.{not-true, not-false}
use Rattle.std.proofs.Common.{rules}
use Rattle.route_table.proofs.Lent as routes-lent
use Rattle.discovery_table.proofs.Lent as discoveries-lent
use Rattle.search_tables.proofs.Lent.{values-given-back, holds-back}
use Rattle.routing.specs.Search.{accept_route_reply}
use Rattle.routing.specs.State.{well_formed}
use Rattle.door.proofs.Lent.{test_of, formed-in, says-as, search-left, ill-made, rule-made}
use Rattle.door_search.proofs.reply.warpteasel_raw_accept_route_reply.Goals as goal

pub returns-then-not-columns_formed : goal.returns-then-not-columns_formed
unfolding accept_route_reply
returns-then-not-columns_formed c = ill-made well_formed _ _ (test_of _ _ _ (λ _. c.columns_formed.ensures) (not-true _ c.if-not-columns_formed.true-raw)) (λ _. refl) (λ _. record { status = refl; places = refl })

pub invariant_of-held : goal.invariant_of-held
invariant_of-held c = record { formed = routes-lent.told _ (formed-in _ _ _ _ c.columns_formed.ensures (not-false _ c.if-not-columns_formed.false-raw)).routes }

pub invariant_of-open : goal.invariant_of-open
invariant_of-open c = record { formed = discoveries-lent.told _ (formed-in _ _ _ _ c.columns_formed.ensures (not-false _ c.if-not-columns_formed.false-raw)).discoveries }

pub returns : goal.returns
unfolding accept_route_reply
returns c =
    let x = c.reply-answer in
    let now = holds-back _ _ (values-given-back _ x.new.routes _ x.new.discoveries x.ensures.memory _ _ _ _ _ (search rules) (search rules) (search rules) (search rules) (search rules)) _ x.ensures.left.left in
    rule-made well_formed _ _ (test_of _ _ _ (λ _. c.columns_formed.ensures) (not-false _ c.if-not-columns_formed.false-raw)) (λ _. search-left _ _ _ _ _ _ now) (λ _. says-as x.ensures.left.said c.say_reply.ensures)
