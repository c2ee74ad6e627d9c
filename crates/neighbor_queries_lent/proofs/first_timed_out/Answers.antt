-- No row passed fits, so that the first of the rest is the first of all.
use mathlib.Core.Path.{◌≡◌, sym, ◌∙◌}
use Rattle.neighbor_table.specs.declared.NeighborEntry.{NeighborEntry}
use Rattle.neighbor_queries.specs.Filter.{fits}
use Rattle.neighbor_queries.specs.declared.Filter.TheVariants.{TimedOut}
use Rattle.neighbor_queries_lent.specs.Read.{lent_times}
use Rattle.neighbor_queries_lent.proofs.Loops.{in-time, ahead_more, first_found, first_ended}
use borrow.Author.Rules.{rules}
use native.Mathlib.Omega.{arith}
use Rattle.neighbor_queries_lent.proofs.first_timed_out.Goals as goal

pub returns-then-is_timed_out : goal.returns-then-is_timed_out
returns-then-is_timed_out c =
    let v = c.loop-i in
    let on = lent_times c.args.links.now c.args.deadlines.now c.args.count in
    let fit = fits (TimedOut c.args.at) in
    (omega (arith, c.loop-i-test.true), λ t f. first_found (on t) f fit v.i (search rules) (sym (in-time (on t) v.i (λ (e : NeighborEntry). c.is_timed_out.result ≡ fit e) c.is_timed_out.ensures) ∙ c.if-is_timed_out.true) (v.invariant t f))

pub loop-i-preserved : goal.loop-i-preserved
loop-i-preserved c =
    let v = c.loop-i in
    let on = lent_times c.args.links.now c.args.deadlines.now c.args.count in
    let fit = fits (TimedOut c.args.at) in
    λ t f. ahead_more (on t) f fit v.i (search rules) (sym (in-time (on t) v.i (λ (e : NeighborEntry). c.is_timed_out.result ≡ fit e) c.is_timed_out.ensures) ∙ c.if-is_timed_out.false) (v.invariant t f)

pub returns : goal.returns
returns c =
    let v = c.loop-i in
    let on = lent_times c.args.links.now c.args.deadlines.now c.args.count in
    (omega arith, λ t f. first_ended (on t) f (fits (TimedOut c.args.at)) v.i c.args.count (search rules) (omega arith) (v.invariant t f))
