-- The first row with the address gives the link.
use native.Mathlib.Omega.{arith}
use mathlib.Core.Path.{sym, ap}
use Rattle.neighbor_columns.specs.Codec.{neighbor_from}
use Rattle.neighbor_columns.specs.Lent.{seen}
use Rattle.neighbor_queries.specs.Filter.{fits}
use Rattle.neighbor_queries.specs.declared.Filter.TheVariants.{Address}
use Rattle.neighbor_queries_lent.proofs.Loops.{address-first, first_some, first-no}
use Rattle.neighbor_queries.specs.Answers.{link_in}
use borrow.Author.Rules.{rules}
use Rattle.neighbor_questions_lent.proofs.link.Goals as goal

pub first16-i-requires : goal.first16-i-requires
first16-i-requires c =
    (omega (arith, c.requires.0, c.requires.1.1.0), omega (arith, c.requires.0))

pub returns-then-count-i : goal.returns-then-count-i
returns-then-count-i c =
    let on = seen c.args.keys.now c.args.nwks.now c.args.links.now c.args.count in
    λ t f. ap link_in (sym (first-no (on t) f (fits (Address c.args.nwk)) c.first16-i.result (search rules) (address-first (on t) f c.args.nwk c.first16-i.result c.first16-i.ensures)))

pub bounds-links-i : goal.bounds-links-i
bounds-links-i c =
    omega (arith, c.requires.0, c.requires.1.1.1.0)

pub bounds-keys-i : goal.bounds-keys-i
bounds-keys-i c =
    omega (arith, c.requires.0, c.requires.1.0)

pub returns : goal.returns
unfolding neighbor_from
returns c =
    let on = seen c.args.keys.now c.args.nwks.now c.args.links.now c.args.count in
    λ t f. rw (c.outgoing_cost.ensures, c.incoming_cost.ensures) (ap link_in (sym (first_some (on t) f (fits (Address c.args.nwk)) c.first16-i.result (search rules) (address-first (on t) f c.args.nwk c.first16-i.result c.first16-i.ensures))))
