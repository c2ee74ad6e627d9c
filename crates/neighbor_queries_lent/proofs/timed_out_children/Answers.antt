-- What is gathered of the rows that fit is what is read off them, in their order.
use mathlib.Core.Path.{◌≡◌, refl}
use Rattle.neighbor_table.specs.declared.NeighborEntry.{NeighborEntry}
use Rattle.neighbor_columns.specs.Codec.{neighbor_from}
use Rattle.neighbor_queries_lent.specs.Read.{lent_expiry}
use Rattle.neighbor_queries.specs.Filter.{fits}
use Rattle.neighbor_queries.specs.Lists.{no_child, child_of, child_list}
use Rattle.neighbor_queries_lent.proofs.Loops.{in-time}
use Rattle.neighbor_queries.specs.declared.Filter.TheVariants.{TimedOut}
use borrow.Author.Rules.{rules}
use Rattle.neighbor_queries_lent.proofs.timed_out_children.Goals as goal

pub returns : goal.returns
unfolding child_list neighbor_from
returns c =
    let on = lent_expiry c.args.keys.now c.args.nwks.now c.args.links.now c.args.deadlines.now c.args.count in
    let fit = fits (TimedOut c.args.at) in
    λ t f. let made = c.gather-count.ensures (on t) fit child_of no_child f refl refl (λ i b h s. in-time (on t) i (λ (e : NeighborEntry). b ≡ fit e) (search rules)) (λ i x h s. search rules) in
    λ z. record { count = made.0 z; children = made.1 z }
