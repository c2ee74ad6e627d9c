-- What is gathered of the rows that fit is what is read off them, in their order.
use mathlib.Core.Path.{◌≡◌, refl}
use Rattle.neighbor_table.specs.declared.NeighborEntry.{NeighborEntry}
use Rattle.neighbor_columns.specs.Codec.{neighbor_from}
use Rattle.neighbor_queries_lent.specs.Read.{lent_words}
use Rattle.neighbor_queries.specs.Filter.{fits}
use Rattle.neighbor_queries.specs.Lists.{no_address, address_of, nwk_list}
use Rattle.neighbor_queries_lent.proofs.Loops.{in_row}
use borrow.Author.Rules.{rules}
use Rattle.neighbor_queries_lent.proofs.addresses_fitting.Goals as goal

pub returns : goal.returns
unfolding nwk_list neighbor_from
returns c =
    let on = lent_words c.args.nwks.now c.args.links.now c.args.count in
    let fit = fits c.args.filter in
    λ t f. let made = c.gather-count.ensures (on t) fit address_of no_address f refl refl (λ i b h s. in_row (on t) i (λ (e : NeighborEntry). b ≡ fit e) (search rules)) (λ i x h s. search rules) in
    λ z. record { count = made.0 z; addresses = made.1 z }
