-- What is gathered of the rows that fit is what is read off them, in their order.
use mathlib.Core.Path.{◌≡◌, refl}
use Rattle.neighbor_table.specs.declared.NeighborEntry.{NeighborEntry}
use Rattle.neighbor_columns.specs.Codec.{neighbor_from}
use Rattle.neighbor_columns.specs.Lent.{seen}
use Rattle.neighbor_queries.specs.Filter.{fits}
use Rattle.neighbor_queries.specs.Lists.{no_name, name_of, eui_list}
use Rattle.neighbor_queries_lent.proofs.Loops.{in_row}
use borrow.Author.Rules.{rules}
use Rattle.neighbor_queries_lent.proofs.names_fitting.Goals as goal

pub returns : goal.returns
unfolding eui_list neighbor_from
returns c =
    let on = seen c.args.keys.now c.args.nwks.now c.args.links.now c.args.count in
    let fit = fits c.args.filter in
    λ t f. let made = c.gather-count.ensures (on t) fit name_of no_name f refl refl (λ i b h s. in_row (on t) i (λ (e : NeighborEntry). b ≡ fit e) (search rules)) (λ i x h s. search rules) in
    λ z. record { count = made.0 z; addresses = made.1 z }
