-- Each word is that of its part, and the other numbers are fields.
use mathlib.Core.List.{[], ◌∷◌}
use mathlib.Core.Path.{◌∙◌, ap}
use Rattle.neighbor_columns.specs.Codec.{link_word, counts_word, LinkRange, CountsRange}
use mathlib.Core.Path.{subst}
use Rattle.neighbor_columns.proofs.words_of.Goals as goal

pub returns : goal.returns
returns c =
    let e = c.args.e in
    let link = c.link_word-link.ensures.0 ∙ ap link_word c.link_part.ensures in
    let counts = c.counts_word-counts.ensures.0 ∙ ap counts_word c.counts_part.ensures in (
      λ z. e.extended_address.0 ∷ e.network_address.0 ∷ link z ∷ counts z ∷ e.timeout_at ∷ e.device_timeout ∷ e.last_link_status_timestamp ∷ e.router_added_timestamp ∷ c.pair_word-beacon.ensures.0 z ∷ c.pair_word-bytes.ensures.0 z ∷ [],
      record {
        link = subst LinkRange c.link_part.ensures c.link_word-link.ensures.1;
        counts = subst CountsRange c.counts_part.ensures c.counts_word-counts.ensures.1;
        beacon = c.pair_word-beacon.ensures.1;
        transmitted = c.pair_word-bytes.ensures.1;
      },
    )
