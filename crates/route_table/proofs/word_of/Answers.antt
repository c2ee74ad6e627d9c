-- The fields of the word are those of the route.
use Prim.Native.Nat.{◌+◌, ◌*◌}
use mathlib.Core.Path.{◌∙◌}
use Rattle.route_table.specs.Codec.{route_word}
use Rattle.route_table.proofs.word_of.Goals as goal

pub returns : goal.returns
unfolding route_word
returns c =
    c.packed.ensures
    ∙ (λ z. c.args.e.next_hop_address.0
    + c.args.e.path_cost * 65536
    + c.args.e.recent_activity * 16777216
    + c.status_number-n.ensures.0 z * 4294967296
    + c.bit-a.ensures.0 z * 17179869184
    + c.bit-b.ensures.0 z * 34359738368
    + c.bit-c.ensures.0 z * 68719476736
    + c.bit-d.ensures.0 z * 137438953472)
