-- The fields of the word are those of the part, and each is within its place.
use native.Mathlib.Omega.{arith}
use Prim.Native.Nat.{◌+◌, ◌*◌}
use mathlib.Core.Path.{◌∙◌}
use Rattle.neighbor_columns.specs.Codec.{link_word}
use Rattle.neighbor_columns.proofs.Codec.{device-small, relation-small}
use Rattle.neighbor_columns.proofs.link_word.Goals as goal

pub packed_link-requires : goal.packed_link-requires
packed_link-requires c = (
  c.word-ring.ensures.1,
  c.bit-rx.ensures.1,
  c.bit-keepalive.ensures.1,
  omega (arith, c.number-device.ensures, device-small c.args.part.device_type),
  omega (arith, c.number-relation.ensures, relation-small c.args.part.relationship),
)

pub returns : goal.returns
unfolding link_word
returns c =
    let part = c.args.part in (
      c.packed_link.ensures.0
          ∙ (λ z. c.word-ring.ensures.0 z
          + part.outgoing_cost * 1099511627776
          + c.bit-rx.ensures.0 z * 281474976710656
          + c.bit-keepalive.ensures.0 z * 562949953421312
          + c.number-device.ensures z * 1125899906842624
          + c.number-relation.ensures z * 4503599627370496),
      record { samples = c.word-ring.ensures.2; cost = c.packed_link.ensures.1 },
    )
