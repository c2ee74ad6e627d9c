-- With room made, the sender's samples and one more go under its address.
use mathlib.Core.Path.{ap, ◌∙◌}
use Rattle.ring_buffer.specs.declared.RingBuffer.{RingBuffer}
use Rattle.ring_buffer.specs.Ring.{after_push}
use Rattle.waiting_columns.specs.Table.{in_columns}
use Rattle.link_quality.proofs.Sampled.{has_room, sample-waits}
use Rattle.link_quality.proofs.wait.Goals as goal

pub make_room-n-requires : goal.make_room-n-requires
make_room-n-requires c = c.requires.formed

pub find-found-requires : goal.find-found-requires
find-found-requires c = c.make_room-n.ensures.formed

pub place_of-place-requires : goal.place_of-place-requires
place_of-place-requires c = c.make_room-n.ensures.formed

pub put_at-requires : goal.put_at-requires
put_at-requires c =
    let t = in_columns c.args.senders.now c.args.samples.now c.args.waiting in
    (c.make_room-n.ensures.formed, c.place_of-place.ensures, has_room t c.requires c.args.nwk c.args.lqi _ c.make_room-n.ensures)

pub returns : goal.returns
returns c =
    let t = in_columns c.args.senders.now c.args.samples.now c.args.waiting in
    sample-waits t c.requires c.args.nwk c.args.lqi _ c.make_room-n.ensures _ c.find-found.ensures _ (c.push-lqas.ensures ∙ ap (λ (r : RingBuffer). after_push r c.args.lqi) c.ring_in-held.ensures) _ c.put_at.ensures
