-- The ring that waits, or a fresh one, after one more push.
use Prim.Native.Nat.{◌+◌}
use mathlib.Core.Path.{ap, ◌∙◌}
use Rattle.ring_buffer.specs.Ring.{after_push}
use Rattle.ring_buffer.specs.declared.RingBuffer.{RingBuffer}
use Rattle.waiting_table.specs.Entry.{ring_in}
use Rattle.link_status.specs.Digest.{forever, new_router}
use Rattle.link_status_lent.proofs.router_of.Goals as goal

pub returns : goal.returns
returns c =
    let a = c.args in
    c.new_router.ensures
    ∙ ap (new_router a.name a.nwk (a.now_ms + forever) a.now_ms)
    (c.push-lqas.ensures ∙ ap (λ (r : RingBuffer). after_push r a.lqi) (c.ring_in-held.ensures ∙ ap ring_in c.find-found.ensures))
