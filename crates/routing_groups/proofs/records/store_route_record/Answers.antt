-- The call is made with what the numbers give and with the store, and its outcome said.
use mathlib.Core.Path.{◌∙◌}
use Rattle.routing_groups.specs.Recorded.{store_route_record_call, store_route_record_store}
use Rattle.routing_groups.proofs.records.store_route_record.Goals as goal

pub returns : goal.returns
unfolding store_route_record_call store_route_record_store
returns c = record { value = c.record_reply.ensures ∙ rw (c.store_route_record-o.ensures.value, c.relays-l.ensures, c.nwk-source.ensures); store_after = c.store_route_record-o.ensures.store_after ∙ rw (c.relays-l.ensures, c.nwk-source.ensures) }
