-- The call is made with what the numbers give and with the store, and its outcome said.
use mathlib.Core.Path.{◌∙◌}
use Rattle.routing_groups.specs.Recorded.{remove_route_record_call, remove_route_record_store}
use Rattle.routing_groups.proofs.records.remove_route_record.Goals as goal

pub returns : goal.returns
unfolding remove_route_record_call remove_route_record_store
returns c = record { value = c.told_reply.ensures ∙ rw (c.remove_route_record-o.ensures.value, c.nwk-destination.ensures); store_after = c.remove_route_record-o.ensures.store_after ∙ rw c.nwk-destination.ensures }
