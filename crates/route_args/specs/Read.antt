-- Arguments of routing calls by their numbers: the inverse of what answers say.
-- Assumes nothing.
use Rattle.std.specs.Prelude.{ℕ, ◌+◌, ◌%◌, cond, List, map, eqb, take, drop}
use Rattle.types.specs.declared.Nwk.{Nwk}
use Rattle.numbers.specs.Read.{number_at, byte_at, counter_at, flag_at, nwk_at}
use Rattle.standard.specs.declared.ManyToOne.{ManyToOne}
use Rattle.standard.specs.declared.ManyToOne.TheVariants.{NotManyToOne, SenderSupportsRouteRecordTable, SenderDoesntSupportRouteRecordTable, Reserved}
use Rattle.standard.specs.declared.Status.{Status}
use Rattle.standard.specs.declared.Status.TheVariants.{Active, DiscoveryUnderway, DiscoveryFailed, Inactive}
use Rattle.standard.specs.declared.RouteEntry.{RouteEntry}
use Rattle.standard.specs.declared.DiscoveryEntry.{DiscoveryEntry}
use Rattle.standard.specs.declared.RelayList.{RelayList}
use Rattle.standard.specs.Route.{nwk}
use Rattle.flat_map.specs.Rows.{pad}

-- a number past the last is Reserved
unfoldable pub many_to_one_of : ℕ → ManyToOne
many_to_one_of n = cond (eqb n 0) NotManyToOne (cond (eqb n 1) SenderSupportsRouteRecordTable (cond (eqb n 2) SenderDoesntSupportRouteRecordTable Reserved))

-- a number past the last is Inactive
unfoldable pub status_of : ℕ → Status
status_of n = cond (eqb n 0) Active (cond (eqb n 1) DiscoveryUnderway (cond (eqb n 2) DiscoveryFailed Inactive))

-- a number as an address
abbrev pub cut_nwk : ℕ → Nwk
cut_nwk n = nwk (n % 65536)

-- the relays after a count at place b; a count past the list's 32 places is kept, for the call to refuse
unfoldable pub relays_at : List ℕ → ℕ → RelayList
relays_at xs b = record { count = number_at xs b; addresses = pad 32 (nwk 0) (map cut_nwk (take (number_at xs b) (drop (b + 1) xs))) }

-- a route, from place b on
unfoldable pub route_at : List ℕ → ℕ → RouteEntry
route_at xs b = record {
  destination = nwk_at xs b;
  status = status_of (number_at xs (b + 1));
  no_route_cache = flag_at xs (b + 2);
  many_to_one = flag_at xs (b + 3);
  route_record_required = flag_at xs (b + 4);
  expired = flag_at xs (b + 5);
  next_hop_address = nwk_at xs (b + 6);
  path_cost = byte_at xs (b + 7);
  total_usage_count = counter_at xs (b + 8);
  recent_activity = byte_at xs (b + 9);
}

-- a discovery, from place b on
unfoldable pub discovery_at : List ℕ → ℕ → DiscoveryEntry
discovery_at xs b = record {
  route_request_id = byte_at xs (b + 1);
  source_address = nwk_at xs b;
  sender_address = nwk_at xs (b + 2);
  forward_cost = byte_at xs (b + 3);
  residual_cost = byte_at xs (b + 4);
  expiration_time = number_at xs (b + 5);
  destination_address = nwk_at xs (b + 6);
}
