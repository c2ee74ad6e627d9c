-- Both entries go over rows that are there, each in its place, so each table holds the rule's rows.
-- Assumes nothing.
use mathlib.Core.List.{List}
use mathlib.Core.Path.{◌≡◌}
use Rattle.standard.specs.declared.DiscoveryEntry.{DiscoveryEntry}
use Rattle.route_table.proofs.Lent as routes-lent
use Rattle.discovery_table.specs.Table as discovery-spec
use Rattle.discovery_table.specs.declared.DiscoveryValues.{DiscoveryValues}
use Rattle.discovery_table.specs.Lent as discoveries
use Rattle.discovery_table.proofs.Lent as discoveries-lent
use Rattle.search_tables.proofs.Packing.{both_hold}
use Rattle.route_reply.proofs.write_reply.Goals as goal

values-holding : (d : DiscoveryValues) (xs : List DiscoveryEntry) → discoveries.value_discoveries d ≡ xs → discovery-spec.Holds (discoveries.value_table d) xs
values-holding d xs p = record { formed = discoveries-lent.values-formed d; rows = p }

pub set_at-requires : goal.set_at-requires
set_at-requires c = rw c.via-e2.ensures c.requires.route

pub set_at-requires-2 : goal.set_at-requires-2
set_at-requires-2 c = rw c.settled-d2.ensures c.requires.discovery

pub returns : goal.returns
returns c =
    let s = c.set_at.ensures.stored in
    let d = c.set_at-2.ensures in
    record {
      memory = record { routes = s.same; keys = d.keys; words = d.words; ends = d.ends; count = d.count };
      kept = c.set_at.ensures.kept;
      left =
          both_hold _ _ (rw c.via-e2.ensures at (routes-lent.holds c.set_at.new.self _ s.routes))
          (rw c.settled-d2.ensures at (values-holding c.set_at-2.new.self _ d.discoveries));
    }
