-- What is put already, and the rest of the relays put after it, is all of them put.
use mathlib.Core.List.{map}
use mathlib.Core.Path.{◌≡◌}
use lib.ListN.{drop}
use Rattle.numbers.specs.Said.{pushed_all}
use Rattle.relay_store.specs.Store.{number}
use Rattle.route_answers.proofs.push_addresses.Given as goal

abbrev pub invariant-loop-a : goal.invariant-loop-a
invariant-loop-a l = pushed_all l.m (map number (drop l.a-index l.a-items)) ≡ pushed_all l.initial.m (map number l.a-items)
