-- The bytes left, fed to what is read so far, give what the whole gives.
-- Assumes nothing.
use mathlib.Core.Path.{◌≡◌}
use lib.ListN.{drop}
use Rattle.script.specs.Reading.{fed}
use Rattle.script.proofs.feed.Given as goal

abbrev pub invariant-loop-b : goal.invariant-loop-b
invariant-loop-b l = fed l.t (drop l.b-index l.bytes) ≡ fed l.initial.t l.bytes
