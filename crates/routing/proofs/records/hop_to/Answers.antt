-- Each hop's answer is taken apart, and its own way said, as the definition goes.
-- Assumes nothing.
use mathlib.Core.Path.{sym, ap}
use Rattle.routing.specs.Records.{hop_to}
use Rattle.routing.proofs.records.hop_to.Goals as goal

pub returns-in-Err : goal.returns-in-Err
returns-in-Err c = ap hop_to (sym c.in-Err.is)
