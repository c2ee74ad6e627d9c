-- What `all` answers of the statuses in use is whether every one of them fits.
use borrow.Author.Rules.{rules}
use borrow.Author.Tests.{tests}
use mathlib.Core.Bool.{true, false}
use mathlib.Core.Path.{◌≡◌}
use Rattle.std.proofs.lemmas.Iterator.{cases_from_all, YieldsList-from_slice}
use Rattle.neighbor_queries.specs.Lists.{no_status}
use Rattle.link_status.specs.Statuses.{costs_fit, statuses_of}
use Rattle.link_status.proofs.Lists.{all-every}
use Rattle.link_status.proofs.all_costs_fit.Goals as goal

pub returns : goal.returns
returns c =
    all-every costs_fit (statuses_of c.args.command) no_status c.all.result
    (cases_from_all _ _ _ (λ x. costs_fit x ≡ true) (λ x. costs_fit x ≡ false) c.all.ensures.ran (YieldsList-from_slice (statuses_of c.args.command) cc) (λ x q k. search (rules, tests)) (λ x q k. search (rules, tests)))
