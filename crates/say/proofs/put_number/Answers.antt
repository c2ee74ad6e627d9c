-- A space, and the number after it.
-- Assumes nothing.
use mathlib.Core.Path.{ap, ◌∙◌}
use Rattle.say.specs.Page.{Page, page, puts}
use Rattle.say.specs.Text.{decimal}
use Rattle.say.proofs.Pages.{number_put}
use Rattle.say.proofs.put_number.Goals as goal

pub returns : goal.returns
returns c =
    let a = c.args in
    c.put_digits.ensures ∙ (ap (λ (p : Page). puts p (decimal a.n)) c.put-to.ensures ∙ number_put (page a.out.now a.at) a.n)
