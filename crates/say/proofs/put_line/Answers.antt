-- The word, the numbers and the line feed, one after the other.
-- Assumes nothing.
use mathlib.Core.Path.{ap, ◌∙◌}
use lib.ListN.{drop, take}
use Rattle.say.specs.Page.{Page, page, put_byte, puts}
use Rattle.say.specs.Text.{spaced}
use Rattle.say.proofs.Pages.{line-put}
use Rattle.say.proofs.put_line.Goals as goal

pub returns : goal.returns
returns c =
    let a = c.args in
    let p = page a.out.now a.at in
    let ys = drop a.from (take a.end a.xs.now) in
    c.put.ensures
    ∙ (ap (λ (q : Page). put_byte q 10) c.put_numbers-told.ensures
    ∙ (ap (λ (q : Page). put_byte (puts q (spaced ys)) 10) c.put_all-named.ensures ∙ line-put p a.word.now ys))
